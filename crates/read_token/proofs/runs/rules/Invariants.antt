-- A run of rules.
use mathlib.Core.Bool.{Bool}
use mathlib.Core.List.{List}
use Prim.Native.Nat.{◌-◌, ◌≤◌}
use lib.ListN.{length}
use Rattle.read_token.specs.Progress.{SectionsRead, Running}
use Rattle.read_token.proofs.runs.rules.Given as goal

abbrev pub invariant-loop-p : goal.invariant-loop-p
invariant-loop-p l = (l.first ≤ l.p) × ((x : Bool) (seen : List Bool) → SectionsRead l.s l.full x l.first l.rows seen → Running l.s l.full x seen l.p l.n l.ids)

abbrev pub decreases-loop-p : goal.decreases-loop-p
decreases-loop-p l = length l.s - l.p
