-- The loop over the sections before p.
use mathlib.Core.List.{List}
use Prim.Native.Nat.{◌-◌}
use Rattle.format.specs.Rules.{Section}
use Rattle.read_token.specs.Progress.{Ahead, Noted}
use Rattle.read_token.proofs.runs.note_before.Given as goal

abbrev pub invariant-loop-q : goal.invariant-loop-q
invariant-loop-q l = (before : List Section) → Ahead l.s 8 before l.p → Noted l.s before l.p l.q l.ids

abbrev pub decreases-loop-q : goal.decreases-loop-q
decreases-loop-q l = l.p - l.q
