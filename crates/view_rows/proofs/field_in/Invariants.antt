-- Where a field of a row lies: its row is looked for among the rows from a place on.
use Prim.Native.Nat.{◌-◌}
use lib.ListN.{length}
use Rattle.view_rows.specs.Walk.{Seeking}
use Rattle.view_rows.proofs.field_in.Given as goal

abbrev pub invariant-loop-p : goal.invariant-loop-p
invariant-loop-p l = Seeking l.s l.row l.p

abbrev pub decreases-loop-p : goal.decreases-loop-p
decreases-loop-p l = length l.s - l.p.at
