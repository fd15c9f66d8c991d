-- The step at a place: the walk over the parts goes to the place, or past it.
use Prim.Native.Nat.{◌-◌}
use Rattle.view_rows.specs.Walk.{Stepping}
use Rattle.view_rows.proofs.step_in.Given as goal

abbrev pub invariant-loop-p : goal.invariant-loop-p
invariant-loop-p l = Stepping l.s l.at l.p

abbrev pub decreases-loop-p : goal.decreases-loop-p
decreases-loop-p l = l.at - l.p.at
