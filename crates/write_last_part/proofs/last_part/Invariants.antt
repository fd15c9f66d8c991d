-- The loop over the parts, each as long as it states.
use Prim.Native.Nat.{◌-◌}
use lib.ListN.{length}
use Rattle.write_last_part.proofs.Stepping.{Stepped}
use Rattle.write_last_part.proofs.last_part.Given as goal

abbrev pub invariant-loop-p : goal.invariant-loop-p
invariant-loop-p l = Stepped l.s l.first l.last l.p

abbrev pub decreases-loop-p : goal.decreases-loop-p
decreases-loop-p l = length l.s - l.p
