-- The loop over the sections that are no rules of 20 bytes.
use Prim.Native.Nat.{◌-◌, ◌≤◌}
use lib.ListN.{length, drop}
use Rattle.write_judged_section.specs.Placing.{PassedTo}
use Rattle.write_judged_section.proofs.stands.Given as goal

abbrev pub invariant-loop-p : goal.invariant-loop-p
invariant-loop-p l = (l.p ≤ length l.s) × PassedTo l.id (drop l.p l.s) (drop 8 l.s)

abbrev pub decreases-loop-p : goal.decreases-loop-p
decreases-loop-p l = length l.s - l.p
