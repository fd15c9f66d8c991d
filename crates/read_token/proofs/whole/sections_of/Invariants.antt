-- The loop over the sections.
use Prim.Native.Nat.{◌-◌}
use lib.ListN.{length}
use Rattle.read_token.proofs.Sections.{Turn}
use Rattle.read_token.proofs.whole.sections_of.Given as goal

abbrev pub invariant-loop-p : goal.invariant-loop-p
invariant-loop-p l = Turn l.s l.full l.external l.p l.rows l.seen

abbrev pub decreases-loop-p : goal.decreases-loop-p
decreases-loop-p l = length l.s - l.p
