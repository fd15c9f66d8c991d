-- The loop over parts of 20 bytes.
use Prim.Native.Nat.{◌-◌}
use lib.ListN.{length}
use Rattle.write_last_part.specs.Tiling.{Twenties}
use Rattle.write_last_part.proofs.last_twenty.Given as goal

abbrev pub invariant-loop-q : goal.invariant-loop-q
invariant-loop-q l = Twenties l.s l.p l.q

abbrev pub decreases-loop-q : goal.decreases-loop-q
decreases-loop-q l = length l.s - l.q
