-- The second pass, section by section: what is left to store makes the whole table.
use Prim.Native.Nat.{◌-◌}
use lib.ListN.{length}
use Rattle.read_rows.specs.Filling.{Sections}
use Rattle.read_rows.proofs.fill.Given as goal

abbrev pub invariant-loop-p : goal.invariant-loop-p
invariant-loop-p l = Sections l.s l.initial.table l.table l.p l.rules l.n

abbrev pub decreases-loop-p : goal.decreases-loop-p
decreases-loop-p l = length l.s - l.p
