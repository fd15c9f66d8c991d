-- The loop over the subsections of section 14: what is read from here is what is read from the first one on.
use Prim.Native.Nat.{◌-◌}
use Rattle.read_information.specs.Loops.{InformationRead}
use Rattle.read_information.proofs.information_subs.Given as goal

abbrev pub invariant-loop-at : goal.invariant-loop-at
invariant-loop-at l = InformationRead l.section.bytes.now l.section.place l.end l.external l.at l.rows l.protected l.dated

abbrev pub decreases-loop-at : goal.decreases-loop-at
decreases-loop-at l = l.end - l.at
