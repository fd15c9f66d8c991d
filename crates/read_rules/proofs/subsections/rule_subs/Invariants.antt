-- The loop over the subsections of a rule: what is read from here is what is read from the first one on.
use Prim.Native.Nat.{◌-◌}
use Rattle.read_rules.specs.Loops.{RuleRead}
use Rattle.read_rules.proofs.subsections.rule_subs.Given as goal

abbrev pub invariant-loop-at : goal.invariant-loop-at
invariant-loop-at l = RuleRead l.section.bytes.now l.section.place l.end l.at l.rows l.places

abbrev pub decreases-loop-at : goal.decreases-loop-at
decreases-loop-at l = l.end - l.at
