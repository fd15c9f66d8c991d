-- The number of a section's rule.
use Rattle.read_rows.proofs.Places.{in_rule, in_no_rule}
use Rattle.read_rows.proofs.rule_in.Goals as goal

pub returns-then-id-eq18 : goal.returns-then-id-eq18
returns-then-id-eq18 c = in_rule c.args.rules c.if-id-eq18.true

pub returns-else-id-eq18 : goal.returns-else-id-eq18
returns-else-id-eq18 c = in_no_rule c.args.id c.args.rules c.if-id-eq18.false
