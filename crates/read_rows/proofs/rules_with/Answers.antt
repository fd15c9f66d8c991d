-- The rules up to a section.
use Rattle.read_rows.proofs.Places.{one_rule_more, no_rule_more}
use Rattle.read_rows.proofs.rules_with.Goals as goal

pub returns-then-id-eq18 : goal.returns-then-id-eq18
returns-then-id-eq18 c = one_rule_more c.args.rules c.if-id-eq18.true

pub returns-else-id-eq18 : goal.returns-else-id-eq18
returns-else-id-eq18 c = no_rule_more c.args.id c.args.rules c.if-id-eq18.false
