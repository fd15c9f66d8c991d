-- The two tests of a rule without subsections.
use Rattle.read_rows.proofs.Steps.{has_id, no_id}
use Rattle.read_rows.proofs.is_bare_rule.Goals as goal

pub returns-then-id-eq18 : goal.returns-then-id-eq18
returns-then-id-eq18 c = has_id c.args.id c.args.length c.if-id-eq18.true

pub returns-else-id-eq18 : goal.returns-else-id-eq18
returns-else-id-eq18 c = no_id c.args.id c.args.length c.if-id-eq18.false
