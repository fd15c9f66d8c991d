-- What is required of a rule, by its flags and its subsections.
use mathlib.Core.Path.{◌∙◌}
use Rattle.read_rules.proofs.Ends.{required_told}
use Rattle.read_rules.proofs.subsections.has_required.Goals as goal

pub returns-else-exported : goal.returns-else-exported
returns-else-exported c us e = let past = c.if-exported.false in required_told c.args.s.now us c.args.full past.0 (e ∙ past.1) c.four.ensures
