-- The reading first, then the step.
use mathlib.Core.Path.{◌∙◌}
use Rattle.format.proofs.Answers.{passed_up}
use Rattle.views.proofs.Laws.{whole, walk_refused}
use Rattle.views.proofs.step.Goals as goal

pub step_in-requires : goal.step_in-requires
step_in-requires c = whole c.args.token.now c.in_ok-_count.ensures (λ k. (c.type_inv.token k).fits)

pub returns-in_err-_count : goal.returns-in_err-_count
returns-in_err-_count c = passed_up c.from_residual.ensures ∙ walk_refused c.args.token.now c.args.place c.in_err-_count.ensures
