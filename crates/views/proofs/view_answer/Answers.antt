-- Where the field lies, as an answer.
use mathlib.Core.Path.{ap, ◌∙◌}
use Rattle.format.specs.Views.{whether_there, view_answer}
use Rattle.format.proofs.Answers.{passed_up}
use Rattle.views.proofs.view_answer.Goals as goal

pub returns-in_err-_span : goal.returns-in_err-_span
unfolding view_answer
returns-in_err-_span c = passed_up c.from_residual.ensures ∙ ap whether_there c.in_err-_span.ensures

pub returns : goal.returns
unfolding view_answer
returns c = ap whether_there c.in_ok-_span.ensures
