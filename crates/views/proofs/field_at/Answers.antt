-- The reading first, then the field.
use mathlib.Core.Path.{◌∙◌}
use Rattle.format.proofs.Answers.{passed_up}
use Rattle.views.proofs.Laws.{whole, field_refused}
use Rattle.views.proofs.field_at.Goals as goal

pub field_in-requires : goal.field_in-requires
field_in-requires c = whole c.args.token.now c.in_ok-_rows.ensures (λ k. (c.type_inv.token k).fits)

pub returns-in_err-_rows : goal.returns-in_err-_rows
returns-in_err-_rows c =
    passed_up c.from_residual.ensures ∙ field_refused c.args.token.now c.args.row c.args.field c.in_err-_rows.ensures
