-- Where the field lies, as a part of the token.
use mathlib.Core.Path.{ap, ◌∙◌}
use Rattle.format.specs.Views.{bytes_there, view}
use native.Mathlib.Omega.{arith}
use Rattle.views.proofs.Laws.{field_within, part_there}
use Rattle.views.proofs.view.Goals as goal

pub returns-in_default : goal.returns-in_default
unfolding view
returns-in_default c = ap (bytes_there c.args.token.now) c.in_default.ensures

pub slice_bounds-result-end-2 : goal.slice_bounds-result-end-2
slice_bounds-result-end-2 c =
    let f = field_within c.args.token.now c.args.row c.args.field (λ k. (c.type_inv.token k).fits) c.in-Ok.ensures in
    omega (arith, f.0)

pub returns : goal.returns
unfolding view
returns c = part_there c.args.token.now _ _ ∙ ap (bytes_there c.args.token.now) c.in-Ok.ensures
