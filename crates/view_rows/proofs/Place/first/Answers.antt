-- The first place, number by number.
use mathlib.Core.Path.{refl}
use Rattle.view_rows.proofs.Place.first.Goals as goal

pub returns : goal.returns
returns c = (refl, refl, refl)
