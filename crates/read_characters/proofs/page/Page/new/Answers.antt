-- The rule of the page, once over all 256 entries: one test, which antt computes. Assumes nothing.
use mathlib.Core.Path.{refl}
use Rattle.read_characters.specs.Page.{is_page}
use Rattle.read_characters.proofs.page.Page.new.Goals as goal

pub invariant_of-result : goal.invariant_of-result
unfolding is_page
invariant_of-result c = refl
