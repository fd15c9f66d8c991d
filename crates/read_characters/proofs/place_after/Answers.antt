-- The spaces behind a field's characters. Assumes nothing.
use Rattle.std.proofs.Common.{rules, arith, ◌≡◌, drop, refl, ap, sym, ◌∙◌}
use Rattle.std.proofs.lemmas.Slice.{between_to_end}
use Rattle.format.specs.Forms.{leading, space}
use Rattle.read_characters.specs.Classes.{of_class, space_class}
use Rattle.read_characters.proofs.Classes.{space_class_is}
use Rattle.read_characters.proofs.Runs.{leading_same}
use Rattle.read_characters.proofs.Templates.{place_none, place_some}
use Rattle.read_characters.proofs.place_after.Goals as goal

pub returns-then-n-eq0 : goal.returns-then-n-eq0
returns-then-n-eq0 c = (sym (place_none _ _ c.if-n-eq0.true), search rules)

pub returns : goal.returns
returns c =
    let xs = c.args.field.now in
    let n = c.args.n in
    let spaces : c.leading.result ≡ leading space (drop n xs)
    = c.leading.ensures.0 ∙ ap (leading (of_class space_class space_class)) (between_to_end xs n _ (omega arith))
    ∙ sym (leading_same space (of_class space_class space_class) space_class_is (drop n xs)) in
    (rw (place_some n xs c.if-n-eq0.false, spaces) refl, search rules)
