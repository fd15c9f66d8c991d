-- The length of a label template, by its first character, those after it and the star. Assumes nothing.
use Rattle.std.proofs.Common.{rules, arith, ◌≡◌, ◌+◌, drop, get_or, refl, ap, sym, ◌∙◌}
use lib.Seq.{take_all}
use Rattle.std.proofs.lemmas.Slice.{between_to_end}
use borrow.Author.Tests.{eq-eqb, ne_eqb}
use Rattle.format.specs.Forms.{leading, one_star}
use Rattle.read_characters.specs.Classes.{of_class, label_class, digit_class, star_class}
use Rattle.read_characters.proofs.Templates.{length_none, length_some}
use Rattle.read_characters.proofs.template_length.Goals as goal

pub returns-then-not-may_be_first : goal.returns-then-not-may_be_first
returns-then-not-may_be_first c =
    let xs = c.args.field.now in
    let first = c.may_be_first.ensures (get_or xs 0 0) c.character-first.ensures in
    (sym (length_none xs (sym first ∙ c.if-not-may_be_first.true)), search rules)

pub returns-then-starred : goal.returns-then-starred
returns-then-starred c =
    let xs = c.args.field.now in
    let first = c.may_be_first.ensures (get_or xs 0 0) c.character-first.ensures in
    let run : 1 + c.leading-n.result ≡ 1 + leading (of_class label_class digit_class) (drop 1 xs) = search (rules, take_all) in
    (rw (length_some xs c.requires (sym first ∙ c.if-not-may_be_first.false) c.character-first.ensures run, eq-eqb _ star_class c.if-starred.true) (omega arith), search rules)

pub returns : goal.returns
returns c =
    let xs = c.args.field.now in
    let first = c.may_be_first.ensures (get_or xs 0 0) c.character-first.ensures in
    let run : 1 + c.leading-n.result ≡ 1 + leading (of_class label_class digit_class) (drop 1 xs) = search (rules, take_all) in
    let star : c.one_star.result ≡ one_star (drop (1 + c.leading-n.result) xs) = c.one_star.ensures.0 ∙ ap one_star (between_to_end xs _ _ (omega arith)) in
    (rw (length_some xs c.requires (sym first ∙ c.if-not-may_be_first.false) c.character-first.ensures run, ne_eqb _ star_class c.if-starred.false, star) refl, search rules)
