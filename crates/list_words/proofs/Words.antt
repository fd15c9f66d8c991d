-- The words of a line: a tag's digits, a kind's, and the word for an id. Assumes nothing.
use mathlib.Core.Path.{◌≡◌, sym, ap, ◌∙◌}
use mathlib.Core.List.{List, [], ◌∷◌, ◌++◌, append_assoc}
use Prim.Native.Nat.{ℕ, ◌/◌, ◌%◌}
use lib.Dec.{eqb}
use borrow.Author.Tests.{ne_eqb}
use Rattle.format.specs.Lines.{text, hexadecimal, tag_text, kind_text}
use Rattle.format.proofs.Grouping.{is_false}
use Rattle.list_words.specs.Numerals.{numeral}
use Rattle.list_words.proofs.Numerals.{hexadecimal_is}

-- a tag that is not 0, in four digits
pub tag_is : (g : ℕ) → (g ≡ 0 → ⊥) → tag_text g ≡ numeral 16 4 g
tag_is g h = is_false (eqb g 0) (text "-") (hexadecimal 4 g) (ne_eqb g 0 h) ∙ hexadecimal_is 4 g

-- a kind's section id and tag, with a space after each
pub kind_is : (k : ℕ) → (numeral 16 2 (k / 65536) ++ (32 ∷ [])) ++ (tag_text (k % 65536) ++ (32 ∷ [])) ≡ kind_text k ++ (32 ∷ [])
kind_is k =
    ap (λ (h : List ℕ). (h ++ (32 ∷ [])) ++ (tag_text (k % 65536) ++ (32 ∷ []))) (sym (hexadecimal_is 2 (k / 65536)))
    ∙ sym (append_assoc (hexadecimal 2 (k / 65536) ++ (32 ∷ [])) (tag_text (k % 65536)) (32 ∷ []))
