-- A section that is no rule: its answer where nothing refuses it, and the ids of no section.
use Rattle.std.specs.Prelude.{⊤, Ok, Err}
use mathlib.Core.Path.{◌≡◌, refl, sym, ap, ◌∙◌}
use mathlib.Core.Bool.{Bool, true, false, ◌||◌}
use mathlib.Core.List.{List}
use mathlib.Core.Option.{Option, none, some}
use Prim.Native.Nat.{ℕ, ◌≤◌}
use native.Mathlib.Omega.{arith}
use lib.Dec.{eqb}
use lib.ListN.{length, get_or}
use borrow.Author.Tests.{ne_eqb}
use Rattle.format.specs.Parts.{Kind, rule, information, is_subsection, section_id, same_kind}
use Rattle.format.specs.Reading.{id_of, section_kind, part_in, kind_before, rule_before, section_checks, section, as_answer}
use Rattle.format.specs.Rules.{Section}
use Rattle.format.specs.declared.Refusal.{Refusal}
use Rattle.format.proofs.Finding.{every_kind, section_kind_sound, section_kind_told}
use Rattle.read_sections.specs.Refusals.{first_refusal, section_rows}
use Rattle.read_sections.proofs.Laws.{byte_number}
use Rattle.read_sections.proofs.Heads.{section_stops, plain_found}

-- The kind of a section, from its first byte.
pub kind_told : (k : Kind) (r : List ℕ) → 4 ≤ length r → is_subsection k ≡ false → get_or r 0 0 ≡ section_id k → section_kind (id_of r) ≡ some k
kind_told k r h f e = ap section_kind (sym (byte_number r 0 (omega arith)) ∙ e) ∙ section_kind_told k f

-- A section without subsections: a test refuses it, or it is found.
module _ (full x : Bool) (k : Kind) (before : List Section) (r : List ℕ) (p : ℕ) {seen : Bool} (h : 4 ≤ length r)
    (e : section_kind (id_of r) ≡ some k) (a : kind_before k before ≡ seen) where
  pub alone_stops : {v : Refusal} → ((y repeated : Bool) → Err v ≡ first_refusal p (section_checks y k seen repeated r))
      → Err v ≡ as_answer section_rows (section full x before p r)
  alone_stops t = section_stops full x k before r p h e a refl (t x (rule_before (part_in k r) before))

  pub alone_found : {u : ⊤} → ((y repeated : Bool) → Ok u ≡ first_refusal p (section_checks y k seen repeated r))
      → same_kind rule k ≡ false → same_kind information k ≡ false → Ok 1 ≡ as_answer section_rows (section full x before p r)
  unfolding as_answer
  alone_found t rules informs =
      sym (ap (as_answer section_rows) (plain_found full x k before r p h e a refl (t x (rule_before (part_in k r) before)) rules informs))

-- An id other than the five is no section's.
none_of : (a b c d e f : Bool) → (a || (b || (c || (d || (e || f))))) ≡ true → a ≡ false → b ≡ false → c ≡ false → d ≡ false → e ≡ false → f ≡ false → ⊥
none_of true b c d e f t p q r u v w = let y : ◌≡◌ {A = ℕ} 0 1 = cc in omega arith
none_of false true c d e f t p q r u v w = let y : ◌≡◌ {A = ℕ} 0 1 = cc in omega arith
none_of false false true d e f t p q r u v w = let y : ◌≡◌ {A = ℕ} 0 1 = cc in omega arith
none_of false false false true e f t p q r u v w = let y : ◌≡◌ {A = ℕ} 0 1 = cc in omega arith
none_of false false false false true f t p q r u v w = let y : ◌≡◌ {A = ℕ} 0 1 = cc in omega arith
none_of false false false false false true t p q r u v w = let y : ◌≡◌ {A = ℕ} 0 1 = cc in omega arith
none_of false false false false false false t p q r u v w = let y : ◌≡◌ {A = ℕ} 0 1 = cc in omega arith

pub unknown : (i : ℕ) → (i ≡ 0x11 → ⊥) → (i ≡ 0x12 → ⊥) → (i ≡ 0x13 → ⊥) → (i ≡ 0x14 → ⊥) → (i ≡ 0x15 → ⊥) → section_kind i ≡ none
unknown i a b c d e = go (section_kind i) refl
  where
    go : (m : Option Kind) → section_kind i ≡ m → section_kind i ≡ none
    go none q = q
    go (some k) q =
        let w = section_kind_sound i k q in
        let z = w.1 in
        let t = every_kind (λ j. is_subsection j || (eqb (section_id j) 0x11 || (eqb (section_id j) 0x12 || (eqb (section_id j) 0x13 || (eqb (section_id j) 0x14 || eqb (section_id j) 0x15))))) refl k in
        absurd
        (none_of _ _ _ _ _ _ t w.0 (ne_eqb (section_id k) 0x11 (λ y. a (sym z ∙ y))) (ne_eqb (section_id k) 0x12 (λ y. b (sym z ∙ y)))
        (ne_eqb (section_id k) 0x13 (λ y. c (sym z ∙ y))) (ne_eqb (section_id k) 0x14 (λ y. d (sym z ∙ y))) (ne_eqb (section_id k) 0x15 (λ y. e (sym z ∙ y))))
