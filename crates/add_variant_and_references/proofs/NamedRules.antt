-- The two subsections that hold a Rule ID, over the tag. Assumes nothing.
use mathlib.Core.Path.{◌≡◌, refl, sym, ap, subst, ◌∙◌}
use mathlib.Core.Bool.{true}
use mathlib.Core.List.{List, [], ◌∷◌, ◌++◌}
use Prim.Native.Nat.{ℕ}
use lib.ListN.{length}
use Rattle.format.specs.Layout.{Item, fits, write}
use Rattle.format.specs.Parts.{Kind, transport_rule, frame, body}
use Rattle.format.specs.Writer.{write_answer, draft_after, addition}
use Rattle.format.specs.Answers.{Answer}
use Rattle.write_section.specs.Adding.{unfit, subsection_added}
use Rattle.add_variant_and_references.specs.References.{NamesRule}
use Rattle.write_section.proofs.Additions.{Added, unfit_added, subsection_made}
use Rattle.write_section.proofs.Fields.{fixed_fits, fixed_unfit}

-- a Rule ID that is not of 8 bytes
rule_unfit : {r : Answer} (k : Kind) (g : ℕ) (x d : List ℕ) → NamesRule k g → (length x ≡ 8 → ⊥) → r ≡ write_answer (unfit d)
    → (r ≡ write_answer (addition k (x ∷ []) d)) × (d ≡ draft_after (addition k (x ∷ []) d) d)
rule_unfit k g x d y h e =
    unfit_added k (x ∷ []) d (ap (λ (l : List Item). fits [] l (x ∷ [])) y.fields ∙ fixed_unfit (length x) 8 true h) e

-- the bytes of the subsection, put together and added
rule_put : {r : Answer} {e : List ℕ} (k : Kind) (g : ℕ) (x d w : List ℕ) → NamesRule k g → length x ≡ 8
    → w ≡ write 14 (frame true 0x12 g ++ body transport_rule) (x ∷ []) → 14 ≡ length w
    → Added r e d (subsection_added 0x12 d w)
    → (r ≡ write_answer (addition k (x ∷ []) d)) × (e ≡ draft_after (addition k (x ∷ []) d) d)
rule_put {r} {e} k g x d w y h s l a =
    subsection_made k (x ∷ []) d w 14 y.subsection
    (ap (λ (l : List Item). fits [] l (x ∷ [])) y.fields ∙ fixed_fits (length x) 8 h refl)
    (s ∙ ap (λ (l : List Item). write 14 l (x ∷ [])) (sym y.fields))
    l
    (subst (λ (i : ℕ). Added r e d (subsection_added i d w)) (sym y.section) a)

-- ---- of each of the two kinds

pub rules_unfit : {r : Answer} (g : ℕ) (x d : List ℕ) → (length x ≡ 8 → ⊥) → r ≡ write_answer (unfit d)
    → ((k : Kind) → NamesRule k g → r ≡ write_answer (addition k (x ∷ []) d))
    × ((k : Kind) → NamesRule k g → d ≡ draft_after (addition k (x ∷ []) d) d)
rules_unfit g x d h e = (λ k y. (rule_unfit k g x d y h e).0, λ k y. (rule_unfit k g x d y h e).1)

pub rules_put : {r : Answer} {e : List ℕ} (g : ℕ) (x d w : List ℕ) → length x ≡ 8
    → w ≡ write 14 (frame true 0x12 g ++ body transport_rule) (x ∷ []) → 14 ≡ length w
    → Added r e d (subsection_added 0x12 d w)
    → ((k : Kind) → NamesRule k g → r ≡ write_answer (addition k (x ∷ []) d))
    × ((k : Kind) → NamesRule k g → e ≡ draft_after (addition k (x ∷ []) d) d)
rules_put g x d w h s l a = (λ k y. (rule_put k g x d w y h s l a).0, λ k y. (rule_put k g x d w y h s l a).1)
