-- The fixed fields of sections 12 and 14. Assumes nothing.
use mathlib.Core.Path.{◌≡◌, refl, sym, ap, ◌∙◌}
use mathlib.Core.Bool.{Bool, true, false, ◌||◌, not}
use mathlib.Core.List.{List, [], append-nil}
use Prim.Native.Nat.{ℕ, ◌≤◌}
use native.Mathlib.Omega.{arith}
use lib.Dec.{eqb}
use borrow.Author.Tests.{eqb-true, eq-eqb, ne_eqb}
use Rattle.format.specs.Layout.{write, fits}
use Rattle.format.specs.Parts.{Kind, section_id, layout, is_subsection, Part, size}
use Rattle.format.specs.Slots.{least}
use Rattle.format.specs.Reading.{holds_subs}
use Rattle.format.proofs.Finding.{every_kind, or_else}
use Rattle.format.proofs.Grouping.{is_true, is_false}
use Rattle.format.proofs.Fitting.{part_fits}
use Rattle.format.proofs.PartForm.{part_read}
use Rattle.format.proofs.Sound.{fixed_made}
use Rattle.write_subsection.specs.LastSection.{holds_subsections, fixed_fields}

pub fixed_rule : {i : ℕ} → i ≡ 0x12 → 20 ≡ fixed_fields i
fixed_rule {i} e = sym (is_true (eqb i 0x12) 20 10 (eq-eqb i 0x12 e))

pub fixed_other : {i : ℕ} → (i ≡ 0x12 → ⊥) → 10 ≡ fixed_fields i
fixed_other {i} e = sym (is_false (eqb i 0x12) 20 10 (ne_eqb i 0x12 e))

-- They have 4 to 20 bytes.
pub fixed_size : (i : ℕ) → (4 ≤ fixed_fields i) × (fixed_fields i ≤ 20)
fixed_size i = go (eqb i 0x12)
  where
    go : (b : Bool) → (4 ≤ elim b as (λ x. ℕ) [ true ↦ 20 | false ↦ 10 ]) × (elim b as (λ x. ℕ) [ true ↦ 20 | false ↦ 10 ] ≤ 20)
    go true = (omega arith, omega arith)
    go false = (omega arith, omega arith)

-- A section with one of the two ids has subsections,
holds : (k : Kind) → is_subsection k ≡ false → holds_subsections (section_id k) ≡ true → holds_subs k ≡ true
holds k f e =
    or_else _ _ (or_else _ _ (every_kind (λ j. is_subsection j || (not (holds_subsections (section_id j)) || holds_subs j)) refl k) f) (ap not e)

-- and its own fields have a fixed length.
pub head_fixed : (p : Part) (i : ℕ) → is_subsection p.kind ≡ false → fits [] (layout p.kind) p.fields ≡ true → section_id p.kind ≡ i
    → holds_subsections i ≡ true → size p ≡ fixed_fields i
head_fixed p i f fit e h =
    let k : Kind = p.kind in
    let s = holds k f (ap holds_subsections e ∙ h) in
    let r : List ℕ = write 0 (layout k) p.fields in
    let made = (part_read p 0 r [] (part_fits k 0 p.fields (omega arith) fit) (sym (append-nil r))).3 in
    let same = or_else _ _ (every_kind (λ j. not (holds_subs j) || eqb (least (layout j)) (fixed_fields (section_id j))) refl k) (ap not s) in
    sym made ∙ fixed_made k r s ∙ eqb-true (least (layout k)) (fixed_fields (section_id k)) same ∙ ap fixed_fields e

-- Both ids are below those of tokens.
pub holds_small : (i : ℕ) → holds_subsections i ≡ true → i ≤ 0x14
holds_small i h = go (eqb i 0x12) refl
  where
    go : (v : Bool) → eqb i 0x12 ≡ v → i ≤ 0x14
    go true q = let x = eqb-true i 0x12 q in omega arith
    go false q = let x = eqb-true i 0x14 (sym (ap (λ (v : Bool). v || eqb i 0x14) q) ∙ h) in omega arith
