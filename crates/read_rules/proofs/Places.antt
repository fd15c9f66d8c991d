-- The parts of a kind in a list with one part more, and their place. Assumes nothing.
use Rattle.std.specs.Prelude.{Some, None, is_some, unwrap_or}
use mathlib.Core.Path.{◌≡◌, refl, sym, ap, ap₂, ◌∙◌}
use mathlib.Core.Bool.{Bool, true, false, ◌||◌}
use mathlib.Core.List.{List, [], ◌∷◌, ◌++◌}
use Prim.Native.Nat.{ℕ, ◌+◌, ◌≤◌}
use native.Mathlib.Nat.{add-zero}
use native.Mathlib.Omega.{arith}
use lib.ListN.{length, drop}
use Rattle.format.specs.Parts.{Kind, same_kind, Part, size}
use Rattle.format.specs.Rules.{has, of_kind}
use Rattle.format.specs.Reading.{made_length, part_in, place_of}
use Rattle.format.proofs.Finding.{same_kind_refl}
use Rattle.format.proofs.Beginnings.{kind_join}
use Rattle.read_sections.proofs.Subs.{kind_other}
use Rattle.read_rules.specs.Loops.{Place, standing, Once}

-- ---- one part more

-- Where it is of this kind and the first, it is the only one.
kind_same : (k : Kind) (us : List Part) (u : Part) → same_kind k u.kind ≡ true → of_kind k us ≡ [] → of_kind k (us ++ u ∷ []) ≡ u ∷ []
kind_same k us u e h =
    kind_join k us (u ∷ [])
    ∙ ap₂ (λ (l : List Part) (b : Bool). l ++ elim b as (λ y. List Part) [ true ↦ u ∷ [] | false ↦ [] ]) h e

-- the list has a part
abbrev any_part : List Part → Bool
any_part [] = false
any_part (u ∷ us) = true

-- A kind stands among parts where there are parts of it.
has_of : (k : Kind) (us : List Part) → has k us ≡ any_part (of_kind k us)
has_of k [] = refl
has_of k (u ∷ us) = go (same_kind k u.kind) (has_of k us)
  where
    go : (b : Bool) → has k us ≡ any_part (of_kind k us)
        → (b || has k us) ≡ any_part (elim b as (λ y. List Part) [ true ↦ u ∷ of_kind k us | false ↦ of_kind k us ])
    go true ih = refl
    go false ih = ih

-- The place of a kind stays where a part of it stands or the new one is of it; else it is the end, moved by that part's size.
place_last : (k : Kind) (u : Part) (at : ℕ) (us : List Part)
    → place_of k at (us ++ u ∷ []) ≡ place_of k at us + elim (has k us || same_kind k u.kind) as (λ y. ℕ) [ true ↦ 0 | false ↦ size u ]
place_last k u at [] = go (same_kind k u.kind)
  where
    go : (b : Bool) → ◌≡◌ {A = ℕ} (elim b [ true ↦ at | false ↦ at + size u ]) (at + elim b as (λ y. ℕ) [ true ↦ 0 | false ↦ size u ])
    go true = sym (add-zero at)
    go false = refl
place_last k u at (v ∷ us) = go (same_kind k v.kind) (place_last k u (at + size v) us)
  where
    go : (b : Bool) → place_of k (at + size v) (us ++ u ∷ []) ≡ place_of k (at + size v) us + elim (has k us || same_kind k u.kind) as (λ y. ℕ) [ true ↦ 0 | false ↦ size u ]
        → ◌≡◌ {A = ℕ} (elim b [ true ↦ at | false ↦ place_of k (at + size v) (us ++ u ∷ []) ])
        (elim b as (λ y. ℕ) [ true ↦ at | false ↦ place_of k (at + size v) us ] + elim ((b || has k us) || same_kind k u.kind) as (λ y. ℕ) [ true ↦ 0 | false ↦ size u ])
    go true ih = sym (add-zero at)
    go false ih = ih

-- ---- a kind that stands at most once

-- Parts of a kind stand at an offset exactly where there is one.
standing_told : (r : List ℕ) (k : Kind) (offset : Place) → any_part (standing r k offset) ≡ is_some offset
standing_told r k None = refl
standing_told r k (Some i) = refl

-- A kind that stands at most once is among the parts exactly where it has an offset.
pub once_has : {r : List ℕ} {at q : ℕ} {us : List Part} {k : Kind} {offset : Place} → Once r at q us k offset → has k us ≡ is_some offset
once_has {r} {us = us} {k = k} {offset = offset} o = has_of k us ∙ ap any_part o.parts ∙ standing_told r k offset

-- Before the first part none stands.
pub once_none : (r : List ℕ) (at : ℕ) (k : Kind) → Once r at 20 [] k None
once_none r at k = record { parts = refl; stands = refl; within = tt }

-- After a part of another kind, the place of this kind or the end.
other_place : {r : List ℕ} {at q : ℕ} {us : List Part} {k : Kind} (offset : Place) (u : Part) (t : ℕ) → Once r at q us k offset
    → same_kind k u.kind ≡ false → size u ≡ t → place_of k (at + 20) (us ++ u ∷ []) ≡ at + unwrap_or offset (q + t)
other_place {at = at} {q = q} {us = us} {k = k} None u t o e l =
    place_last k u (at + 20) us ∙ rw (once_has o, e, l, o.stands) (let z : at + q + t ≡ at + (q + t) = omega arith in z)
other_place {at = at} {us = us} {k = k} (Some i) u t o e l = place_last k u (at + 20) us ∙ rw (once_has o, o.stands) (add-zero (at + i))

-- After a part of another kind, this kind stands where it stood.
pub once_other : {r : List ℕ} {at q : ℕ} {us : List Part} {k : Kind} {offset : Place} (u : Part) {t : ℕ} → Once r at q us k offset
    → same_kind k u.kind ≡ false → size u ≡ t → Once r at (q + t) (us ++ u ∷ []) k offset
once_other {us = us} {k = k} {offset = offset} u {t = t} o e l =
    record { parts = kind_other k us u e ∙ o.parts; stands = other_place offset u t o e l; within = o.within }

-- A kind that is not among the parts has no offset.
no_place : (offset : Place) → is_some offset ≡ false → offset ≡ None
no_place None e = refl
no_place (Some i) e = absurd cc

-- The first part of its kind after the earlier ones.
pub once_here : {r : List ℕ} {at q : ℕ} {us : List Part} {k : Kind} {offset : Place} (t : ℕ) → Once r at q us k offset → has k us ≡ false
    → q + made_length k (drop q r) ≤ length r → Once r at (q + t) (us ++ part_in k (drop q r) ∷ []) k (Some q)
once_here {r} {at} {q} {us} {k} {offset} t o h fits =
    let u : Part = part_in k (drop q r) in
    let z : offset ≡ None = no_place offset (sym (once_has o) ∙ h) in
    record {
      parts = kind_same k us u (same_kind_refl k) (o.parts ∙ ap (standing r k) z);
      stands = place_last k u (at + 20) us ∙ rw (h, same_kind_refl k, o.stands, z) (add-zero (at + q));
      within = fits;
    }
