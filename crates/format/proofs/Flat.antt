-- The rules of a flat list of parts, and of its sections: each follows from the other.
use mathlib.Core.Path.{◌≡◌, refl, sym, ap, ap₂, ◌∙◌, subst}
use mathlib.Core.Bool.{Bool, true, false, not, ◌||◌}
use mathlib.Core.List.{List, [], ◌∷◌, ◌++◌}
use Prim.Native.Nat.{ℕ}
use native.Mathlib.Omega.{arith}
use lib.Dec.{eqb}
use borrow.Author.Tests.{eq-eqb}
use Rattle.format.specs.Bytes.{All}
use Rattle.format.specs.Parts.{Kind, section_id, same_kind, is_subsection, Part, joins}
use Rattle.format.specs.Rules.{Section, front_subs, sections_of, has, other_kind, mask_covers, has_required}
use Rattle.format.specs.Legal.{Pairwise}
use Rattle.format.specs.Reading.{kind_before, parts_of}
use Rattle.format.proofs.Finding.{and_join, or_right, or_map, same_kind_eq, section_id_pos}
use Rattle.format.proofs.Grouping.{is_true, is_false, all_join, all_map, joins_first, joins_behind, Grouped}
use Rattle.format.proofs.Sound.{GoodPart, GoodSub, GoodSection, subs_of_is}

-- ---- from sections to parts

-- Every part of good sections is good.
pub flat_good : (full x : Bool) (ss : List Section) → All (GoodSection full x) ss → All (GoodPart x) (parts_of ss)
flat_good full x [] g = tt
flat_good full x (s ∷ ss) g = (
  g.0.part,
  all_join (GoodPart x) s.subs (parts_of ss)
      (all_map (GoodSub x s.head.kind) (GoodPart x) (λ p h. h.part) s.subs g.0.subs)
      (flat_good full x ss g.1),
)

pub grouped : (full x : Bool) (ss : List Section) → All (GoodSection full x) ss → All Grouped ss
grouped full x [] g = tt
grouped full x (s ∷ ss) g = ((g.0.head, subs_of_is x s.head.kind s.subs g.0.subs), grouped full x ss g.1)

-- Subsections join the section before them.
join_subs : (x : Bool) (o : Kind) (us ps : List Part) → All (GoodSub x o) us → ((i : ℕ) → i ≡ section_id o → joins i ps ≡ true)
    → (i : ℕ) → i ≡ section_id o → joins i (us ++ ps) ≡ true
join_subs x o [] ps g h i e = h i e
join_subs x o (u ∷ us) ps g h i e =
    and_join (not (is_subsection u.kind) || eqb (section_id u.kind) i) _
    (ap₂ (λ (v w : Bool). not v || w) g.0.sub (eq-eqb (section_id u.kind) i (g.0.owner ∙ sym e)))
    (join_subs x o us ps g.1 h (section_id u.kind) g.0.owner)

-- The parts of good sections join, after whatever section.
pub flat_joins : (full x : Bool) (ss : List Section) → All (GoodSection full x) ss → (i : ℕ) → joins i (parts_of ss) ≡ true
flat_joins full x [] g i = refl
flat_joins full x (s ∷ ss) g i =
    and_join (not (is_subsection s.head.kind) || eqb (section_id s.head.kind) i) _
    (ap (λ (v : Bool). not v || eqb (section_id s.head.kind) i) g.0.head)
    (join_subs x s.head.kind s.subs (parts_of ss) g.0.subs (λ j e. flat_joins full x ss g.1 j)
    (section_id s.head.kind) refl)

-- A kind that stands among the parts after stands among all.
pub has_later : (k : Kind) (us ps : List Part) → has k ps ≡ true → has k (us ++ ps) ≡ true
has_later k [] ps h = h
has_later k (u ∷ us) ps h = or_right (same_kind k u.kind) (has k (us ++ ps)) (has_later k us ps h)

-- A section of the kind is one of the parts.
pub flat_has : (k : Kind) (ss : List Section) → kind_before k ss ≡ true → has k (parts_of ss) ≡ true
flat_has k [] e = e
flat_has k (s ∷ ss) e =
    or_map (same_kind k s.head.kind) (kind_before k ss) (has k (s.subs ++ parts_of ss))
    (λ q. has_later k s.subs (parts_of ss) (flat_has k ss q)) e

-- ---- from parts to sections

-- What is known of each part of a flat list.
abbrev Each : Bool → List Part → Type 0
Each x ps = All (GoodPart x) ps

-- A good subsection of the section with id i.
abbrev SubOf : Bool → ℕ → Part → Type 0
SubOf x i p = (is_subsection p.kind ≡ true) × (section_id p.kind ≡ i) × GoodPart x p

-- A section whose parts are good.
abbrev HeadOf : Bool → Section → Type 0
HeadOf x s = (is_subsection s.head.kind ≡ false) × GoodPart x s.head × All (GoodSub x s.head.kind) s.subs

-- A flat list that joins section i: its front subsections belong to it, and the rest is its sections laid flat.
record Group (x : Bool) (i : ℕ) (ps : List Part) : Type 0 where
  front : All (SubOf x i) (front_subs ps)
  flat : front_subs ps ++ parts_of (sections_of ps) ≡ ps
  heads : All (HeadOf x) (sections_of ps)

owned : (x : Bool) (o : Kind) (us : List Part) → All (SubOf x (section_id o)) us → All (GoodSub x o) us
owned x o [] h = tt
owned x o (u ∷ us) h = (record { sub = h.0.0; owner = h.0.1; part = h.0.2 }, owned x o us h.1)

group_cons : (x : Bool) (i : ℕ) (p : Part) (ps : List Part) (b : Bool) → is_subsection p.kind ≡ b → GoodPart x p
    → (b ≡ true → section_id p.kind ≡ i) → Group x (section_id p.kind) ps → Group x i (p ∷ ps)
group_cons x i p ps true e g own r =
    let fs = is_true (is_subsection p.kind) (p ∷ front_subs ps) [] e in
    let sc = is_true (is_subsection p.kind) (sections_of ps) (record { head = p; subs = front_subs ps } ∷ sections_of ps) e in
    record {
      front = subst (All (SubOf x i)) (sym fs) ((e, own refl, g), subst (λ (n : ℕ). All (SubOf x n) (front_subs ps)) (own refl) r.front);
      flat = ap₂ (λ (us : List Part) (ss : List Section). us ++ parts_of ss) fs sc ∙ ap (λ (y : List Part). p ∷ y) r.flat;
      heads = subst (All (HeadOf x)) (sym sc) r.heads;
    }
group_cons x i p ps false e g own r =
    let fs = is_false (is_subsection p.kind) (p ∷ front_subs ps) [] e in
    let sc = is_false (is_subsection p.kind) (sections_of ps) (record { head = p; subs = front_subs ps } ∷ sections_of ps) e in
    record {
      front = subst (All (SubOf x i)) (sym fs) tt;
      flat = ap₂ (λ (us : List Part) (ss : List Section). us ++ parts_of ss) fs sc ∙ ap (λ (y : List Part). p ∷ y) r.flat;
      heads = subst (All (HeadOf x)) (sym sc) ((e, g, owned x p.kind (front_subs ps) r.front), r.heads);
    }

group : (x : Bool) (i : ℕ) (ps : List Part) → Each x ps → joins i ps ≡ true → Group x i ps
group x i [] g j = record { front = tt; flat = refl; heads = tt }
group x i (p ∷ ps) g j =
    group_cons x i p ps (is_subsection p.kind) refl g.0 (joins_first i p ps j)
    (group x (section_id p.kind) ps g.1 (joins_behind i p ps j))

-- No section has the id 0, so nothing stands before the first section.
no_front : (x : Bool) (us : List Part) → All (SubOf x 0) us → us ≡ []
no_front x [] h = refl
no_front x (u ∷ us) h = absurd (let a = section_id_pos u.kind in let b = h.0.1 in omega arith)

-- A choice's parts are its sections laid flat.
pub choice_flat : (x : Bool) (ps : List Part) → Each x ps → joins 0 ps ≡ true → parts_of (sections_of ps) ≡ ps
choice_flat x ps g j =
    let r = group x 0 ps g j in
    ap (λ (us : List Part). us ++ parts_of (sections_of ps)) (sym (no_front x (front_subs ps) r.front)) ∙ r.flat

-- The sections of a choice that keeps its rules are good.
goods : (full x : Bool) (ss : List Section) → All (HeadOf x) ss → All (λ (s : Section). Pairwise other_kind s.subs) ss
    → All (λ (s : Section). mask_covers s.subs ≡ true) ss → All (λ (s : Section). (not full || has_required s) ≡ true) ss
    → All (GoodSection full x) ss
goods full x [] h a b c = tt
goods full x (s ∷ ss) h a b c = (
  record { head = h.0.0; part = h.0.1; subs = h.0.2; tags = a.0; masks = b.0; required = c.0 },
  goods full x ss h.1 a.1 b.1 c.1,
)

pub choice_good : (full x : Bool) (ps : List Part) → Each x ps → joins 0 ps ≡ true
    → All (λ (s : Section). Pairwise other_kind s.subs) (sections_of ps) → All (λ (s : Section). mask_covers s.subs ≡ true) (sections_of ps)
    → All (λ (s : Section). (not full || has_required s) ≡ true) (sections_of ps) → All (GoodSection full x) (sections_of ps)
choice_good full x ps g j a b c = goods full x (sections_of ps) (group x 0 ps g j).heads a b c

-- A kind of section among the parts is among the sections.
section_cons : (k : Kind) (p : Part) (ps : List Part) (b c : Bool) → is_subsection p.kind ≡ b → same_kind k p.kind ≡ c
    → is_subsection k ≡ false → (has k ps ≡ true → kind_before k (sections_of ps) ≡ true) → (c || has k ps) ≡ true
    → kind_before k (sections_of (p ∷ ps)) ≡ true
section_cons k p ps true false e q f ih h =
    ap (kind_before k) (is_true (is_subsection p.kind) (sections_of ps) _ e) ∙ ih h
section_cons k p ps true true e q f ih h =
    absurd (let z : true ≡ false = sym e ∙ ap is_subsection (sym (same_kind_eq k p.kind q)) ∙ f in let y : ◌≡◌ {A = ℕ} 0 1 = cc in omega arith)
section_cons k p ps false c e q f ih h =
    ap (kind_before k) (is_false (is_subsection p.kind) (sections_of ps) _ e)
    ∙ ap (λ (v : Bool). v || kind_before k (sections_of ps)) q
    ∙ or_map c (has k ps) (kind_before k (sections_of ps)) ih h

pub has_section : (k : Kind) (ps : List Part) → is_subsection k ≡ false → has k ps ≡ true → kind_before k (sections_of ps) ≡ true
has_section k [] f e = e
has_section k (p ∷ ps) f e =
    section_cons k p ps (is_subsection p.kind) (same_kind k p.kind) refl refl f (λ h. has_section k ps f h) e
