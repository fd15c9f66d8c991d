-- Refusal 25: a part joins the sections before it exactly when it is a section, or the last of them has its id.
use mathlib.Core.Path.{◌≡◌, refl, sym, ap, ap₂, ◌∙◌}
use mathlib.Core.Bool.{Bool, true, false, not, ◌&&◌, ◌||◌, and_assoc, and-true}
use mathlib.Core.List.{List, [], ◌∷◌, ◌++◌}
use Prim.Native.Nat.{ℕ, ◌<◌}
use native.Mathlib.Omega.{arith}
use lib.Dec.{eqb}
use borrow.Author.Tests.{eqb-true, eqb-false, eq-eqb, ne_eqb}
use Rattle.format.specs.Bytes.{All}
use Rattle.format.specs.Parts.{Kind, section_id, is_subsection, Part, joins}
use Rattle.format.specs.Rules.{Section}
use Rattle.format.specs.Reading.{parts_of}
use Rattle.format.proofs.Grouping.{parts_last}
use Rattle.format.proofs.Sound.{GoodSub, GoodSection}

-- the id of the last of the parts, o being the one before them
abbrev last_of : ℕ → List Part → ℕ
last_of o [] = o
last_of o (p ∷ ps) = last_of (section_id p.kind) ps

-- One part more joins exactly when it joins the last.
joins_more : (o : ℕ) (ps : List Part) (p : Part)
    → joins o (ps ++ p ∷ []) ≡ (joins o ps && (not (is_subsection p.kind) || eqb (section_id p.kind) (last_of o ps)))
joins_more o [] p = and-true _
joins_more o (q ∷ ps) p =
    ap (λ (b : Bool). (not (is_subsection q.kind) || eqb (section_id q.kind) o) && b) (joins_more (section_id q.kind) ps p)
    ∙ sym (and_assoc (not (is_subsection q.kind) || eqb (section_id q.kind) o) (joins (section_id q.kind) ps) _)

-- A section joins whatever stands before it.
pub section_joins : (o : ℕ) (ps : List Part) (p : Part) → joins o ps ≡ true → is_subsection p.kind ≡ false → joins o (ps ++ p ∷ []) ≡ true
section_joins o ps p j s =
    joins_more o ps p
    ∙ ap₂ (λ (a b : Bool). a && (not b || eqb (section_id p.kind) (last_of o ps))) j s

-- A subsection joins exactly when the last part has its section's id.
sub_joins : (o : ℕ) (ps : List Part) (p : Part) → joins o ps ≡ true → is_subsection p.kind ≡ true
    → joins o (ps ++ p ∷ []) ≡ eqb (section_id p.kind) (last_of o ps)
sub_joins o ps p j s =
    joins_more o ps p
    ∙ ap₂ (λ (a b : Bool). a && (not b || eqb (section_id p.kind) (last_of o ps))) j s

last_join : (o : ℕ) (ps qs : List Part) → last_of o (ps ++ qs) ≡ last_of (last_of o ps) qs
last_join o [] qs = refl
last_join o (p ∷ ps) qs = last_join (section_id p.kind) ps qs

-- The subsections of a section have its id.
last_sub : (x : Bool) (k : Kind) (us : List Part) → All (GoodSub x k) us → last_of (section_id k) us ≡ section_id k
last_sub x k [] g = refl
last_sub x k (u ∷ us) g = ap (λ (i : ℕ). last_of i us) g.0.owner ∙ last_sub x k us g.1

-- The id of the last section is that of the last part.
last_section_is : (full x : Bool) (o : ℕ) (ts : List Section) (t : Section) → GoodSection full x t
    → last_of o (parts_of (ts ++ t ∷ [])) ≡ section_id t.head.kind
last_section_is full x o ts t g =
    ap (last_of o) (parts_last ts t)
    ∙ last_join o (parts_of ts) (t.head ∷ t.subs)
    ∙ last_sub x t.head.kind t.subs g.subs

eqb_swap : (m n : ℕ) → eqb m n ≡ eqb n m
eqb_swap m n = go (eqb m n) refl
  where
    go : (b : Bool) → eqb m n ≡ b → eqb m n ≡ eqb n m
    go true e = e ∙ sym (eq-eqb n m (sym (eqb-true m n e)))
    go false e = e ∙ sym (ne_eqb n m (λ q. eqb-false m n e (sym q)))

-- A subsection joins sections exactly when the last of them has its id.
pub sub_joins_last : (full x : Bool) (ts : List Section) (t : Section) (p : Part) → GoodSection full x t
    → joins 0 (parts_of (ts ++ t ∷ [])) ≡ true → is_subsection p.kind ≡ true
    → joins 0 (parts_of (ts ++ t ∷ []) ++ p ∷ []) ≡ eqb (section_id t.head.kind) (section_id p.kind)
sub_joins_last full x ts t p g j s =
    sub_joins 0 (parts_of (ts ++ t ∷ [])) p j s
    ∙ ap (eqb (section_id p.kind)) (last_section_is full x 0 ts t g)
    ∙ eqb_swap (section_id p.kind) (section_id t.head.kind)

-- Where there is no section it does not join.
pub sub_alone : (p : Part) → is_subsection p.kind ≡ true → 0 < section_id p.kind → joins 0 (p ∷ []) ≡ false
sub_alone p s h =
    sub_joins 0 [] p refl s ∙ ne_eqb (section_id p.kind) 0 (λ e. omega arith)
