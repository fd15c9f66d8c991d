-- The loops over subsections and sections without their counts of turns: one step, and the end.
use mathlib.Core.Path.{◌≡◌, refl}
use mathlib.Core.Bool.{Bool, true, false, not, ◌&&◌, ◌||◌}
use mathlib.Core.List.{List, [], ◌∷◌, ◌++◌}
use mathlib.Core.Option.{Option, none, some}
use Prim.Native.Nat.{ℕ, zero, suc, ◌+◌, ◌-◌, ◌≤◌, ◌<◌}
use native.Mathlib.Omega.{arith}
use lib.Dec.{leb}
use lib.ListN.{length, drop, length-drop}
use borrow.Author.Tests.{leb-true}
use Rattle.format.specs.Bytes.{number, bytes_at}
use Rattle.format.specs.Layout.{Item}
use Rattle.format.specs.Slots.{least}
use Rattle.format.specs.Parts.{Kind, information, section_id, tag, body, is_subsection, frame, layout, Part}
use Rattle.format.specs.Reading.{section_kind, subsection_kind}
use Rattle.format.specs.Rules.{Section, has}
use Rattle.format.specs.Reading.{Outcome, refused, found, fault, need, and_then, tested, id_of, stated, part_in, subsection_checks, subsection, subsections}
use Rattle.format.specs.Reading.{kind_before, rule_before, section_checks, section_rest, section, sections}
use Rattle.format.proofs.Finding.{and_split}
use Rattle.format.proofs.Tests.{refused_not, needed, tests_passed}

-- Two ways to go on are the same where they agree on what was found.
pub then_same : {A B : Type 0} (o : Outcome A) (f g : A → Outcome B) → ((a : A) → o ≡ found a → f a ≡ g a) → and_then o f ≡ and_then o g
unfolding and_then
then_same (refused e) f g h = refl
then_same (found a) f g h = h a refl

-- Every layout has its frame.
frame_least : (b : Bool) (i g : ℕ) (l : List Item) → 4 ≤ least (frame b i g ++ l)
frame_least false i g l = omega arith
frame_least true i g l = omega arith

layout_least : (k : Kind) → 4 ≤ least (layout k)
layout_least k = frame_least (is_subsection k) (section_id k) (tag k) (body k)

-- A length that is tested is at least 4 and ends within n.
long : (k : Kind) (m n : ℕ) → (leb (least (layout k)) m && leb m n) ≡ true → (4 ≤ m) × (m ≤ n)
long k m n e =
    let s = and_split (leb (least (layout k)) m) (leb m n) e in
    let a = leb-true (least (layout k)) m s.0 in
    let b = layout_least k in
    (omega arith, leb-true m n s.1)

-- ---- subsections

-- An accepted subsection has at least 4 bytes and ends within its section.
pub sub_step : (x : Bool) (o : Kind) (before : List Part) (at n : ℕ) (r : List ℕ) (p : Part) → subsection x o before at n r ≡ found p
    → (4 ≤ stated r) × (stated r ≤ n)
unfolding subsection
sub_step x o before at n r p e = go (subsection_kind o (number (bytes_at r 0 2))) (needed (leb 4 n) _ _ p e).1
  where
    go : (m : Option Kind)
        → elim m as (λ k. Outcome Part) [
          | none ↦ refused (fault 13 at at)
          | some k ↦ tested at (subsection_checks x k (has k before) n r) (found (part_in k r))
        ] ≡ found p
        → (4 ≤ stated r) × (stated r ≤ n)
    go none w = absurd (refused_not w)
    go (some k) w = long k (stated r) n (tests_passed at (subsection_checks x k (has k before) n r) (found (part_in k r)) p w).0.0

-- Turns enough are enough.
subs_turns : (d e : ℕ) (x : Bool) (o : Kind) (before : List Part) (at n : ℕ) (r : List ℕ) → n < d → n < e
    → subsections d x o before at n r ≡ subsections e x o before at n r
unfolding subsections
subs_turns zero e x o before at n r h k = absurd (omega arith)
subs_turns (suc d) zero x o before at n r h k = absurd (omega arith)
subs_turns (suc d) (suc e) x o before at zero r h k = refl
subs_turns (suc d) (suc e) x o before at (suc m) r h k =
    then_same (subsection x o before at (suc m) r) _ _
    (λ p q.
    let s = sub_step x o before at (suc m) r p q in
    let a = s.0 in
    subs_turns d e x o (before ++ p ∷ []) (at + stated r) (suc m - stated r) (drop (stated r) r) (omega arith) (omega arith))

-- The subsections that tile the next n bytes, with as many turns as that needs.
unfoldable pub subsections_from : Bool → Kind → List Part → ℕ → ℕ → List ℕ → Outcome (List Part)
subsections_from x o before at n r = subsections (suc n) x o before at n r

-- Any turns that are enough give the same.
pub subs_from : (d : ℕ) (x : Bool) (o : Kind) (before : List Part) (at n : ℕ) (r : List ℕ) → n < d
    → subsections d x o before at n r ≡ subsections_from x o before at n r
unfolding subsections_from
subs_from d x o before at n r h = subs_turns d (suc n) x o before at n r h (omega arith)

-- Where no byte is left, what came before is found.
pub subs_none : (x : Bool) (o : Kind) (before : List Part) (at : ℕ) (r : List ℕ) → subsections_from x o before at 0 r ≡ found before
unfolding subsections_from subsections
subs_none x o before at r = refl

-- Where bytes are left, one subsection is read and the rest after it.
pub subs_more : (x : Bool) (o : Kind) (before : List Part) (at n : ℕ) (r : List ℕ) → 0 < n
    → subsections_from x o before at n r
    ≡ and_then (subsection x o before at n r) (λ p. subsections_from x o (before ++ p ∷ []) (at + stated r) (n - stated r) (drop (stated r) r))
unfolding subsections_from subsections
subs_more x o before at zero r h = absurd (omega arith)
subs_more x o before at (suc m) r h =
    then_same (subsection x o before at (suc m) r) _ _
    (λ p q.
    let s = sub_step x o before at (suc m) r p q in
    let a = s.0 in
    subs_from (suc m) x o (before ++ p ∷ []) (at + stated r) (suc m - stated r) (drop (stated r) r) (omega arith))

-- ---- sections

-- An accepted section has at least 4 bytes and ends within the token.
pub section_step : (full x : Bool) (before : List Section) (at : ℕ) (r : List ℕ) (s : Section) → section full x before at r ≡ found s
    → (4 ≤ stated r) × (stated r ≤ length r)
unfolding section
section_step full x before at r s e = go (section_kind (id_of r)) (needed (leb 4 (length r)) _ _ s e).1
  where
    go : (m : Option Kind)
        → elim m as (λ k. Outcome Section) [
          | none ↦ refused (fault 7 at at)
          | some k ↦ tested at (section_checks x k (kind_before k before) (rule_before (part_in k r) before) r) (section_rest full x k at r)
        ] ≡ found s
        → (4 ≤ stated r) × (stated r ≤ length r)
    go none w = absurd (refused_not w)
    go (some k) w =
        long k (stated r) (length r)
        (tests_passed at (section_checks x k (kind_before k before) (rule_before (part_in k r) before) r) _ s w).0.1.0

sections_turns : (d e : ℕ) (full x : Bool) (before : List Section) (at : ℕ) (r : List ℕ) → length r < d → length r < e
    → sections d full x before at r ≡ sections e full x before at r
unfolding sections
sections_turns zero e full x before at r h k = absurd (omega arith)
sections_turns (suc d) zero full x before at r h k = absurd (omega arith)
sections_turns (suc d) (suc e) full x before at [] h k = refl
sections_turns (suc d) (suc e) full x before at (b ∷ bs) h k =
    then_same (section full x before at (b ∷ bs)) _ _
    (λ s q.
    let w = section_step full x before at (b ∷ bs) s q in
    let a = w.0 in
    let l = length-drop (stated (b ∷ bs)) (b ∷ bs) in
    sections_turns d e full x (before ++ s ∷ []) (at + stated (b ∷ bs)) (drop (stated (b ∷ bs)) (b ∷ bs)) (omega arith) (omega arith))

-- The sections that tile r, with as many turns as that needs.
unfoldable pub sections_from : Bool → Bool → List Section → ℕ → List ℕ → Outcome (List Section)
sections_from full x before at r = sections (suc (length r)) full x before at r

-- Any turns that are enough give the same.
pub sections_from_is : (d : ℕ) (full x : Bool) (before : List Section) (at : ℕ) (r : List ℕ) → length r < d
    → sections d full x before at r ≡ sections_from full x before at r
unfolding sections_from
sections_from_is d full x before at r h = sections_turns d (suc (length r)) full x before at r h (omega arith)

-- Where no byte is left, what came before is found, if section 14 is there.
pub sections_none : (full x : Bool) (before : List Section) (at : ℕ) (r : List ℕ) → length r ≡ 0
    → sections_from full x before at r ≡ need (not full || kind_before information before) (fault 20 at at) (found before)
unfolding sections_from sections
sections_none full x before at [] h = refl
sections_none full x before at (b ∷ bs) h = absurd (omega arith)

-- Where bytes are left, one section is read and the rest after it.
pub sections_more : (full x : Bool) (before : List Section) (at : ℕ) (r : List ℕ) → 0 < length r
    → sections_from full x before at r
    ≡ and_then (section full x before at r) (λ s. sections_from full x (before ++ s ∷ []) (at + stated r) (drop (stated r) r))
unfolding sections_from sections
sections_more full x before at [] h = absurd (omega arith)
sections_more full x before at (b ∷ bs) h =
    then_same (section full x before at (b ∷ bs)) _ _
    (λ s q.
    let w = section_step full x before at (b ∷ bs) s q in
    let a = w.0 in
    let l = length-drop (stated (b ∷ bs)) (b ∷ bs) in
    sections_from_is (suc (length bs)) full x (before ++ s ∷ []) (at + stated (b ∷ bs)) (drop (stated (b ∷ bs)) (b ∷ bs)) (omega arith))
