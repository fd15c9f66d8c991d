-- Every refusal has a number from 1 to 21, and its place is within the part at fault and within what is read.
use mathlib.Core.Path.{◌≡◌, refl, sym, ap, ◌∙◌, subst}
use mathlib.Core.Bool.{Bool, true, false, not, ◌&&◌, ◌||◌}
use mathlib.Core.List.{List, [], ◌∷◌, ◌++◌}
use mathlib.Core.Logic.{◌⊎◌, inl, inr, ⊎_elim}
use mathlib.Core.Option.{Option, none, some}
use Prim.Native.Nat.{ℕ, zero, suc, ◌+◌, ◌-◌, ◌≤◌, ◌<◌}
use native.Mathlib.Nat.{add-zero}
use native.Mathlib.Omega.{arith}
use lib.Dec.{eqb, leb}
use lib.ListN.{length, take, drop, length-drop, take-append-drop}
use lib.Seq.{drop-drop, drop-append-le, length-take-le}
use borrow.Author.Tests.{eqb-true, eqb-false, leb-true, leb-false, not-true}
use Rattle.format.specs.Bytes.{number, bytes_at}
use Rattle.format.specs.Slots.{least}
use Rattle.format.specs.Parts.{Kind, rule, information, token_parameters, is_subsection, same_kind, layout, Part, size, external}
use Rattle.format.specs.Reading.{section_kind, subsection_kind, Fault, fault, Outcome, refused, found, need, and_then, id_of, stated, made_length}
use Rattle.format.specs.Rules.{Section, check, has, mask_covers, has_required}
use Rattle.format.specs.Reading.{part_in, part_slots, Test, located, field_checks, tested, subsection_checks, subsection, subsections, kind_before}
use Rattle.format.specs.Reading.{rule_before, section_checks, place_of, mask_offset, after_subsections, section_rest, section, sections}
use Rattle.format.specs.Reading.{header_checks, reading, row_count, as_answer, answer}
use Rattle.format.specs.Claims.{InPart}
use Rattle.format.specs.Answers.{Refused}
use Rattle.format.proofs.Answers.{same_number}
use Rattle.format.proofs.Finding.{and_split, or_else, every_kind, section_kind_sound}
use Rattle.format.proofs.Tests.{Hold}
use Rattle.format.proofs.Offsets.{Inner, fields_inner}
use Rattle.format.proofs.Reaching.{part_size, sizes, sizes_last, States, states_last, mask_there, least_pos}
use Rattle.format.proofs.Sound.{made_le}
use Rattle.format.proofs.Accepted.{allowed}

-- ---- outcomes

-- The refusal has a number of the table, that of a draft not 20; its place is within the part at fault, which stands in z, and
-- e at the latest.
pub record Listed (full : Bool) (z : List ℕ) (e : ℕ) (f : Fault) : Type 0 where
  pub first : 1 ≤ f.number
  pub last : f.number ≤ 21
  pub complete : full ≡ false → f.number ≡ 20 → ⊥
  pub inside : InPart z f
  pub within : f.place ≤ e

-- The same, and with any number but 20 its place is before e.
pub record Early (full : Bool) (z : List ℕ) (e : ℕ) (f : Fault) : Type 0 where
  pub listed : Listed full z e f
  pub early : (f.number ≡ 20 → ⊥) → f.place < e

-- A refusal of a test, at offset o of the part at a place, where m bytes are there: four, or those that the part states.
early_at : (full : Bool) (z : List ℕ) (e at m n o : ℕ) → 1 ≤ n → n ≤ 21 → (n ≡ 20 → ⊥) → at + m ≤ e → (m ≤ 4) ⊎ (m ≤ stated (drop at z)) → o < m
    → Early full z e (fault n at (at + o))
early_at full z e at m n o a b c h k l = record {
  listed = record {
    first = a;
    last = b;
    complete = λ q. c;
    inside = (omega arith, ⊎_elim (λ q. inl (omega arith)) (λ q. inr (omega arith)) k);
    within = omega arith;
  };
  early = λ q. omega arith;
}

-- A refusal at the start of a part.
early_start : (full : Bool) (z : List ℕ) (e at n : ℕ) → 1 ≤ n → n ≤ 21 → (n ≡ 20 → ⊥) → at < e → Early full z e (fault n at at)
early_start full z e at n a b c h =
    subst (λ (p : ℕ). Early full z e (fault n at p)) (add-zero at) (early_at full z e at 1 n 0 a b c (omega arith) (inl (omega arith)) (omega arith))

-- A refusal has the property P, and what is found has the property Q.
abbrev pub Comes : {A : Type 0} → (Fault → Type 0) → (A → Type 0) → Outcome A → Type 0
Comes P Q (refused f) = P f
Comes P Q (found a) = Q a

-- A weaker property of refusals.
comes_as : {A : Type 0} (P R : Fault → Type 0) (Q : A → Type 0) (o : Outcome A) → ((f : Fault) → P f → R f) → Comes P Q o → Comes R Q o
comes_as P R Q (refused f) h c = h f c
comes_as P R Q (found a) h c = c

-- A test whose refusal has the property goes on to the rest.
need_comes : {A : Type 0} (P : Fault → Type 0) (Q : A → Type 0) (b : Bool) (f : Fault) (rest : Outcome A) → (b ≡ false → P f)
    → (b ≡ true → Comes P Q rest) → Comes P Q (need b f rest)
unfolding need
need_comes P Q true f rest l h = h refl
need_comes P Q false f rest l h = l refl

-- What is found is handed on with its property.
then_comes : {A B : Type 0} (P : Fault → Type 0) (Q : A → Type 0) (R : B → Type 0) (o : Outcome A) (next : A → Outcome B)
    → Comes P Q o → ((a : A) → Q a → Comes P R (next a)) → Comes P R (and_then o next)
unfolding and_then
then_comes P Q R (refused f) next h k = h
then_comes P Q R (found a) next h k = k a h

-- The refusals of the tests are from 1 to 21, and not 20.
abbrev numbered : List Test → Bool
numbered [] = true
numbered (c ∷ cs) = leb 1 c.refusal && (leb c.refusal 21 && (not (eqb c.refusal 20) && numbered cs))

-- Tests whose refusals have numbers, and whose offsets are below m where they fail, go on to the rest.
tests_come : {A : Type 0} (P : Fault → Type 0) (Q : A → Type 0) (at m : ℕ) (cs : List Test) (rest : Outcome A)
    → ((n o : ℕ) → 1 ≤ n → n ≤ 21 → (n ≡ 20 → ⊥) → o < m → P (fault n at (at + o)))
    → numbered cs ≡ true → Inner m cs → (Hold cs → Comes P Q rest) → Comes P Q (tested at cs rest)
unfolding tested
tests_come P Q at m [] rest h n i k = k tt
tests_come P Q at m (c ∷ cs) rest h n i k =
    let s = and_split (leb 1 c.refusal) _ n in
    let t = and_split (leb c.refusal 21) _ s.1 in
    let u = and_split (not (eqb c.refusal 20)) (numbered cs) t.1 in
    need_comes P Q c.holds (fault c.refusal at (at + c.offset)) _
    (λ w.
    h c.refusal c.offset (leb-true 1 c.refusal s.0) (leb-true c.refusal 21 t.0)
    (eqb-false c.refusal 20 (not-true (eqb c.refusal 20) u.0)) (i.0 w))
    (λ w. tests_come P Q at m cs rest h u.1 i.1 (λ v. k (w, v)))

-- Tests in two steps.
pub tested_both : {A : Type 0} (at : ℕ) (cs ds : List Test) (rest : Outcome A) → tested at (cs ++ ds) rest ≡ tested at cs (tested at ds rest)
unfolding tested
tested_both at [] ds rest = refl
tested_both at (c ∷ cs) ds rest = rw (tested_both at cs ds rest)

both_come : {A : Type 0} (P : Fault → Type 0) (Q : A → Type 0) (at : ℕ) (cs ds : List Test) (rest : Outcome A)
    → Comes P Q (tested at cs (tested at ds rest)) → Comes P Q (tested at (cs ++ ds) rest)
both_come P Q at cs ds rest h = subst (Comes P Q) (sym (tested_both at cs ds rest)) h

-- Offsets that are below m, as a computed test.
abbrev pub low : ℕ → List Test → Bool
low m [] = true
low m (c ∷ cs) = leb (suc c.offset) m && low m cs

pub inner_low : (m : ℕ) (cs : List Test) → low m cs ≡ true → Inner m cs
inner_low m [] e = tt
inner_low m (c ∷ cs) e =
    let s = and_split (leb (suc c.offset) m) (low m cs) e in
    let l = leb-true (suc c.offset) m s.0 in
    (λ q. omega arith, inner_low m cs s.1)

-- Tests that have numbers and offsets below m, as a computed test.
abbrev sound : ℕ → List Test → Bool
sound m cs = numbered cs && low m cs

sound_come : {A : Type 0} (full : Bool) (z : List ℕ) (e : ℕ) (Q : A → Type 0) (at m : ℕ) (cs : List Test) (rest : Outcome A) → at + m ≤ e
    → (m ≤ 4) ⊎ (m ≤ stated (drop at z)) → sound m cs ≡ true → (Hold cs → Comes (Early full z e) Q rest) → Comes (Early full z e) Q (tested at cs rest)
sound_come full z e Q at m cs rest h k s next =
    let w = and_split (numbered cs) (low m cs) s in
    tests_come (Early full z e) Q at m cs rest (λ n o a b c l. early_at full z e at m n o a b c h k l) w.0 (inner_low m cs w.1) next

-- The tests of the fields of every kind have numbers, and point before the end of what the fields make.
fields_come : {A : Type 0} (full : Bool) (z : List ℕ) (e : ℕ) (Q : A → Type 0) (x : Bool) (k : Kind) (at : ℕ) (r : List ℕ) (rest : Outcome A)
    → at + made_length k r ≤ e → made_length k r ≤ stated (drop at z) → (Hold (field_checks x k r) → Comes (Early full z e) Q rest)
    → Comes (Early full z e) Q (tested at (field_checks x k r) rest)
fields_come full z e Q x k at r rest h l next =
    tests_come (Early full z e) Q at (made_length k r) (field_checks x k r) rest (λ n o a b c i. early_at full z e at (made_length k r) n o a b c h (inr l) i)
    (every_kind (λ j. numbered (field_checks x j r)) refl k) (fields_inner x k r) next

-- What is asked of a token only is no fault of a draft.
not_asked : (full b : Bool) → full ≡ false → (not full || b) ≡ false → ⊥
not_asked false b q e = let z : ◌≡◌ {A = ℕ} 0 1 = cc in omega arith
not_asked true b q e = let z : ◌≡◌ {A = ℕ} 0 1 = cc in omega arith

-- ---- subsections

-- The subsection found ends within the n bytes that are left, and is as long as it states.
abbrev Ends : ℕ → List ℕ → Part → Type 0
Ends n r p = (1 ≤ stated r) × (stated r ≤ n) × (size p ≡ stated r)

-- A subsection comes to such a refusal or ends within what is left.
module _ (full : Bool) (z : List ℕ) (e : ℕ) (x : Bool) (o : Kind) (before : List Part) (at n : ℕ) (r : List ℕ) (there : r ≡ drop at z)
    (h : at < e) (ends : at + n ≤ e) (left : n ≤ length r) where
  abbrev SubTests : Kind → List Test
  SubTests k = subsection_checks x k (has k before) n r

  -- The length is tested in the first four bytes; the tag, the version and the inner lengths in the least length.
  sub_front : (k : Kind) → sound 4 (take 1 (SubTests k)) ≡ true
  sub_front k = every_kind (λ j. sound 4 (take 1 (subsection_checks x j (has k before) n r))) refl k

  sub_least : (k : Kind) → sound (least (layout k)) (take 3 (drop 1 (SubTests k))) ≡ true
  sub_least k = every_kind (λ j. sound (least (layout j)) (take 3 (drop 1 (subsection_checks x j (has k before) n r)))) refl k

  subsection_known : 4 ≤ n → (k : Kind) → Comes (Early full z e) (Ends n r) (tested at (SubTests k) (found (part_in k r)))
  unfolding tested
  subsection_known four k =
      let same = ap stated there in
      sound_come full z e (Ends n r) at 4 (take 1 (SubTests k)) _ (omega arith) (inl (omega arith)) (sub_front k)
      (λ c.
      let s = and_split (leb (least (layout k)) (stated r)) (leb (stated r) n) c.0 in
      let a = leb-true (least (layout k)) (stated r) s.0 in
      let b = leb-true (stated r) n s.1 in
      sound_come full z e (Ends n r) at (least (layout k)) (take 3 (drop 1 (SubTests k))) _ (omega arith) (inr (omega arith)) (sub_least k)
      (λ d.
      let m = eqb-true (made_length k r) (stated r) d.1.1.0 in
      let p = least_pos k in
      fields_come full z e (Ends n r) x k at r _ (omega arith) (omega arith) (λ f. (omega arith, b, part_size k r (omega arith) ∙ m))))

  subsection_comes : Comes (Early full z e) (Ends n r) (subsection x o before at n r)
  unfolding subsection
  subsection_comes =
      need_comes (Early full z e) (Ends n r) (leb 4 n) (fault 12 at at) _
      (λ v. early_start full z e at 12 (omega arith) (omega arith) (λ y. omega arith) h)
      (λ w. go (leb-true 4 n w) (subsection_kind o (number (bytes_at r 0 2))))
    where
      go : 4 ≤ n → (m : Option Kind)
          → Comes (Early full z e) (Ends n r) (elim m as (λ k. Outcome Part) [ none ↦ refused (fault 13 at at) | some k ↦ tested at (SubTests k) (found (part_in k r)) ])
      go four none = early_start full z e at 13 (omega arith) (omega arith) (λ y. omega arith) h
      go four (some k) = subsection_known four k

-- The subsections found end at e at the latest, and each is as long as it states.
abbrev SubsEnd : List ℕ → ℕ → ℕ → List Part → Type 0
SubsEnd z e first us = (first + sizes us ≤ e) × States z first us

-- The subsections come to such a refusal or lie within what is left, where the turns are more than the bytes.
subsections_come : (full : Bool) (z : List ℕ) (e first d : ℕ) (x : Bool) (o : Kind) (before : List Part) (at n : ℕ) (r : List ℕ) → r ≡ drop at z
    → n < d → at + n ≤ e → n ≤ length r → first + sizes before ≡ at → States z first before
    → Comes (Early full z e) (SubsEnd z e first) (subsections d x o before at n r)
unfolding subsections
subsections_come full z e first zero x o before at n r there t h l k s = absurd (omega arith)
subsections_come full z e first (suc d) x o before at zero r there t h l k s = (omega arith, s)
subsections_come full z e first (suc d) x o before at (suc m) r there t h l k s =
    then_comes (Early full z e) (Ends (suc m) r) (SubsEnd z e first) (subsection x o before at (suc m) r) _
    (subsection_comes full z e x o before at (suc m) r there (omega arith) h l)
    (λ p q.
    let w = sizes_last before p in
    let a = q.0 in
    let b = q.1 in
    let c = q.2 in
    let g = length-drop (stated r) r in
    subsections_come full z e first d x o (before ++ p ∷ []) (at + stated r) (suc m - stated r) (drop (stated r) r)
    (ap (drop (stated r)) there ∙ drop-drop (stated r) at z)
    (omega arith) (omega arith) (omega arith) (omega arith)
    (states_last z first before p s (c ∙ ap stated there ∙ ap (λ (y : ℕ). stated (drop y z)) (sym k))))

-- ---- sections

-- 20 is given to tokens only, at a part's start.
missing : (full : Bool) (z : List ℕ) (e at : ℕ) (b : Bool) → at ≤ e → (not full || b) ≡ false → Early full z e (fault 20 at at)
missing full z e at b h y = record {
  listed = record { first = omega arith; last = omega arith; complete = λ q u. not_asked full b q y; inside = (omega arith, inl (omega arith)); within = h };
  early = λ q. absurd (q refl);
}

-- The section found has at least one byte and ends within the bytes.
abbrev pub Inside : List ℕ → Section → Type 0
Inside r s = (1 ≤ stated r) × (stated r ≤ length r)

-- The rest of a section comes to such a refusal or to the section.
rest_comes : (z : List ℕ) (e : ℕ) (full x : Bool) (k : Kind) (at : ℕ) (r : List ℕ) → r ≡ drop at z → at + stated r ≤ e → made_length k r ≤ stated r
    → stated r ≤ length r → Inside r (record { head = part_in k r; subs = [] }) → Comes (Early full z e) (Inside r) (section_rest full x k at r)
unfolding section_rest after_subsections
rest_comes z e full x k at r there h m l w =
    let n : ℕ = made_length k r in
    let first : ℕ = at + n in
    let g = length-drop n r in
    then_comes (Early full z e) (SubsEnd z e first) (Inside r)
    (subsections (suc (stated r)) x k [] first (stated r - n) (drop n r)) _
    (subsections_come full z e first (suc (stated r)) x k [] first (stated r - n) (drop n r) (ap (drop n) there ∙ drop-drop n at z)
    (omega arith) (omega arith) (omega arith) (omega arith) tt)
    (λ us q.
    let bound = q.0 in
    need_comes (Early full z e) (Inside r) (mask_covers us) (fault 18 (place_of token_parameters first us) (place_of token_parameters first us + mask_offset)) _
    (λ v.
    let p = mask_there z first us q.1 v in
    let end = p.1 in
    early_at full z e (place_of token_parameters first us) (suc mask_offset) 18 mask_offset (omega arith) (omega arith) (λ y. omega arith) (omega arith) (inr p.0) (omega arith))
    (λ v. need_comes (Early full z e) (Inside r) (not full || has_required (record { head = part_in k r; subs = us })) (fault 20 at at) _
    (λ y. missing full z e at _ (omega arith) y) (λ y. w)))

-- A section comes to such a refusal or ends within the bytes. Of its bytes four end at e at the latest, and those that it states.
module _ (z : List ℕ) (e : ℕ) (full x : Bool) (before : List Section) (at : ℕ) (r : List ℕ) (there : r ≡ drop at z) (h : at < e)
    (front : 4 ≤ length r → at + 4 ≤ e) (ends : stated r ≤ length r → at + stated r ≤ e) where
  section_front : (k : Kind) (seen repeated : Bool) → is_subsection k ≡ false → sound 4 (take 4 (section_checks x k seen repeated r)) ≡ true
  section_front k seen repeated s =
      or_else (is_subsection k) _ (every_kind (λ j. is_subsection j || sound 4 (take 4 (section_checks x j seen repeated r))) refl k) s

  section_known : 4 ≤ length r → (k : Kind) (seen repeated : Bool) → is_subsection k ≡ false
      → Comes (Early full z e) (Inside r) (tested at (section_checks x k seen repeated r) (section_rest full x k at r))
  unfolding tested
  section_known four k seen repeated sub =
      let same = ap stated there in
      let f = front four in
      sound_come full z e (Inside r) at 4 (take 4 (section_checks x k seen repeated r)) _ (omega arith) (inl (omega arith)) (section_front k seen repeated sub)
      (λ c.
      let s = and_split (leb (least (layout k)) (stated r)) (leb (stated r) (length r)) c.1.0 in
      let a = leb-true (least (layout k)) (stated r) s.0 in
      let b = leb-true (stated r) (length r) s.1 in
      let p = least_pos k in
      let m = made_le k r a c.1.1.1.0 in
      let g = ends b in
      both_come (Early full z e) (Inside r) at (field_checks x k r) _ (section_rest full x k at r)
      (fields_come full z e (Inside r) x k at r _ (omega arith) (omega arith)
      (λ d. sound_come full z e (Inside r) at 4 (located (part_slots k r) (check 0 9 (not (same_kind rule k && repeated)) ∷ [])) _ (omega arith) (inl (omega arith))
      (every_kind (λ j. sound 4 (located (part_slots j r) (check 0 9 (not (same_kind rule k && repeated)) ∷ []))) refl k)
      (λ u. rest_comes z e full x k at r there g m b (omega arith, b)))))

  pub section_comes : Comes (Early full z e) (Inside r) (section full x before at r)
  unfolding section
  section_comes =
      need_comes (Early full z e) (Inside r) (leb 4 (length r)) (fault 6 at at) _
      (λ v. early_start full z e at 6 (omega arith) (omega arith) (λ y. omega arith) h)
      (λ w. go (leb-true 4 (length r) w) (section_kind (id_of r)) refl)
    where
      go : 4 ≤ length r → (m : Option Kind) → section_kind (id_of r) ≡ m
          → Comes (Early full z e) (Inside r) (elim m as (λ k. Outcome Section) [
            | none ↦ refused (fault 7 at at)
            | some k ↦ tested at (section_checks x k (kind_before k before) (rule_before (part_in k r) before) r) (section_rest full x k at r)
          ])
      go four none q = early_start full z e at 7 (omega arith) (omega arith) (λ y. omega arith) h
      go four (some k) q = section_known four k (kind_before k before) (rule_before (part_in k r) before) (section_kind_sound (id_of r) k q).0

-- Nothing more is asked of the sections found.
abbrev pub Anything : List Section → Type 0
Anything ss = Unit {0}

-- The sections come to such a refusal, where the turns are more than the bytes.
pub sections_come : (z : List ℕ) (e d : ℕ) (full x : Bool) (before : List Section) (at : ℕ) (r : List ℕ) → r ≡ drop at z → length r < d
    → at + length r ≤ e → Comes (Early full z e) Anything (sections d full x before at r)
unfolding sections
sections_come z e zero full x before at r there t h = absurd (omega arith)
sections_come z e (suc d) full x before at [] there t h =
    need_comes (Early full z e) Anything (not full || kind_before information before) (fault 20 at at) (found before)
    (λ v. missing full z e at _ (omega arith) v) (λ w. tt)
sections_come z e (suc d) full x before at (b ∷ bs) there t h =
    let r : List ℕ = b ∷ bs in
    then_comes (Early full z e) (Inside r) Anything (section full x before at r) _
    (section_comes z e full x before at r there (omega arith) (λ q. omega arith) (λ q. omega arith))
    (λ s q.
    let l = length-drop (stated r) r in
    let a = q.0 in
    let c = q.1 in
    sections_come z e d full x (before ++ s ∷ []) (at + stated r) (drop (stated r) r) (ap (drop (stated r)) there ∙ drop-drop (stated r) at z) (omega arith) (omega arith))

-- ---- the token and the draft

-- Bytes after do not change what is stated.
pub stated_front : (b y : List ℕ) → 4 ≤ length b → stated (b ++ y) ≡ stated b
unfolding number bytes_at
stated_front [] y h = absurd (omega arith)
stated_front (p ∷ []) y h = absurd (omega arith)
stated_front (p ∷ q ∷ []) y h = absurd (omega arith)
stated_front (p ∷ q ∷ r ∷ []) y h = absurd (omega arith)
stated_front (p ∷ q ∷ r ∷ s ∷ bs) y h = refl

-- A place within a part of what is read is within that part of the bytes.
in_part : (n : ℕ) (bs : List ℕ) (f : Fault) → n ≤ length bs → f.place ≤ n → InPart (take n bs) f → InPart bs f
in_part n bs f h l p = (p.0, go (leb (f.part + 4) f.place) refl p.1)
  where
    go : (b : Bool) → leb (f.part + 4) f.place ≡ b → (f.place < f.part + 4) ⊎ (f.place < f.part + stated (drop f.part (take n bs)))
        → (f.place < f.part + 4) ⊎ (f.place < f.part + stated (drop f.part bs))
    go false e q = inl (leb-false (f.part + 4) f.place e)
    go true e q =
        let a = leb-true (f.part + 4) f.place e in
        let t = length-take-le n bs h in
        let d = length-drop f.part (take n bs) in
        let same : stated (drop f.part bs) ≡ stated (drop f.part (take n bs)) =
        ap (λ (y : List ℕ). stated (drop f.part y)) (sym (take-append-drop n bs))
        ∙ ap stated (drop-append-le f.part (take n bs) (drop n bs) (omega arith))
        ∙ stated_front (drop f.part (take n bs)) (drop n bs) (omega arith) in
        ⊎_elim (λ w. absurd (omega arith)) (λ w. inr (omega arith)) q

-- The refusal is listed, and its place is within what is read and, where it is neither 1 nor 20, before its end.
pub record Placed (full : Bool) (bs : List ℕ) (f : Fault) : Type 0 where
  pub listed : Listed full bs (length bs) f
  pub before : (f.number ≡ 1 → ⊥) → (f.number ≡ 20 → ⊥) → f.place < length bs

placed_early : (full : Bool) (bs : List ℕ) (f : Fault) → stated bs ≤ length bs → Early full (take (stated bs) bs) (stated bs) f → Placed full bs f
placed_early full bs f h e =
    let l = e.listed in
    let w = l.within in
    record {
      listed = record { first = l.first; last = l.last; complete = l.complete; inside = in_part (stated bs) bs f h w l.inside; within = omega arith };
      before = λ p q. let y = e.early q in omega arith;
    }

-- The header's tests: in its first four bytes, and of its reserved field where the length is allowed.
placed_at : (full : Bool) (bs : List ℕ) (n o : ℕ) → 1 ≤ n → n ≤ 21 → (n ≡ 20 → ⊥) → o < length bs → (o < 4) ⊎ (o < stated bs) → Placed full bs (fault n 0 (0 + o))
placed_at full bs n o a b c h k = record {
  listed = record {
    first = a;
    last = b;
    complete = λ q. c;
    inside = (omega arith, ⊎_elim (λ q. inl (omega arith)) (λ q. inr (omega arith)) k);
    within = omega arith;
  };
  before = λ p q. omega arith;
}

reading_comes : (full : Bool) (bs : List ℕ) → Comes (Placed full bs) Anything (reading full bs)
unfolding reading tested
reading_comes full bs =
    need_comes (Placed full bs) Anything (leb 8 (length bs)) (fault 1 0 0) _
    (λ v. record { listed = record { first = omega arith; last = omega arith; complete = λ q p. omega arith; inside = (omega arith, inl (omega arith)); within = omega arith }; before = λ p q. absurd (p refl) })
    (λ v.
    let eight = leb-true 8 (length bs) v in
    tests_come (Placed full bs) Anything 0 4 (take 3 (drop 1 (header_checks full bs))) _
    (λ n o a b c l. placed_at full bs n o a b c (omega arith) (inl l)) refl (inner_low 4 (take 3 (drop 1 (header_checks full bs))) refl)
    (λ c.
    let w = allowed full bs eight c.1.1.0 in
    let least = w.eight in
    let ends = w.ends in
    tests_come (Placed full bs) Anything 0 8 (drop 4 (header_checks full bs)) _
    (λ n o a b c l. placed_at full bs n o a b c (omega arith) (inr (omega arith))) refl (inner_low 8 (drop 4 (header_checks full bs)) refl)
    (λ d.
    let t = length-take-le (stated bs) bs ends in
    let l = length-drop 8 (take (stated bs) bs) in
    comes_as (Early full (take (stated bs) bs) (stated bs)) (Placed full bs) Anything
    (sections (suc (stated bs)) full (external (id_of bs)) [] 8 (drop 8 (take (stated bs) bs))) (λ f q. placed_early full bs f ends q)
    (sections_come (take (stated bs) bs) (stated bs) (suc (stated bs)) full (external (id_of bs)) [] 8 (drop 8 (take (stated bs) bs)) refl (omega arith) (omega arith)))))

-- A refusal of the reading is listed, and its place is within the bytes.
pub refusal_placed : (full : Bool) (bs : List ℕ) (f : Fault) → reading full bs ≡ refused f → Placed full bs f
refusal_placed full bs f q = subst (Comes (Placed full bs) Anything) q (reading_comes full bs)

pub place_within : (full : Bool) (bs : List ℕ) (f : Fault) → reading full bs ≡ refused f → f.place ≤ length bs
place_within full bs f q = (refusal_placed full bs f q).listed.within

-- Every refusal of a token and of a draft has a number from 1 to 21.
pub fault_number : (full : Bool) (bs : List ℕ) (f : Fault) → reading full bs ≡ refused f
    → (1 ≤ f.number) × (f.number ≤ 21)
fault_number full bs f q = let l = (refusal_placed full bs f q).listed in (l.first, l.last)

-- A draft is never refused with 20.
pub draft_not_20 : (d : List ℕ) (f : Fault) → reading false d ≡ refused f → f.number ≡ 20 → ⊥
draft_not_20 d f q = (refusal_placed false d f q).listed.complete refl

-- Every refusal of a token has a number from 1 to 21.
pub refusal_number : (bs : List ℕ) (n p : ℕ) → answer bs ≡ Refused n p → (1 ≤ n) × (n ≤ 21)
unfolding answer as_answer
refusal_number bs n p e = go (reading true bs) refl e
  where
    go : (o : Outcome (List Section)) → reading true bs ≡ o → as_answer row_count o ≡ Refused n p → (1 ≤ n) × (n ≤ 21)
    go (found ss) q w = absurd (let z : ◌≡◌ {A = ℕ} 0 1 = cc in omega arith)
    go (refused f) q w =
        let s = same_number w in
        let t = fault_number true bs f q in
        (omega arith, omega arith)
