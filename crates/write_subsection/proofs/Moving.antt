-- A section read at another place: its refusals move with it. Assumes nothing.
use mathlib.Core.Path.{◌≡◌, refl, sym, ap, ap₂, ◌∙◌}
use mathlib.Core.Bool.{Bool, true, false, not, ◌||◌}
use mathlib.Core.List.{List, [], ◌∷◌, ◌++◌}
use mathlib.Core.Option.{Option, none, some}
use Prim.Native.Nat.{ℕ, zero, suc, ◌+◌, ◌-◌, ◌≤◌}
use native.Mathlib.Omega.{arith}
use lib.Dec.{leb}
use lib.ListN.{length, get_or, take, drop, replicate, length-drop}
use lib.Seq.{take_all, drop-drop}
use Rattle.format.specs.Bytes.{number, bytes_at}
use Rattle.format.specs.Parts.{external, Kind, token_parameters, same_kind, Part, size}
use Rattle.format.specs.Rules.{Section, has, mask_covers, has_required}
use Rattle.format.specs.Reading.{id_of, fault, Outcome, refused, found, need, and_then, Test, tested, stated, made_length, part_in}
use Rattle.write_subsection.specs.LastSection.{moved}
use Rattle.format.specs.Reading.{subsection_kind, subsection_checks, subsection, subsections, place_of, mask_offset, after_subsections, section_rest, sections, row_count, as_answer}
use Rattle.format.specs.Answers.{Accepted, Refused}
use Rattle.format.proofs.Answers.{same_number, same_place}
use Rattle.format.proofs.Turns.{sections_from}
use Rattle.read_token.specs.Progress.{sections_answer}
use Rattle.read_token.proofs.Headers.{id_first}
use Rattle.format.proofs.Numbering.{Early, Comes, Anything, sections_come}

need_moved : {A : Type 0} (j : ℕ) (b : Bool) (n p i : ℕ) (rest : Outcome A) {p' i' : ℕ} {rest' : Outcome A} → p' ≡ p + j → i' ≡ i + j
    → rest' ≡ moved j rest → need b (fault n p' i') rest' ≡ moved j (need b (fault n p i) rest)
unfolding need
need_moved j true n p i rest e k r = r
need_moved j false n p i rest e k r = ap₂ (λ (q o : ℕ). refused (fault n q o)) e k

then_moved : {A B : Type 0} (j : ℕ) (o : Outcome A) {o' : Outcome A} (f g : A → Outcome B) → o' ≡ moved j o → ((a : A) → f a ≡ moved j (g a))
    → and_then o' f ≡ moved j (and_then o g)
unfolding and_then
then_moved j (refused h) f g e k = ap (λ y. and_then y f) e
then_moved j (found a) f g e k = ap (λ y. and_then y f) e ∙ k a

tests_moved : {A : Type 0} (j at : ℕ) (cs : List Test) (rest : Outcome A) {rest' : Outcome A} → rest' ≡ moved j rest → tested (at + j) cs rest' ≡ moved j (tested at cs rest)
unfolding tested
tests_moved j at [] rest e = e
tests_moved j at (c ∷ cs) rest e = need_moved j c.holds c.refusal at (at + c.offset) (tested at cs rest) refl (omega arith) (tests_moved j at cs rest e)

-- ---- subsections

subsection_moved : (j : ℕ) (x : Bool) (o : Kind) (before : List Part) (at n : ℕ) (r : List ℕ)
    → subsection x o before (at + j) n r ≡ moved j (subsection x o before at n r)
unfolding subsection
subsection_moved j x o before at n r = need_moved j (leb 4 n) 12 at at _ refl refl (go (subsection_kind o (number (bytes_at r 0 2))))
  where
    go : (m : Option Kind)
        → elim m as (λ k. Outcome Part) [ none ↦ refused (fault 13 (at + j) (at + j)) | some k ↦ tested (at + j) (subsection_checks x k (has k before) n r) (found (part_in k r)) ]
        ≡ moved {A = Part} j (elim m as (λ k. Outcome Part) [ none ↦ refused (fault 13 at at) | some k ↦ tested at (subsection_checks x k (has k before) n r) (found (part_in k r)) ])
    go none = refl
    go (some k) = tests_moved j at (subsection_checks x k (has k before) n r) (found (part_in k r)) refl

subsections_moved : (d j : ℕ) (x : Bool) (o : Kind) (before : List Part) (at n : ℕ) (r : List ℕ)
    → subsections d x o before (at + j) n r ≡ moved j (subsections d x o before at n r)
unfolding subsections
subsections_moved zero j x o before at n r = refl
subsections_moved (suc d) j x o before at zero r = refl
subsections_moved (suc d) j x o before at (suc m) r =
    then_moved j (subsection x o before at (suc m) r) _ _ (subsection_moved j x o before at (suc m) r)
    (λ p.
    let e : at + j + stated r ≡ at + stated r + j = omega arith in
    ap (λ (q : ℕ). subsections d x o (before ++ p ∷ []) q (suc m - stated r) (drop (stated r) r)) e
    ∙ subsections_moved d j x o (before ++ p ∷ []) (at + stated r) (suc m - stated r) (drop (stated r) r))

place_moved : (k : Kind) (at j : ℕ) (ps : List Part) → place_of k (at + j) ps ≡ place_of k at ps + j
place_moved k at j [] = refl
place_moved k at j (p ∷ ps) = go (same_kind k p.kind) (let e : at + j + size p ≡ at + size p + j = omega arith in ap (λ (q : ℕ). place_of k q ps) e ∙ place_moved k (at + size p) j ps)
  where
    go : (b : Bool) → place_of k (at + j + size p) ps ≡ place_of k (at + size p) ps + j
        → ◌≡◌ {A = ℕ} (elim b as (λ c. ℕ) [ true ↦ at + j | false ↦ place_of k (at + j + size p) ps ]) (elim b as (λ c. ℕ) [ true ↦ at | false ↦ place_of k (at + size p) ps ] + j)
    go true i = refl
    go false i = i

-- ---- the rest of a section

pub rest_moved : (j : ℕ) (full x : Bool) (k : Kind) (at : ℕ) (r : List ℕ) → section_rest full x k (at + j) r ≡ moved j (section_rest full x k at r)
unfolding section_rest after_subsections
rest_moved j full x k at r =
    let n : ℕ = made_length k r in
    let e : at + j + n ≡ at + n + j = omega arith in
    then_moved j (subsections (suc (stated r)) x k [] (at + n) (stated r - n) (drop n r)) _ _
    (ap (λ (q : ℕ). subsections (suc (stated r)) x k [] q (stated r - n) (drop n r)) e ∙ subsections_moved (suc (stated r)) j x k [] (at + n) (stated r - n) (drop n r))
    (λ us.
    let p : place_of token_parameters (at + j + n) us ≡ place_of token_parameters (at + n) us + j =
    ap (λ (q : ℕ). place_of token_parameters q us) e ∙ place_moved token_parameters (at + n) j us in
    need_moved j (mask_covers us) 18 (place_of token_parameters (at + n) us) (place_of token_parameters (at + n) us + mask_offset) _ p (omega arith)
    (need_moved j (not full || has_required (record { head = part_in k r; subs = us })) 20 at at (found (record { head = part_in k r; subs = us })) refl refl refl))

-- ---- its answer

pub moved_refused : {n p : ℕ} (j : ℕ) (o : Outcome (List Section)) → Refused n p ≡ as_answer row_count o → Refused n (p + j) ≡ as_answer row_count (moved j o)
unfolding as_answer
moved_refused j (refused f) e = ap₂ (λ (x y : ℕ). Refused x (y + j)) (same_number e) (same_place e)
moved_refused j (found ss) e = absurd (let y : ◌≡◌ {A = ℕ} 0 1 = cc in omega arith)

pub moved_found : {n : ℕ} (j : ℕ) (o : Outcome (List Section)) → Accepted n ≡ as_answer row_count o → Accepted n ≡ as_answer row_count (moved j o)
unfolding as_answer
moved_found j (refused f) e = absurd (let y : ◌≡◌ {A = ℕ} 0 1 = cc in omega arith)
moved_found j (found ss) e = e

-- Sections are refused within their bytes.
pub refused_within : {n p : ℕ} (x : Bool) (r : List ℕ) → Refused n p ≡ as_answer row_count (sections_from false x [] 8 r) → p ≤ 8 + length r
unfolding sections_from as_answer
refused_within {n} {p} x r e =
    go (sections (suc (length r)) false x [] 8 r) (sections_come (replicate 8 0 ++ r) (8 + length r) (suc (length r)) false x [] 8 r refl (omega arith) (omega arith)) e
  where
    go : (o : Outcome (List Section)) → Comes (Early false (replicate 8 0 ++ r) (8 + length r)) Anything o → Refused n p ≡ as_answer row_count o → p ≤ 8 + length r
    go (refused f) c q = let a = same_place q in let w = c.listed.within in omega arith
    go (found ss) c q = absurd (let y : ◌≡◌ {A = ℕ} 0 1 = cc in omega arith)

-- The bytes from eight before a place on are, after eight of them, those from the place on.
from_place : (s : List ℕ) (p : ℕ) → 8 ≤ p → p ≤ length s → drop 8 (take (length s - (p - 8)) (drop (p - 8) s)) ≡ drop p s
from_place s p h k =
    let l = length-drop (p - 8) s in
    let e : p - 8 + 8 ≡ p = omega arith in
    ap (drop 8) (take_all (length s - (p - 8)) (drop (p - 8) s) (omega arith)) ∙ drop-drop 8 (p - 8) s ∙ ap (λ (n : ℕ). drop n s) e

-- Its sections read so are those of the draft from the place on.
pub read_alone : (s : List ℕ) (p : ℕ) → 8 ≤ p → p ≤ length s
    → sections_answer (take (length s - (p - 8)) (drop (p - 8) s)) false (external (get_or s 0 0))
    ≡ as_answer row_count (sections_from false (external (id_of s)) [] 8 (drop p s))
read_alone s p h k =
    ap₂ (λ (i : ℕ) (y : List ℕ). as_answer row_count (sections_from false (external i) [] 8 y)) (sym (id_first s (omega arith))) (from_place s p h k)
