-- The answers of reading, and of reading into a table, by legality.
use Rattle.std.specs.Prelude.{Ok, Err}
use mathlib.Core.Path.{◌≡◌, refl, sym, ap, ap₂, ◌∙◌}
use mathlib.Core.Bool.{Bool, true, false}
use mathlib.Core.List.{List, [], ◌∷◌, ◌++◌}
use mathlib.Core.Logic.{◌↔◌, ◌⊎◌, inl, inr}
use Prim.Native.Nat.{ℕ, ◌*◌, ◌≤◌, ◌<◌}
use native.Mathlib.Omega.{arith}
use lib.Dec.{leb}
use lib.ListN.{length, drop}
use borrow.Author.Tests.{leb-true, leb-false, le-leb, lt-leb}
use Rattle.format.specs.Bytes.{Bytes}
use Rattle.format.specs.Parts.{Part}
use Rattle.format.specs.Rules.{Section, sections_of}
use Rattle.format.specs.Legal.{Legal}
use Rattle.format.specs.Reading.{Fault, Outcome, refused, found, fault, need, and_then, reading, parts_of, row_count, as_answer, answer}
use Rattle.format.specs.Table.{rows, columns, table_of, room_for, table_reading, table_answer, table_after}
use Rattle.format.specs.GivenNumbers.{number_of, second_of}
use Rattle.format.specs.Claims.{answer_numbers}
use Rattle.format.specs.Answers.{Answer, Accepted, Refused}
use Rattle.format.proofs.Answers.{same_number, same_place}
use Rattle.format.proofs.Tests.{found_inj, needed, need_passed, followed, then_found, then_refused}
use Rattle.format.proofs.Accepted.{legal_read}
use Rattle.format.proofs.Writing.{told_accepted, told_found}
use Rattle.format.proofs.Numbering.{refusal_number, fault_number, place_within}
use Rattle.format.proofs.GivenNumbers.{accepted_told, refused_told, other_told, first, second, own_answer, illegal, Told, by_legality}
use Rattle.format.proofs.Rows.{row_count_is}
use Rattle.format.proofs.Viewing.{legal_parts, read_parts}

-- The rows of a legal token are those of the sections that its reading finds.
counts : (bs : List ℕ) (l : Legal bs) → row_count (sections_of l.parts) ≡ length (rows l.parts)
counts bs l = ap length (legal_parts bs l) ∙ sym (row_count_is l.parts)

-- The answer of a legal token.
legal_answer : (bs : List ℕ) (l : Legal bs) → answer bs ≡ Accepted (length (rows l.parts))
unfolding answer
legal_answer bs l = told_found row_count (legal_read bs l) ∙ ap Accepted (counts bs l)

pub accepted_exactly : (bs : List ℕ) (n : ℕ) → Bytes bs → (answer bs ≡ Accepted n) ↔ ((l : Legal bs) × (n ≡ length (rows l.parts)))
unfolding answer
accepted_exactly bs n b = (
  (λ e.
      let t = told_accepted row_count (reading true bs) n e in
      let r = read_parts bs t.0 b t.1 in
      (r.0, sym t.2 ∙ ap length (sym r.1) ∙ sym (row_count_is r.0.parts))),
  λ w. legal_answer bs w.0 ∙ ap Accepted (sym w.1),
)

pub legal_not_refused : (bs : List ℕ) → Legal bs → (n p : ℕ) → answer bs ≡ Refused n p → ⊥
legal_not_refused bs l n p e = let q = legal_answer bs l in let z : ◌≡◌ {A = ℕ} 0 1 = cc in omega arith

-- An answer is one of the two.
either_answer : (a : Answer) → ((n : ℕ) × (a ≡ Accepted n)) ⊎ ((n : ℕ) × (p : ℕ) × (a ≡ Refused n p))
either_answer (Ok n) = inl (n, refl)
either_answer (Err r) = inr (r.number, r.place, refl)

pub every_answer : (bs : List ℕ) → ((n : ℕ) × (answer bs ≡ Accepted n)) ⊎ ((n : ℕ) × (p : ℕ) × (answer bs ≡ Refused n p) × (1 ≤ n) × (n ≤ 21))
every_answer bs = go (either_answer (answer bs))
  where
    go : ((n : ℕ) × (answer bs ≡ Accepted n)) ⊎ ((n : ℕ) × (p : ℕ) × (answer bs ≡ Refused n p))
        → ((n : ℕ) × (answer bs ≡ Accepted n)) ⊎ ((n : ℕ) × (p : ℕ) × (answer bs ≡ Refused n p) × (1 ≤ n) × (n ≤ 21))
    go (inl w) = inl w
    go (inr w) = let r = refusal_number bs w.0 w.1 w.2 in inr (w.0, w.1, w.2, r.0, r.1)

-- The number 0 is that of a legal token.
pub zero_exactly : (bs : List ℕ) → Bytes bs → (number_of (answer bs) ≡ 0) ↔ Legal bs
unfolding number_of
zero_exactly bs b = (
  (λ e. go (every_answer bs) e),
  λ l. ap number_of (legal_answer bs l),
)
  where
    go : ((n : ℕ) × (answer bs ≡ Accepted n)) ⊎ ((n : ℕ) × (p : ℕ) × (answer bs ≡ Refused n p) × (1 ≤ n) × (n ≤ 21)) → number_of (answer bs) ≡ 0 → Legal bs
    go (inl w) e = ((accepted_exactly bs w.0 b).0 w.1).0
    go (inr w) e = absurd (let z : w.0 ≡ 0 = sym (ap number_of w.2) ∙ e in let m = w.3 in omega arith)

-- What the numbers of reading say.
pub reading_numbers : (bs : List ℕ) → Bytes bs
    → ((l : Legal bs) → answer_numbers (answer bs) ≡ 0 ∷ length (rows l.parts) ∷ [])
    × ((Legal bs → ⊥) → (1 ≤ number_of (answer bs)) × (number_of (answer bs) ≤ 21) × (second_of (answer bs) ≤ length bs))
reading_numbers bs b = (
  λ l. accepted_told ((accepted_exactly bs (length (rows l.parts)) b).1 (l, refl)),
  λ h.
      let u = illegal bs b h in
      let t = refused_told (own_answer bs u.0 u.1) in
      let n = first t in
      let p = second t in
      let m = fault_number true bs u.0 u.1 in
      let q = place_within true bs u.0 u.1 in
      (omega (arith, m), omega (arith, m), omega arith),
)

-- ---- reading into a table

-- The reading of a legal token into a table is the test of its room.
legal_into : (bs t : List ℕ) (l : Legal bs)
    → table_reading bs t
    ≡ need (leb (columns * length (rows l.parts)) (length t)) (fault 23 (length (rows l.parts)) (length (rows l.parts))) (found (sections_of l.parts))
unfolding table_reading
legal_into bs t l =
    then_found _ (legal_read bs l)
    ∙ ap (λ (n : ℕ). need (leb (columns * n) (length t)) (fault 23 n n) (found (sections_of l.parts))) (counts bs l)

-- Where it has room it is accepted, and else refused with 23 and the rows needed.
room : (bs t : List ℕ) (l : Legal bs) → columns * length (rows l.parts) ≤ length t → table_reading bs t ≡ found (sections_of l.parts)
room bs t l h = legal_into bs t l ∙ need_passed _ _ _ (le-leb _ _ h)

cramped : (bs t : List ℕ) (l : Legal bs) → length t < columns * length (rows l.parts)
    → table_reading bs t ≡ refused (fault 23 (length (rows l.parts)) (length (rows l.parts)))
unfolding need
cramped bs t l h = legal_into bs t l ∙ rw (lt-leb (columns * length (rows l.parts)) (length t) h)

-- Room for 300 rows is room for any token's.
pub room_for_any : (bs t : List ℕ) (l : Legal bs) → length (rows l.parts) ≤ 300 → 1500 ≤ length t
    → table_answer bs t ≡ Accepted (length (rows l.parts))
unfolding table_answer
room_for_any bs t l m h = told_found row_count (room bs t l (omega arith)) ∙ ap Accepted (counts bs l)

pub table_exactly : (bs t : List ℕ) (n : ℕ) → Bytes bs
    → (table_answer bs t ≡ Accepted n) ↔ ((l : Legal bs) × (n ≡ length (rows l.parts)) × (columns * n ≤ length t))
unfolding table_answer table_reading
table_exactly bs t n b = (
  (λ e.
      let a = told_accepted row_count (and_then (reading true bs) (λ ss. need (room_for (parts_of ss) t) (fault 23 (row_count ss) (row_count ss)) (found ss))) n e in
      let f = followed (reading true bs) _ a.0 a.1 in
      let q = needed (room_for (parts_of f.0) t) _ _ a.0 f.2 in
      let same : row_count f.0 ≡ n = ap row_count (found_inj q.1) ∙ a.2 in
      let r = read_parts bs f.0 b f.1 in
      let m = leb-true (columns * row_count f.0) (length t) q.0 in
      (r.0, sym same ∙ ap length (sym r.1) ∙ sym (row_count_is r.0.parts), omega arith)),
  λ w.
      let l = w.0 in
      let h : columns * length (rows l.parts) ≤ length t = (let a = w.1 in let c = w.2 in omega arith) in
      told_found row_count (room bs t l h) ∙ ap Accepted (counts bs l ∙ sym w.1),
)

-- A refusal of reading into a table leaves the table, whatever is made of what is found.
refused_kept : (g : List Section → List ℕ) (o : Outcome (List Section)) (t : List ℕ) (n p : ℕ) → as_answer row_count o ≡ Refused n p
    → elim o as (λ y. List ℕ) [ refused f ↦ t | found ss ↦ g ss ] ≡ t
unfolding as_answer
refused_kept g (refused f) t n p e = refl
refused_kept g (found ss) t n p e = absurd (let z : ◌≡◌ {A = ℕ} 0 1 = cc in omega arith)

pub table_kept : (bs t : List ℕ) (n p : ℕ) → table_answer bs t ≡ Refused n p → table_after bs t ≡ t
unfolding table_answer table_after
table_kept bs t n p e = refused_kept _ (table_reading bs t) t n p e

pub table_holds : (bs t : List ℕ) (l : Legal bs) → columns * length (rows l.parts) ≤ length t
    → table_after bs t ≡ table_of (rows l.parts) ++ drop (columns * length (rows l.parts)) t
unfolding table_after
table_holds bs t l h =
    ap (λ o. elim o as (λ y. List ℕ) [ refused f ↦ t | found ss ↦ table_of (rows (parts_of ss)) ++ drop (columns * row_count ss) t ]) (room bs t l h)
    ∙ ap₂ (λ (ps : List Part) (n : ℕ). table_of (rows ps) ++ drop (columns * n) t) (legal_parts bs l) (counts bs l)

-- The refusal 23 is the table's alone: it comes where a token is legal and its rows have no room.
told_refused : (o : Outcome (List Section)) (n p : ℕ) → as_answer row_count o ≡ Refused n p → (f : Fault) × (o ≡ refused f) × (f.number ≡ n) × (f.place ≡ p)
unfolding as_answer
told_refused (refused f) n p e = (f, refl, same_number e, same_place e)
told_refused (found ss) n p e = absurd (let z : ◌≡◌ {A = ℕ} 0 1 = cc in omega arith)

short : (b : Bool) (m l n : ℕ) (ss : List Section) → leb m l ≡ b → as_answer row_count (need b (fault 23 (row_count ss) (row_count ss)) (found ss)) ≡ Refused 23 n
    → (l < m) × (row_count ss ≡ n)
unfolding as_answer need
short true m l n ss q e = absurd (let z : ◌≡◌ {A = ℕ} 0 1 = cc in omega arith)
short false m l n ss q e = (leb-false m l q, same_place e)

lacks : (bs t : List ℕ) (n : ℕ) → Bytes bs → (o : Outcome (List Section)) → reading true bs ≡ o
    → as_answer row_count (and_then o (λ ss. need (room_for (parts_of ss) t) (fault 23 (row_count ss) (row_count ss)) (found ss))) ≡ Refused 23 n
    → (l : Legal bs) × (n ≡ length (rows l.parts)) × (length t < columns * n)
unfolding and_then
lacks bs t n b (refused f) q e =
    let r = told_refused (refused f) 23 n e in
    let g = fault_number true bs f q in
    absurd (let a : f.number ≡ 23 = ap (λ (y : Fault). y.number) (refused_inj r.1) ∙ r.2 in let c = g.1 in omega arith)
  where
    refused_inj : {f g : Fault} → ◌≡◌ {A = Outcome (List Section)} (refused f) (refused g) → f ≡ g
    refused_inj e = cc
lacks bs t n b (found ss) q e =
    let s = short (room_for (parts_of ss) t) (columns * row_count ss) (length t) n ss refl e in
    let r = read_parts bs ss b q in
    let a = s.0 in
    let c = s.1 in
    (r.0, sym c ∙ ap length (sym r.1) ∙ sym (row_count_is r.0.parts), omega arith)

pub no_room : (bs t : List ℕ) (n : ℕ) → Bytes bs
    → (table_answer bs t ≡ Refused 23 n) ↔ ((l : Legal bs) × (n ≡ length (rows l.parts)) × (length t < columns * n))
unfolding table_answer table_reading as_answer
no_room bs t n b = (
  (λ e. lacks bs t n b (reading true bs) refl e),
  λ w.
      let l = w.0 in
      let h : length t < columns * length (rows l.parts) = (let a = w.1 in let c = w.2 in omega arith) in
      ap (as_answer row_count) (cramped bs t l h) ∙ ap (Refused 23) (sym w.1),
)

-- ---- its numbers

-- A legal token's rows have room or not.
legal_table : (bs t : List ℕ) → Bytes bs → (l : Legal bs)
    → Told (table_answer bs t) 23 (length (rows l.parts)) (columns * length (rows l.parts) ≤ length t) (length t < columns * length (rows l.parts))
legal_table bs t b l = go (leb (columns * length (rows l.parts)) (length t)) refl
  where
    go : (v : Bool) → leb (columns * length (rows l.parts)) (length t) ≡ v
        → Told (table_answer bs t) 23 (length (rows l.parts)) (columns * length (rows l.parts) ≤ length t) (length t < columns * length (rows l.parts))
    go true q =
        let h = leb-true (columns * length (rows l.parts)) (length t) q in
        inl (h, accepted_told ((table_exactly bs t (length (rows l.parts)) b).1 (l, refl, h)))
    go false q =
        let h = leb-false (columns * length (rows l.parts)) (length t) q in
        inr (h, refused_told ((no_room bs t (length (rows l.parts)) b).1 (l, refl, h)))

own_table : (bs t : List ℕ) (f : Fault) → reading true bs ≡ refused f → table_answer bs t ≡ Refused f.number f.place
unfolding table_answer table_reading as_answer
own_table bs t f e = ap (as_answer row_count) (then_refused _ e)

pub table_numbers : (bs t : List ℕ) → Bytes bs
    → ((number_of (table_answer bs t) ≡ 0) ↔ ((l : Legal bs) × (columns * length (rows l.parts) ≤ length t)))
    × ((number_of (table_answer bs t) ≡ 23) ↔ ((l : Legal bs) × (length t < columns * length (rows l.parts))))
    × ((l : Legal bs) → second_of (table_answer bs t) ≡ length (rows l.parts))
    × ((Legal bs → ⊥) → answer_numbers (table_answer bs t) ≡ answer_numbers (answer bs))
    × ((number_of (table_answer bs t) ≡ 0 → ⊥) → table_after bs t ≡ t)
table_numbers bs t b =
    let r = by_legality bs (table_answer bs t) 23 (λ l. length (rows l.parts)) _ _ b (omega arith) (λ l p q. omega arith) (legal_table bs t b) (own_table bs t) in
    (r.0, r.1, r.2, r.3, λ h. table_kept bs t _ _ (other_told (table_answer bs t) h))
