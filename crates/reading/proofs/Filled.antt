-- The lent table: the answer, and what the table then holds.
use mathlib.Core.Path.{◌≡◌, refl, sym, ap, ◌∙◌}
use mathlib.Core.Bool.{Bool, true, false}
use mathlib.Core.List.{List, [], ◌∷◌, ◌++◌}
use Prim.Native.Nat.{ℕ, ◌+◌, ◌*◌, ◌<◌, ◌≤◌}
use native.Mathlib.Omega.{arith}
use lib.Dec.{leb}
use lib.ListN.{length, drop}
use lib.Seq.{sets-eq}
use borrow.Author.Tests.{le-leb, lt-leb}
use Rattle.format.specs.Rules.{Section}
use Rattle.format.specs.Reading.{Outcome, refused, found, fault, need, and_then, as_answer, reading, parts_of, row_count, answer}
use Rattle.format.specs.Table.{rows, table_of, columns, table_reading, table_answer, table_after}
use Rattle.format.specs.Answers.{Accepted, Refused}
use Rattle.format.specs.declared.Row.{Row}
use Rattle.format.proofs.Rows.{row_count_is}
use Rattle.read_rows.specs.Filling.{IsFilled}
pub use Rattle.read_fields.proofs.Sizes.{bytes_of}

-- An accepted answer comes from a reading that found its sections.
pub record ReadWhole (s : List ℕ) (n : ℕ) : Type 0 where
  pub sections : List Section
  pub read : reading true s ≡ found sections
  pub rows : n ≡ row_count sections

pub accepted_read : {n : ℕ} (s : List ℕ) → Accepted n ≡ answer s → ReadWhole s n
unfolding answer as_answer
accepted_read {n} s e = go (reading true s) refl e
  where
    go : (o : Outcome (List Section)) → reading true s ≡ o → Accepted n ≡ as_answer row_count o → ReadWhole s n
    go (refused f) q w = absurd (let y : ◌≡◌ {A = ℕ} 0 1 = cc in omega arith)
    go (found ss) q w = let m : n ≡ row_count ss = cc in record { sections = ss; read = q; rows = m }

-- the table after an outcome
abbrev after : List ℕ → Outcome (List Section) → List ℕ
after t o = elim o as (λ y. List ℕ) [ refused f ↦ t | found ss ↦ table_of (rows (parts_of ss)) ++ drop (columns * row_count ss) t ]

-- ---- refusals

-- The reading's own refusal.
pub refused_table : {m p : ℕ} (s t : List ℕ) → Refused m p ≡ answer s → (Refused m p ≡ table_answer s t) × (t ≡ table_after s t)
unfolding answer as_answer table_answer table_after table_reading and_then
refused_table {m} {p} s t e = go (reading true s) e
  where
    go : (o : Outcome (List Section)) → Refused m p ≡ as_answer row_count o
        → (Refused m p ≡ as_answer row_count (and_then o (λ ss. need (leb (columns * length (parts_of ss)) (length t)) (fault 23 (row_count ss) (row_count ss)) (found ss))))
        × (t ≡ elim (and_then o (λ ss. need (leb (columns * length (parts_of ss)) (length t)) (fault 23 (row_count ss) (row_count ss)) (found ss))) as (λ y. List ℕ) [
          | refused f ↦ t
          | found ss ↦ table_of (rows (parts_of ss)) ++ drop (columns * row_count ss) t
        ])
    go (refused f) w = (w, refl)
    go (found ss) w = absurd (let y : ◌≡◌ {A = ℕ} 0 1 = cc in omega arith)

-- The table is too short.
pub short_table : {n : ℕ} (s t : List ℕ) → ReadWhole s n → length t < columns * n → (Refused 23 n ≡ table_answer s t) × (t ≡ table_after s t)
unfolding table_answer table_after table_reading and_then need as_answer
short_table {n} s t w h =
    let r = w.rows in
    let b : leb (columns * length (parts_of w.sections)) (length t) ≡ false = lt-leb (columns * length (parts_of w.sections)) (length t) (omega arith) in
    (ap (λ (m : ℕ). Refused 23 m) r ∙ sym (ap (as_answer row_count) (short (reading true s) w.read b)), sym (ap (after t) (short (reading true s) w.read b)))
  where
    short : (o : Outcome (List Section)) → o ≡ found w.sections → leb (columns * length (parts_of w.sections)) (length t) ≡ false
        → and_then o (λ ss. need (leb (columns * length (parts_of ss)) (length t)) (fault 23 (row_count ss) (row_count ss)) (found ss)) ≡ refused (fault 23 (row_count w.sections) (row_count w.sections))
    short o e b =
        ap (λ y. and_then y (λ ss. need (leb (columns * length (parts_of ss)) (length t)) (fault 23 (row_count ss) (row_count ss)) (found ss))) e
        ∙ ap (λ (y : Bool). need y (fault 23 (row_count w.sections) (row_count w.sections)) (found w.sections)) b

-- ---- the rows

table_long : (rs : List Row) → length (table_of rs) ≡ columns * length rs
table_long [] = refl
table_long (r ∷ rs) = let i = table_long rs in omega arith

-- The table is filled.
pub filled_table : {n : ℕ} {u : List ℕ} (s t : List ℕ) → ReadWhole s n → columns * n ≤ length t → IsFilled s t u
    → (Accepted n ≡ table_answer s t) × (u ≡ table_after s t)
unfolding table_answer table_after table_reading and_then need as_answer
filled_table {n} {u} s t w h f =
    let r = w.rows in
    let ss : List Section = w.sections in
    let b : leb (columns * length (parts_of ss)) (length t) ≡ true = le-leb (columns * length (parts_of ss)) (length t) (omega arith) in
    let l = table_long (rows (parts_of ss)) in
    let k = row_count_is (parts_of ss) in
    let e : length (table_of (rows (parts_of ss))) ≡ columns * row_count ss = omega arith in
    let z : 0 + length (table_of (rows (parts_of ss))) ≡ columns * row_count ss = omega arith in
    let g : u ≡ table_of (rows (parts_of ss)) ++ drop (columns * row_count ss) t =
    f ss w.read ∙ sets-eq (table_of (rows (parts_of ss))) t 0 (omega arith) ∙ ap (λ (y : ℕ). table_of (rows (parts_of ss)) ++ drop y t) z in
    (ap Accepted r ∙ sym (ap (as_answer row_count) (whole (reading true s) w.read b)), g ∙ sym (ap (after t) (whole (reading true s) w.read b)))
  where
    whole : (o : Outcome (List Section)) → o ≡ found w.sections → leb (columns * length (parts_of w.sections)) (length t) ≡ true
        → and_then o (λ ss. need (leb (columns * length (parts_of ss)) (length t)) (fault 23 (row_count ss) (row_count ss)) (found ss)) ≡ found w.sections
    whole o e b =
        ap (λ y. and_then y (λ ss. need (leb (columns * length (parts_of ss)) (length t)) (fault 23 (row_count ss) (row_count ss)) (found ss))) e
        ∙ ap (λ (y : Bool). need y (fault 23 (row_count w.sections) (row_count w.sections)) (found w.sections)) b
