-- Lines that are the same have the same columns, and so the same numbers. Assumes nothing.
use Rattle.std.specs.Prelude.{Ok, Err}
use mathlib.Core.Path.{◌≡◌, sym, ap, ap₂, ◌∙◌}
use mathlib.Core.List.{List, [], ◌∷◌, head-eq_of_cons-eq}
use Prim.Native.Nat.{ℕ, ◌/◌, ◌%◌}
use native.Mathlib.Omega.{arith}
use Rattle.format.specs.Bytes.{All}
use Rattle.format.specs.Lines.{id_text, first_line, row_line}
use Rattle.format.specs.Answers.{Answer, Accepted, Refused}
use Rattle.format.specs.declared.Row.{Row}
use Rattle.format.proofs.Rows.{row_same}
use Rattle.list_words.specs.Numerals.{numeral}
use Rattle.listing.proofs.Columns.{Solid, numeral_solid, tag_solid, id_solid, columns_same}
use Rattle.listing.proofs.Lines.{accepted_columns, refused_columns, row_columns, accepted_is, refused_is, row_is}
use Rattle.listing.proofs.Readback.{numeral_same, tag_same}

-- two numbers with the same decimal text are the same
decimal_same : (n m : ℕ) → numeral 10 1 n ≡ numeral 10 1 m → n ≡ m
decimal_same n m e = numeral_same 10 1 n m (omega arith) (omega arith) e

-- a decimal text is solid
decimal_solid : (n : ℕ) → Solid (numeral 10 1 n)
decimal_solid n = numeral_solid 10 1 n (omega arith)

-- ---- rows

-- the columns of a row are solid
row_solid : (n : ℕ) (r : Row) → All Solid (row_columns n r)
row_solid n r = (
  decimal_solid n,
  (
    numeral_solid 16 2 (r.kind / 65536) (omega arith),
    (
      tag_solid (r.kind % 65536),
      (decimal_solid r.offset, (decimal_solid r.length, (decimal_solid r.owner, (decimal_solid r.rule, tt)))),
    ),
  ),
)

-- two lists of seven that are the same have the same elements
seven_same : (a a' b b' c c' d d' e e' f f' g g' : List ℕ)
    → a ∷ b ∷ c ∷ d ∷ e ∷ f ∷ g ∷ [] ≡ a' ∷ b' ∷ c' ∷ d' ∷ e' ∷ f' ∷ g' ∷ []
    → (a ≡ a') × (b ≡ b') × (c ≡ c') × (d ≡ d') × (e ≡ e') × (f ≡ f') × (g ≡ g')
seven_same a a' b b' c c' d d' e e' f f' g g' h = (cc, cc, cc, cc, cc, cc, cc)

-- so do two lists of six
six_same : (a a' b b' c c' d d' e e' f f' : List ℕ)
    → a ∷ b ∷ c ∷ d ∷ e ∷ f ∷ [] ≡ a' ∷ b' ∷ c' ∷ d' ∷ e' ∷ f' ∷ []
    → (a ≡ a') × (b ≡ b') × (c ≡ c') × (d ≡ d') × (e ≡ e') × (f ≡ f')
six_same a a' b b' c c' d d' e e' f f' h = (cc, cc, cc, cc, cc, cc)

-- lines that are the same are of the same row at the same place
pub rows_apart : (m n : ℕ) (r t : Row) → row_line m r ≡ row_line n t → (m ≡ n) × (r ≡ t)
rows_apart m n r t h =
    let e = seven_same _ _ _ _ _ _ _ _ _ _ _ _ _ _
    (columns_same _ _ _ _ (row_solid m r) (row_solid n t) (sym (row_is m r) ∙ h ∙ row_is n t)) in
    let k : r.kind / 65536 ≡ t.kind / 65536
    = numeral_same 16 2 (r.kind / 65536) (t.kind / 65536) (omega arith) (omega arith) e.1 in
    let g : r.kind % 65536 ≡ t.kind % 65536 = tag_same (r.kind % 65536) (t.kind % 65536) e.2 in (
      decimal_same m n e.0,
      row_same r t (omega arith) (decimal_same r.offset t.offset e.3)
          (decimal_same r.length t.length e.4)
          (decimal_same r.owner t.owner e.5)
          (decimal_same r.rule t.rule e.6),
    )

-- ---- first lines

-- the columns of an accepted token's line are solid
accepted_solid : (i n rows : ℕ) → All Solid (accepted_columns i n rows)
accepted_solid i n rows =
    (omega arith, (id_solid i, (decimal_solid n, (omega arith, (decimal_solid rows, (omega arith, tt))))))

-- the columns of a refused token's line are solid
refused_solid : (number place : ℕ) → All Solid (refused_columns number place)
refused_solid number place = (omega arith, (decimal_solid number, (omega arith, (decimal_solid place, tt))))

-- the id's word, the length and the number of rows
pub accepted_apart : (i j n m rows more : ℕ) → first_line i n (Accepted rows) ≡ first_line j m (Accepted more)
    → (id_text i ≡ id_text j) × (n ≡ m) × (rows ≡ more)
accepted_apart i j n m rows more h =
    let e = six_same _ _ _ _ _ _ _ _ _ _ _ _
    (columns_same _ _ _ _ (accepted_solid i n rows) (accepted_solid j m more)
    (sym (accepted_is i n rows) ∙ h ∙ accepted_is j m more)) in
    (e.1, decimal_same n m e.2, decimal_same rows more e.4)

-- two lists of four that are the same have the same second and the same fourth element
four_same : (a a' b b' c c' d d' : List ℕ) → a ∷ b ∷ c ∷ d ∷ [] ≡ a' ∷ b' ∷ c' ∷ d' ∷ [] → (b ≡ b') × (d ≡ d')
four_same a a' b b' c c' d d' h = (cc, cc)

-- the refusal's number and place
refused_apart : (i j n m number place other there : ℕ)
    → first_line i n (Refused number place) ≡ first_line j m (Refused other there) → (number ≡ other) × (place ≡ there)
refused_apart i j n m number place other there h =
    let e = four_same _ _ _ _ _ _ _ _
    (columns_same _ _ _ _ (refused_solid number place) (refused_solid other there)
    (sym (refused_is i n number place) ∙ h ∙ refused_is j m other there)) in
    (decimal_same number other e.0, decimal_same place there e.1)

-- the first letters differ
accepted_not_refused : (i j n m rows number place : ℕ)
    → first_line i n (Accepted rows) ≡ first_line j m (Refused number place) → ⊥
unfolding first_line
accepted_not_refused i j n m rows number place h =
    let z : ◌≡◌ {A = ℕ} 0x74 0x72 = head-eq_of_cons-eq h in
    omega arith

-- first lines that are the same are of the same answer
pub answers_apart : (i j n m : ℕ) (a b : Answer) → first_line i n a ≡ first_line j m b → a ≡ b
answers_apart i j n m (Ok rows) (Ok more) h = ap Accepted (accepted_apart i j n m rows more h).2
answers_apart i j n m (Ok rows) (Err r) h = absurd (accepted_not_refused i j n m rows r.number r.place h)
answers_apart i j n m (Err r) (Ok rows) h = absurd (accepted_not_refused j i m n rows r.number r.place (sym h))
answers_apart i j n m (Err r) (Err s) h =
    let e : (r.number ≡ s.number) × (r.place ≡ s.place) = refused_apart i j n m r.number r.place s.number s.place h in
    ap₂ Refused e.0 e.1
