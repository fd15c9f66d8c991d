-- The theorems about the listing's lines. The contracts cite the definitions of specs/Buffers.antt. Assumes nothing.
use mathlib.Core.Path.{◌≡◌}
use mathlib.Core.List.{List, ◌++◌}
use Prim.Native.Nat.{ℕ, ◌^◌, ◌<◌, ◌≤◌}
use lib.ListN.{length, drop}
use Rattle.format.specs.Lines.{id_text, first_line, row_line}
use Rattle.format.specs.Answers.{Answer, Accepted, Refused}
use Rattle.format.specs.declared.Row.{Row}
use Rattle.listing.specs.Buffers.{line_answer, line_in}
use Rattle.listing.proofs.Apart.{rows_apart, answers_apart, accepted_apart}
use Rattle.listing.proofs.Buffers.{room, no_room, answered}
use Rattle.listing.proofs.Lengths.{accepted_length, refused_length, row_length_is}

-- Two rows, or two places, that differ never have the same line, for numbers of any size.
pub same_row_line : (m n : ℕ) (r t : Row) → row_line m r ≡ row_line n t → (m ≡ n) × (r ≡ t)
same_row_line = rows_apart

-- Two answers that differ never have the same first line, whatever the ids and the lengths.
pub same_first_line : (i j n m : ℕ) (a b : Answer) → first_line i n a ≡ first_line j m b → a ≡ b
same_first_line = answers_apart

-- The first line of an accepted token tells its length, the number of its rows, and which of the three words its id has.
pub same_accepted_line : (i j n m rows more : ℕ) → first_line i n (Accepted rows) ≡ first_line j m (Accepted more)
    → (id_text i ≡ id_text j) × (n ≡ m) × (rows ≡ more)
same_accepted_line = accepted_apart

-- 96 bytes, which the code calls LINE, are enough for every line of numbers of 32 bits: a row's, an accepted token's, a
-- refused token's.
pub row_line_fits : (n : ℕ) (r : Row) → n < 2 ^ 32 → r.kind < 2 ^ 32 → r.offset < 2 ^ 32 → r.length < 2 ^ 32
    → r.owner < 2 ^ 32 → r.rule < 2 ^ 32 → length (row_line n r) ≤ 96
row_line_fits = row_length_is

pub accepted_line_fits : (i n rows : ℕ) → n < 2 ^ 32 → rows < 2 ^ 32 → length (first_line i n (Accepted rows)) ≤ 96
accepted_line_fits = accepted_length

pub refused_line_fits : (i n number place : ℕ) → number < 2 ^ 32 → place < 2 ^ 32
    → length (first_line i n (Refused number place)) ≤ 96
refused_line_fits = refused_length

-- Where the buffer has room for the line, the call answers its length; the line stands at the start, and the bytes after
-- it are those that were there.
pub line_given : (line old : List ℕ) → length line ≤ length old
    → (line_answer line old ≡ Accepted (length line)) × (line_in line old ≡ line ++ drop (length line) old)
line_given = room

-- Where it has no room, the call says so, and every byte is the one that was there.
pub line_refused : (line old : List ℕ) → length old < length line
    → (line_answer line old ≡ Refused 23 0) × (line_in line old ≡ old)
line_refused = no_room

-- A length is answered only where it is the line's and the buffer has room for it.
pub length_answered : (line old : List ℕ) (n : ℕ) → line_answer line old ≡ Accepted n
    → (n ≡ length line) × (n ≤ length old)
length_answered = answered
