-- A line that is placed in a lent buffer. Assumes nothing.
use mathlib.Core.Path.{◌≡◌}
use mathlib.Core.Logic.{⊎_elim}
use mathlib.Core.Bool.{true, false}
use mathlib.Core.List.{List, ◌++◌}
use Prim.Native.Nat.{ℕ, ◌<◌, ◌≤◌}
use native.Mathlib.Omega.{arith}
use lib.Dec.{leb}
use lib.ListN.{length, drop}
use borrow.Author.Tests.{le-leb, lt-leb}
use Rattle.format.specs.Answers.{Accepted, Refused}
use Rattle.format.proofs.Grouping.{is_true, is_false}
use Rattle.listing.specs.Buffers.{line_answer, line_in}
use Rattle.list_words.proofs.Digits.{below_or_not}

-- the buffer has no room for the line, or it has
pub no_room : (line old : List ℕ) → length old < length line
    → (line_answer line old ≡ Refused 23 0) × (line_in line old ≡ old)
unfolding line_answer line_in
no_room line old h =
    let e : leb (length line) (length old) ≡ false = lt-leb (length line) (length old) h in
    (is_false _ _ _ e, is_false _ _ _ e)

pub room : (line old : List ℕ) → length line ≤ length old
    → (line_answer line old ≡ Accepted (length line)) × (line_in line old ≡ line ++ drop (length line) old)
unfolding line_answer line_in
room line old h =
    let e : leb (length line) (length old) ≡ true = le-leb (length line) (length old) h in
    (is_true _ _ _ e, is_true _ _ _ e)

-- an answered length is the line's, and it is at most the buffer's
pub answered : (line old : List ℕ) (n : ℕ) → line_answer line old ≡ Accepted n
    → (n ≡ length line) × (n ≤ length old)
answered line old n e =
    ⊎_elim
    (λ (h : length old < length line).
    let f : line_answer line old ≡ Refused 23 0 = (no_room line old h).0 in
    let z : ◌≡◌ {A = ℕ} 0 1 = cc in
    absurd (omega arith))
    (λ (h : length line ≤ length old).
    let f : line_answer line old ≡ Accepted (length line) = (room line old h).0 in
    let z : n ≡ length line = cc in
    (z, omega arith))
    (below_or_not (length old) (length line))
