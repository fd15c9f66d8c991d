-- A line at the start of a lent buffer: what the call answers, and what the buffer then holds.
use Rattle.std.specs.Prelude.{true, false, List, ◌++◌, ℕ, leb, length, drop}
use Rattle.format.specs.Answers.{Answer, Accepted, Refused}

-- 0 with the line's length, or 23 where the buffer, which held the bytes old, is too small for it
unfoldable pub line_answer : List ℕ → List ℕ → Answer
line_answer line old = elim (leb (length line) (length old)) [ true ↦ Accepted (length line) | false ↦ Refused 23 0 ]

-- the line and, after it, the bytes that were there; all of the old bytes where the buffer is too small
unfoldable pub line_in : List ℕ → List ℕ → List ℕ
line_in line old = elim (leb (length line) (length old)) [ true ↦ line ++ drop (length line) old | false ↦ old ]
