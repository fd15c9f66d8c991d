-- For every case of an answer and of a step of the walk its number in 01 and the numbers beside it; a field's place has the
-- number of its answer (Views `whether_there`), and here its offset and length.
-- Beside 01: "Where an answer is an enum, a definition gives this paper's number and values for every one of its cases".
-- Where there is no row, a row's numbers are 0: so the end of the walk has kind 0, and no row has.
use Rattle.std.specs.Prelude.{ℕ, Ok, Err, Some, None}
use Rattle.format.specs.Table.{no_row}
use Rattle.format.specs.Answers.{Answer, Where, Step}
use Rattle.format.specs.declared.Row.{Row}

-- ---- an answer, and where a field lies

-- the number of an answer: 0 where it is accepted
unfoldable pub number_of : Answer → ℕ
number_of (Ok n) = 0
number_of (Err r) = r.number

-- its second number: what is counted, or the refusal's place
unfoldable pub second_of : Answer → ℕ
second_of (Ok n) = n
second_of (Err r) = r.place

-- where a field lies, as two numbers: both 0 on refusal
unfoldable pub offset_of : Where → ℕ
offset_of (Ok w) = w.offset
offset_of (Err r) = 0

unfoldable pub length_of : Where → ℕ
length_of (Ok w) = w.length
length_of (Err r) = 0

-- ---- a step of the walk

-- the number of a step of the walk
unfoldable pub step_number : Step → ℕ
step_number (Ok (Some s)) = 0
step_number (Ok None) = 0
step_number (Err r) = r.number

-- the same where a row is asked for by its number, a call that 01 does not name (docs/DECISIONS.md, `tb_row`): after the last
-- row 22
unfoldable pub row_answer : Step → ℕ
row_answer (Ok (Some s)) = 0
row_answer (Ok None) = 22
row_answer (Err r) = r.number

-- the second number: the place of a refusal, else 0
unfoldable pub step_second : Step → ℕ
step_second (Ok (Some s)) = 0
step_second (Ok None) = 0
step_second (Err r) = r.place

-- the row of a step, and where there is none one of zeros
abbrev pub row_of : Step → Row
row_of (Ok (Some s)) = s.row
row_of (Ok None) = no_row
row_of (Err r) = no_row

-- its numbers
unfoldable pub row_kind : Step → ℕ
row_kind s = (row_of s).kind

unfoldable pub row_offset : Step → ℕ
row_offset s = (row_of s).offset

unfoldable pub row_length : Step → ℕ
row_length s = (row_of s).length

unfoldable pub row_owner : Step → ℕ
row_owner s = (row_of s).owner

unfoldable pub row_rule : Step → ℕ
row_rule s = (row_of s).rule

-- the place of the next row
unfoldable pub next_of : Step → ℕ
next_of (Ok (Some s)) = s.next
next_of (Ok None) = 0
next_of (Err r) = 0
