-- The listing of a token, as the program writes it: a first line, and for an accepted token a line for each row of its table, in order.
use Rattle.std.specs.Prelude.{true, List, [], ◌∷◌, ◌++◌, ℕ, zero, suc, ◌+◌, ◌*◌, length, slice_index}
use Rattle.format.specs.Reading.{refused, found, id_of, reading, parts_of, answer}
use Rattle.format.specs.Table.{rows, columns}
use Rattle.format.specs.Lines.{first_line, row_line}
use Rattle.format.specs.declared.Row.{Row}

-- the rows of a token, none where it is refused
abbrev pub rows_read : List ℕ → List Row
rows_read bs = elim (reading true bs) [ refused f ↦ [] | found ss ↦ rows (parts_of ss) ]

-- the lines of rows, of which the first has place n
abbrev pub row_lines : ℕ → List Row → List ℕ
row_lines n [] = []
row_lines n (r ∷ rs) = row_line n r ++ row_lines (suc n) rs

-- the first line and then a line for each row
unfoldable pub listing : List ℕ → List ℕ
listing bs = first_line (id_of bs) (length bs) (answer bs) ++ row_lines 0 (rows_read bs)

-- ---- the same of a table

-- row n, from the numbers that the table has for it
abbrev pub row_in : List ℕ → ℕ → Row
row_in t n =
    let i = columns * n in
    record {
      kind = slice_index t i;
      offset = slice_index t (i + 1);
      length = slice_index t (i + 2);
      owner = slice_index t (i + 3);
      rule = slice_index t (i + 4);
    }

-- the lines of k rows, from row n on
abbrev pub table_lines : List ℕ → ℕ → ℕ → List ℕ
table_lines t n zero = []
table_lines t n (suc k) = row_line n (row_in t n) ++ table_lines t (suc n) k
