-- The lines of a table's rows are those of the rows that it holds.
use Rattle.std.proofs.Common.{◌≡◌, ℕ, zero, suc, ◌+◌, ◌*◌, List, [], ◌∷◌, ◌++◌, arith, length, drop, get_or, refl, sym, ap, ap₂, ◌∙◌, append_assoc, append-nil, add-zero}
use Rattle.std.proofs.lemmas.List.{get_or-drop, drop-drop}
use Rattle.format.specs.Table.{row_numbers, columns, table_of}
use Rattle.format.specs.Lines.{row_line}
use Rattle.format.specs.declared.Row.{Row}
use Rattle.list_token.specs.Listing.{row_lines, row_in, table_lines}

-- the lines of one row more
more : (t : List ℕ) (n k : ℕ) → table_lines t n (suc k) ≡ table_lines t n k ++ row_line (n + k) (row_in t (n + k))
more t n zero =
    let z : n + 0 ≡ n = omega arith in
    append-nil (row_line n (row_in t n)) ∙ sym (ap (λ m. row_line m (row_in t m)) z)
more t n (suc k) =
    let z : suc n + k ≡ n + suc k = omega arith in
    let line = row_line n (row_in t n) in
    ap (λ l. line ++ l) (more t (suc n) k ∙ ap (λ m. table_lines t (suc n) k ++ row_line m (row_in t m)) z)
    ∙ sym (append_assoc line (table_lines t (suc n) k) _)

pub one_more : (t : List ℕ) (k : ℕ) → table_lines t 0 (k + 1) ≡ table_lines t 0 k ++ row_line k (row_in t k)
one_more t k =
    let s : k + 1 ≡ suc k = omega arith in
    let z : 0 + k ≡ k = omega arith in
    ap (table_lines t 0) s ∙ more t 0 k ∙ ap (λ m. table_lines t 0 k ++ row_line m (row_in t m)) z

-- a row whose numbers the table has there
row_there : (t rest : List ℕ) (n : ℕ) (r : Row) → drop (columns * n) t ≡ row_numbers r ++ rest → row_in t n ≡ r
row_there t rest n r e =
    let i = columns * n in
    let at : (k : ℕ) → get_or t (i + k) 0 ≡ get_or (row_numbers r ++ rest) k 0 =
    λ k. sym (get_or-drop i t k 0) ∙ ap (λ l. get_or l k 0) e in
    let first : get_or t i 0 ≡ r.kind = ap (λ m. get_or t m 0) (sym (add-zero i)) ∙ at 0 in
    λ j. record { kind = first j; offset = at 1 j; length = at 2 j; owner = at 3 j; rule = at 4 j }

-- the rows that stand in a table from row n on
pub rows_lines : (t rest : List ℕ) (n : ℕ) (rs : List Row) → drop (columns * n) t ≡ table_of rs ++ rest → table_lines t n (length rs) ≡ row_lines n rs
rows_lines t rest n [] e = refl
rows_lines t rest n (r ∷ rs) e =
    let f : drop (columns * n) t ≡ row_numbers r ++ (table_of rs ++ rest) = e ∙ append_assoc (row_numbers r) (table_of rs) rest in
    let next : columns * suc n ≡ columns * n + columns = omega arith in
    let g : drop (columns * suc n) t ≡ table_of rs ++ rest =
    ap (λ m. drop m t) next ∙ sym (drop-drop columns (columns * n) t) ∙ ap (drop columns) f in
    ap₂ (λ x l. row_line n x ++ l) (row_there t (table_of rs ++ rest) n r f) (rows_lines t rest (suc n) rs g)
