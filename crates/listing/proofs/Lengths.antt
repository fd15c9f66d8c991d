-- How long a line can be. Assumes nothing.
use mathlib.Core.Path.{◌≡◌, refl, sym, ap, subst, ◌∙◌}
use mathlib.Core.Bool.{Bool, true, false}
use mathlib.Core.List.{List, [], ◌∷◌}
use Prim.Native.Nat.{ℕ, ◌+◌, ◌/◌, ◌%◌, ◌^◌, ◌<◌, ◌≤◌}
use native.Mathlib.Nat.{div-le_self, mod-le}
use native.Mathlib.Omega.{arith}
use lib.Dec.{eqb}
use lib.ListN.{length, length-append}
use Rattle.format.specs.Lines.{text, id_text, tag_text, hexadecimal, first_line, row_line}
use Rattle.format.specs.Answers.{Accepted, Refused}
use Rattle.format.specs.declared.Row.{Row}
use Rattle.list_words.specs.Numerals.{numeral}
use Rattle.listing.proofs.Lines.{columns, accepted_columns, refused_columns, row_columns, accepted_is, refused_is, row_is}
use Rattle.list_words.proofs.Numerals.{numeral_ten, hexadecimal_is}

-- the bytes of columns, each with the one after it
abbrev total : List (List ℕ) → ℕ
total [] = 0
total (x ∷ xs) = (length x + 1) + total xs

-- a line of columns has that many bytes
columns_length : (xs : List (List ℕ)) → length (columns xs) ≡ total xs
unfolding columns
columns_length [] = refl
columns_length (x ∷ []) = length-append x (10 ∷ []) ∙ omega arith
columns_length (x ∷ y ∷ ys) =
    length-append x (32 ∷ columns (y ∷ ys)) ∙ omega (arith, columns_length (y ∷ ys))

-- one of two texts of k bytes or fewer has k or fewer
either_length : (k : ℕ) (t : Bool) (x y : List ℕ) → length x ≤ k → length y ≤ k
    → length {A = ℕ} (elim t [ true ↦ x | false ↦ y ]) ≤ k
either_length k true x y p q = p
either_length k false x y p q = q

-- the word for an id has ten bytes or fewer
id_length : (i : ℕ) → length (id_text i) ≤ 10
id_length i =
    either_length 10 (eqb i 0x1E) (text "external") _ (omega arith)
    (either_length 10 (eqb i 0x1F) (text "internal") (text "unknown") (omega arith) (omega arith))

-- so has a tag
tag_length : (g : ℕ) → g < 2 ^ 32 → length (tag_text g) ≤ 10
tag_length g h =
    either_length 10 (eqb g 0) (text "-") (hexadecimal 4 g) (omega arith)
    (subst (λ (l : List ℕ). length l ≤ 10) (sym (hexadecimal_is 4 g))
    (numeral_ten 16 4 g (omega arith) (omega arith) h))

-- so has a decimal number of 32 bits
decimal_length : (n : ℕ) → n < 2 ^ 32 → length (numeral 10 1 n) ≤ 10
decimal_length n h = numeral_ten 10 1 n (omega arith) (omega arith) h

-- an accepted token's line
pub accepted_length : (i n rows : ℕ) → n < 2 ^ 32 → rows < 2 ^ 32 → length (first_line i n (Accepted rows)) ≤ 96
accepted_length i n rows p q =
    subst (λ (k : ℕ). k ≤ 96) (sym (ap length (accepted_is i n rows) ∙ columns_length (accepted_columns i n rows)))
    (omega (arith, id_length i, decimal_length n p, decimal_length rows q))

-- a refused token's line
pub refused_length : (i n number place : ℕ) → number < 2 ^ 32 → place < 2 ^ 32
    → length (first_line i n (Refused number place)) ≤ 96
refused_length i n number place p q =
    subst (λ (k : ℕ). k ≤ 96)
    (sym (ap length (refused_is i n number place) ∙ columns_length (refused_columns number place)))
    (omega (arith, decimal_length number p, decimal_length place q))

-- a row's line
pub row_length_is : (n : ℕ) (r : Row) → n < 2 ^ 32 → r.kind < 2 ^ 32 → r.offset < 2 ^ 32 → r.length < 2 ^ 32
    → r.owner < 2 ^ 32 → r.rule < 2 ^ 32 → length (row_line n r) ≤ 96
row_length_is n r p k o l w i =
    let h : length (numeral 16 2 (r.kind / 65536)) ≤ 10
    = numeral_ten 16 2 (r.kind / 65536) (omega arith) (omega arith) (omega (arith, div-le_self r.kind 65536)) in
    let g : length (tag_text (r.kind % 65536)) ≤ 10
    = tag_length (r.kind % 65536) (omega (arith, mod-le r.kind 65536)) in
    subst (λ (j : ℕ). j ≤ 96) (sym (ap length (row_is n r) ∙ columns_length (row_columns n r)))
    (omega (
      arith,
      h,
      g,
      decimal_length n p,
      decimal_length r.offset o,
      decimal_length r.length l,
      decimal_length r.owner w,
      decimal_length r.rule i,
    ))
