-- The lines as columns with a space between them, and as they are put together. Assumes nothing.
use mathlib.Core.Path.{◌≡◌, ap, ◌∙◌}
use mathlib.Core.List.{List, [], ◌∷◌, ◌++◌, append_assoc}
use Prim.Native.Nat.{ℕ, ◌/◌, ◌%◌}
use Rattle.format.specs.Lines.{text, decimal, hexadecimal, id_text, tag_text, kind_text, first_line, row_line}
use Rattle.format.specs.Answers.{Accepted, Refused}
use Rattle.format.specs.declared.Row.{Row}
use Rattle.list_words.specs.Numerals.{numeral}
use Rattle.list_words.proofs.Numerals.{decimal_is, hexadecimal_is}

-- columns with a space between them and a newline after the last
unfoldable pub columns : List (List ℕ) → List ℕ
columns [] = []
columns (x ∷ []) = x ++ (10 ∷ [])
columns (x ∷ y ∷ ys) = x ++ (32 ∷ columns (y ∷ ys))

-- ---- the columns of each line

-- the first line of an accepted token
abbrev pub accepted_columns : ℕ → ℕ → ℕ → List (List ℕ)
accepted_columns i n rows =
    text "token" ∷ id_text i ∷ numeral 10 1 n ∷ text "bytes" ∷ numeral 10 1 rows ∷ text "rows" ∷ []

-- the only line of a refused token
abbrev pub refused_columns : ℕ → ℕ → List (List ℕ)
refused_columns number place = text "refused" ∷ numeral 10 1 number ∷ text "at" ∷ numeral 10 1 place ∷ []

-- the line of a row
abbrev pub row_columns : ℕ → Row → List (List ℕ)
row_columns n r =
    numeral 10 1 n
    ∷ numeral 16 2 (r.kind / 65536)
    ∷ tag_text (r.kind % 65536)
    ∷ numeral 10 1 r.offset
    ∷ numeral 10 1 r.length
    ∷ numeral 10 1 r.owner
    ∷ numeral 10 1 r.rule
    ∷ []

-- the definition of the line, of any texts in the place of its numbers
accepted_columns_is : (a b c : List ℕ)
    → text "token " ++ a ++ text " " ++ b ++ text " bytes " ++ c ++ text " rows\n"
    ≡ columns (text "token" ∷ a ∷ b ∷ text "bytes" ∷ c ∷ text "rows" ∷ [])
unfolding columns
accepted_columns_is a b c = simp append_assoc

-- the same of the line of a refused token
refused_columns_is : (a b : List ℕ)
    → text "refused " ++ a ++ text " at " ++ b ++ text "\n" ≡ columns (text "refused" ∷ a ∷ text "at" ∷ b ∷ [])
unfolding columns
refused_columns_is a b = simp append_assoc

-- the same of the line of a row
row_columns_is : (a b c d e f g : List ℕ)
    → a
    ++ text " "
    ++ ((b ++ text " " ++ c) ++ (text " " ++ d ++ (text " " ++ e ++ (text " " ++ f ++ (text " " ++ g ++ text "\n")))))
    ≡ columns (a ∷ b ∷ c ∷ d ∷ e ∷ f ∷ g ∷ [])
unfolding columns
row_columns_is a b c d e f g = simp append_assoc

-- the first line of an accepted token has these columns
pub accepted_is : (i n rows : ℕ) → first_line i n (Accepted rows) ≡ columns (accepted_columns i n rows)
unfolding first_line
accepted_is i n rows =
    accepted_columns_is (id_text i) (decimal n) (decimal rows)
    ∙ ap (λ (l : List ℕ). columns (text "token" ∷ id_text i ∷ l ∷ text "bytes" ∷ decimal rows ∷ text "rows" ∷ []))
    (decimal_is n)
    ∙ ap (λ (l : List ℕ). columns (text "token" ∷ id_text i ∷ numeral 10 1 n ∷ text "bytes" ∷ l ∷ text "rows" ∷ []))
    (decimal_is rows)

-- the line of a refused token has these
pub refused_is : (i n number place : ℕ) → first_line i n (Refused number place) ≡ columns (refused_columns number place)
unfolding first_line
refused_is i n number place =
    refused_columns_is (decimal number) (decimal place)
    ∙ ap (λ (l : List ℕ). columns (text "refused" ∷ l ∷ text "at" ∷ decimal place ∷ [])) (decimal_is number)
    ∙ ap (λ (l : List ℕ). columns (text "refused" ∷ numeral 10 1 number ∷ text "at" ∷ l ∷ [])) (decimal_is place)

-- columns that are the same, but for the third, which stays
same_columns : (a a' b b' c d d' e e' f f' g g' : List ℕ) → a ≡ a' → b ≡ b' → d ≡ d' → e ≡ e' → f ≡ f' → g ≡ g'
    → columns (a ∷ b ∷ c ∷ d ∷ e ∷ f ∷ g ∷ []) ≡ columns (a' ∷ b' ∷ c ∷ d' ∷ e' ∷ f' ∷ g' ∷ [])
same_columns a a' b b' c d d' e e' f f' g g' p o q r s t = cc

-- the line of a row has these
pub row_is : (n : ℕ) (r : Row) → row_line n r ≡ columns (row_columns n r)
unfolding row_line
row_is n r =
    row_columns_is (decimal n) (hexadecimal 2 (r.kind / 65536)) (tag_text (r.kind % 65536)) (decimal r.offset)
    (decimal r.length) (decimal r.owner) (decimal r.rule)
    ∙ same_columns _ _ _ _ (tag_text (r.kind % 65536)) _ _ _ _ _ _ _ _ (decimal_is n) (hexadecimal_is 2 (r.kind / 65536))
    (decimal_is r.offset) (decimal_is r.length) (decimal_is r.owner) (decimal_is r.rule)

-- ---- as they are put together

-- the first line of an accepted token, of any texts in the place of its word and its numbers
pub accepted_put : (a b c : List ℕ)
    → text "token " ++ (a ++ (32 ∷ [])) ++ (b ++ (32 ∷ [])) ++ text "bytes " ++ (c ++ (32 ∷ [])) ++ text "rows\n"
    ≡ columns (text "token" ∷ a ∷ b ∷ text "bytes" ∷ c ∷ text "rows" ∷ [])
unfolding columns
accepted_put a b c = simp append_assoc

-- the line of a refused token
pub refused_put : (a b : List ℕ)
    → text "refused " ++ (a ++ (32 ∷ [])) ++ text "at " ++ (b ++ (10 ∷ [])) ≡ columns (text "refused" ∷ a ∷ text "at" ∷ b ∷ [])
unfolding columns
refused_put a b = simp append_assoc

-- the line of a row, a kind being two columns
row_joined : (a b c d e f g : List ℕ)
    → (a ++ (32 ∷ [])) ++ ((b ++ text " " ++ c) ++ (32 ∷ [])) ++ (d ++ (32 ∷ [])) ++ (e ++ (32 ∷ [])) ++ (f ++ (32 ∷ [])) ++ (g ++ (10 ∷ []))
    ≡ columns (a ∷ b ∷ c ∷ d ∷ e ∷ f ∷ g ∷ [])
unfolding columns
row_joined a b c d e f g = simp append_assoc

pub row_put : (n : ℕ) (r : Row)
    → (numeral 10 1 n ++ (32 ∷ [])) ++ (kind_text r.kind ++ (32 ∷ [])) ++ (numeral 10 1 r.offset ++ (32 ∷ []))
    ++ (numeral 10 1 r.length ++ (32 ∷ [])) ++ (numeral 10 1 r.owner ++ (32 ∷ [])) ++ (numeral 10 1 r.rule ++ (10 ∷ []))
    ≡ columns (row_columns n r)
row_put n r =
    row_joined _ (hexadecimal 2 (r.kind / 65536)) (tag_text (r.kind % 65536)) _ _ _ _
    ∙ ap (λ (h : List ℕ). columns (numeral 10 1 n ∷ h ∷ tag_text (r.kind % 65536) ∷ numeral 10 1 r.offset ∷ numeral 10 1 r.length ∷ numeral 10 1 r.owner ∷ numeral 10 1 r.rule ∷ []))
    (hexadecimal_is 2 (r.kind / 65536))
