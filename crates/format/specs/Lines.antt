-- The lines of the listing, each ended by a newline.
-- Beside 01: T's listing and the paragraph after it. Beside 02: 108.
use Rattle.std.specs.Prelude.{true, false, List, [], ◌∷◌, ◌++◌, map, ℕ, zero, suc, ◌+◌, ◌-◌, ◌/◌, ◌%◌, eqb, ltb, length, replicate, Ok, Err}
use Prim.Native.Char.{code}
use Prim.Native.String.{String, [] as empty, ◌∷◌ as ◌followed-by◌}
use Rattle.format.specs.Table.{row_numbers}
use Rattle.format.specs.Answers.{Answer}
use Rattle.format.specs.declared.Row.{Row}

-- the bytes of a text: `empty` has none, `c followed-by s` is the character c and then s, `code c` here its number
abbrev pub text : String → List ℕ
text empty = []
text (c followed-by s) = code c ∷ text s

-- the digits of n in base b, the highest first; d turns are enough where d is more than n
abbrev pub digits : ℕ → ℕ → ℕ → List ℕ
digits zero b n = []
digits (suc d) b n = elim (ltb n b) [ true ↦ n ∷ [] | false ↦ digits d b (n / b) ++ (n % b ∷ []) ]

-- a digit's character, 0 to 9 and A to F
abbrev pub digit_text : ℕ → ℕ
digit_text d = elim (ltb d 10) [ true ↦ 0x30 + d | false ↦ 0x37 + d ]

abbrev pub decimal : ℕ → List ℕ
decimal n = map digit_text (digits (suc n) 10 n)

-- n in upper-case hexadecimal, with w digits or more
abbrev pub hexadecimal : ℕ → ℕ → List ℕ
hexadecimal w n =
    let ds = digits (suc n) 16 n in
    replicate (w - length ds) 0x30 ++ map digit_text ds

-- external for 1E, internal for 1F, unknown for an id that no accepted token has
abbrev pub id_text : ℕ → List ℕ
id_text i = elim (eqb i 0x1E) [ true ↦ text "external" | false ↦ elim (eqb i 0x1F) [ true ↦ text "internal" | false ↦ text "unknown" ] ]

-- the first line, from the token's id, its length and the reading's answer
unfoldable pub first_line : ℕ → ℕ → Answer → List ℕ
first_line i n (Ok rows) =
    text "token " ++ id_text i ++ text " " ++ decimal n ++ text " bytes " ++ decimal rows ++ text " rows\n"
first_line i n (Err r) = text "refused " ++ decimal r.number ++ text " at " ++ decimal r.place ++ text "\n"

-- a tag in four digits, and - for a section
abbrev pub tag_text : ℕ → List ℕ
tag_text g = elim (eqb g 0) [ true ↦ text "-" | false ↦ hexadecimal 4 g ]

-- a kind's number, as the section id in two digits and the tag
abbrev pub kind_text : ℕ → List ℕ
kind_text k = hexadecimal 2 (k / 65536) ++ text " " ++ tag_text (k % 65536)

-- numbers in decimal to the end of the line, a space before each
abbrev pub decimals : List ℕ → List ℕ
decimals [] = text "\n"
decimals (n ∷ ns) = text " " ++ decimal n ++ decimals ns

-- the numbers of a row to the end of the line: its kind and then the others
abbrev pub row_text : List ℕ → List ℕ
row_text [] = []
row_text (k ∷ ns) = kind_text k ++ decimals ns

-- the line of a row, from its place in the table and its numbers
unfoldable pub row_line : ℕ → Row → List ℕ
row_line n r = decimal n ++ text " " ++ row_text (row_numbers r)
