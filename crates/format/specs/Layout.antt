-- A layout is the list of a part's fields, as data. From it come the written bytes and the test of the fields that a
-- writer is lent; Slots has what reading takes from it.
-- Beside 01: "Layouts"; for `fits` refusal 24.
use Rattle.std.specs.Prelude.{Bool, true, false, ◌&&◌, List, [], ◌∷◌, ◌++◌, ℕ, ◌^◌, eqb, ltb, length, get_or, drop, replicate}
use Rattle.format.specs.Bytes.{big_endian}

-- a field of a layout, with its length in bytes
pub data Item : Type 0 where
  code : ℕ → ℕ → Item  -- `code w v`: w bytes that hold the number v, an id or a tag
  zeros : ℕ → ℕ → Item  -- `zeros n q`: n bytes that are always 0; q is the refusal where they are not (Reading looks at q in Parts `body` alone)
  own : ℕ → Item  -- `own w`: w bytes, 01's `length`, that of the whole part, in the header that of the token
  count : ℕ → ℕ → Item  -- `count w k`: w bytes, 01's x, y, n, c, m or z: the length of chosen field k of those after it, from 0
  fixed : ℕ → Item  -- `fixed n`: a chosen field of n bytes
  counted : ℕ → Item  -- `counted s`: a chosen field as long as the part's count number s states, from 0

-- Section 11 has x, bits, y, exponent, modulus, flags. x is `count 2 1`: of the chosen fields after it bits is 0, exponent 1.
-- The exponent is `counted 0`: of the counts x is 0, y is 1. Writing goes by k, reading by s, `fits` by both.

-- the chosen fields of a part, in order: all but ids, tags, lengths, counts and what is always 0
abbrev pub Fields : Type 0
Fields = List (List ℕ)

-- a part written field after field; t is what its length field states, for a section with its subsections
abbrev pub write : ℕ → List Item → Fields → List ℕ
write t [] fs = []
write t (code w v ∷ l) fs = big_endian w v ++ write t l fs
write t (zeros n q ∷ l) fs = replicate n 0 ++ write t l fs
write t (own w ∷ l) fs = big_endian w t ++ write t l fs
write t (count w k ∷ l) fs = big_endian w (length (get_or fs k [])) ++ write t l fs
write t (fixed n ∷ l) fs = get_or fs 0 [] ++ write t l (drop 1 fs)
write t (counted s ∷ l) fs = get_or fs 0 [] ++ write t l (drop 1 fs)

-- what refusal 24 tests: each field has its fixed length, or one that its count can state and that all fields of that count
-- have; no field is missing or left over, which the calls see to; ns are the counts so far
abbrev pub fits : List ℕ → List Item → Fields → Bool
fits ns [] [] = true
fits ns [] (f ∷ fs) = false
fits ns (code w v ∷ l) fs = fits ns l fs
fits ns (zeros n q ∷ l) fs = fits ns l fs
fits ns (own w ∷ l) fs = fits ns l fs
fits ns (count w k ∷ l) fs = ltb (length (get_or fs k [])) (256 ^ w) && fits (ns ++ (length (get_or fs k []) ∷ [])) l fs
fits ns (fixed n ∷ l) [] = false
fits ns (fixed n ∷ l) (f ∷ fs) = eqb (length f) n && fits ns l fs
fits ns (counted s ∷ l) [] = false
fits ns (counted s ∷ l) (f ∷ fs) = eqb (length f) (get_or ns s 0) && fits ns l fs
