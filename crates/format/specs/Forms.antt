-- The forms of single fields: characters, Rule IDs, label templates, dates, key lengths, the public key's numbers.
-- Beside 01: "Rules beyond the layout".
use Rattle.std.specs.Prelude.{Bool, true, false, not, ◌&&◌, ◌||◌, List, [], ◌∷◌, ℕ, zero, suc, ◌+◌, ◌-◌, ◌/◌, ◌%◌, ◌^◌, eqb, ltb, leb, get_or, take, drop}
use Rattle.format.specs.Bytes.{every, how_many, number}

abbrev pub between : ℕ → ℕ → ℕ → Bool
between lo hi n = leb lo n && leb n hi

-- how many bytes at the front pass the test
abbrev pub leading : (ℕ → Bool) → List ℕ → ℕ
leading f [] = 0
leading f (b ∷ bs) = elim (f b) [ true ↦ suc (leading f bs) | false ↦ 0 ]

-- ---- characters

abbrev pub letter : ℕ → Bool
letter b = between 0x41 0x5A b || between 0x61 0x7A b

abbrev pub digit : ℕ → Bool
digit b = between 0x30 0x39 b

-- hyphen and underscore
abbrev pub rule_sign : ℕ → Bool
rule_sign b = eqb b 0x2D || eqb b 0x5F

-- # $ @
abbrev pub label_sign : ℕ → Bool
label_sign b = eqb b 0x23 || eqb b 0x24 || eqb b 0x40

abbrev pub star : ℕ → Bool
star b = eqb b 0x2A

abbrev pub space : ℕ → Bool
space b = eqb b 0x20

-- may stand in a Rule ID
abbrev pub in_rule_id : ℕ → Bool
in_rule_id b = letter b || digit b || rule_sign b

-- may stand in a label template
abbrev pub in_label : ℕ → Bool
in_label b = letter b || digit b || label_sign b || star b

-- one or more bytes that pass the test, then spaces to the end
abbrev pub padded : (ℕ → Bool) → List ℕ → Bool
padded f bs = leb 1 (leading f bs) && every space (drop (leading f bs) bs)

-- Rule ID: one or more of A-Z, a-z, 0-9, hyphen, underscore, then spaces to the end; its field has eight bytes
unfoldable pub rule_id_form : List ℕ → Bool
rule_id_form bs = padded in_rule_id bs

-- label template: one or more letters, digits, # $ @ *, then spaces to the end; the first is no digit;
-- at most one star, first or last before the spaces
unfoldable pub label_form : List ℕ → Bool
label_form bs =
    let n = leading in_label bs in
    let stars = how_many star (take n bs) in
    padded in_label bs
    && not (digit (get_or bs 0 0))
    && leb stars 1
    && (eqb stars 0 || star (get_or bs 0 0) || star (get_or bs (n - 1) 0))

-- after the bytes at the front that pass the test and the spaces after them, 0 where none passes
abbrev pub reach : (ℕ → Bool) → List ℕ → ℕ
reach f bs = let n = leading f bs in elim (eqb n 0) [ true ↦ 0 | false ↦ n + leading space (drop n bs) ]

-- where 17 points in a Rule ID
unfoldable pub rule_id_reach : List ℕ → ℕ
rule_id_reach bs = reach in_rule_id bs

-- may stand anywhere in a label template, but for a digit in front
abbrev pub plain_label : ℕ → Bool
plain_label b = letter b || digit b || label_sign b

-- 1 where the first byte is a star, else 0
abbrev pub one_star : List ℕ → ℕ
one_star [] = 0
one_star (b ∷ bs) = elim (star b) [ true ↦ 1 | false ↦ 0 ]

-- where 17 points in a label template: after a star in front, characters without a star, where there was none in front a star
-- behind them, and spaces; at 0 where there is no character or a digit is the first
unfoldable pub label_reach : List ℕ → ℕ
label_reach bs =
    let first = one_star bs in
    let n = first + leading plain_label (drop first bs) in
    let m = n + elim first as (λ f. ℕ) [ zero ↦ one_star (drop n bs) | suc f ↦ 0 ] in
    elim (eqb n 0 || digit (get_or bs 0 0)) [ true ↦ 0 | false ↦ m + leading space (drop m bs) ]

-- ---- dates

-- every fourth year, but of the hundredths only the four-hundredths; year 0 by the same rule
abbrev pub leap_year : ℕ → Bool
leap_year y = eqb (y % 4) 0 && (not (eqb (y % 100) 0) || eqb (y % 400) 0)

-- the days of a month of the Gregorian calendar
abbrev pub days_in : ℕ → ℕ → ℕ
days_in y m =
    elim (eqb m 2) [
      | true ↦ elim (leap_year y) [ true ↦ 29 | false ↦ 28 ]
      | false ↦ elim (eqb m 4 || eqb m 6 || eqb m 9 || eqb m 11) [ true ↦ 30 | false ↦ 31 ]
    ]

-- two bytes of year 0 to 9999, a month, a day that exists
unfoldable pub date_exists : List ℕ → Bool
date_exists d =
    let y = number (take 2 d) in
    let m = get_or d 2 0 in
    leb y 9999 && between 1 12 m && between 1 (days_in y m) (get_or d 3 0)

-- the first date is not after the second: year, month, day, the highest first
unfoldable pub in_order : List ℕ → List ℕ → Bool
in_order a b = leb (number a) (number b)

-- ---- lengths of keys

abbrev pub key_length : ℕ → Bool
key_length n = eqb n 8 || eqb n 16 || eqb n 24

-- ---- the public key

abbrev pub odd : ℕ → Bool
odd n = eqb (n % 2) 1

-- the number has exactly n significant bits
abbrev pub significant_bits : ℕ → ℕ → Bool
significant_bits n v = leb (2 ^ (n - 1)) v && ltb v (2 ^ n)

-- y is the fewest bytes that hold n bits
abbrev pub fewest_bytes : ℕ → ℕ → Bool
fewest_bytes n y = eqb y ((n + 7) / 8)

-- the modulus has exactly the stated bits and is odd
unfoldable pub modulus_form : ℕ → List ℕ → Bool
modulus_form bits m = significant_bits bits (number m) && odd (number m)

-- the exponent is odd and less than the modulus as a number
unfoldable pub exponent_form : List ℕ → List ℕ → Bool
exponent_form e m = odd (number e) && ltb (number e) (number m)
