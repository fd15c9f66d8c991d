-- The examples of request 102: dates are judged only when their flags are 1.
-- Beside 02: 102.
use Rattle.std.specs.Prelude.{List, [], ◌∷◌, ◌++◌, ℕ, replicate, set}
use Rattle.format.specs.Examples.{token_t, Example, read}
use Rattle.format.specs.Answers.{Accepted, Refused}

-- the smallest token with dates at the end of its section 14, at place 80: these flags, activation, expiration
abbrev pub with_dates : ℕ → List ℕ → List ℕ → List ℕ
with_dates flags activation expiration =
    set (set token_t 3 96) 11 88 ++ (0 ∷ 2 ∷ 0 ∷ 16 ∷ 0 ∷ 0 ∷ 0 ∷ flags ∷ activation ++ expiration)

-- four zeros, four bytes FF, 29 February and 1 March 2000
abbrev pub zero_date : List ℕ
zero_date = replicate 4 0

abbrev pub ones_date : List ℕ
ones_date = replicate 4 0xFF

abbrev pub leap_day : List ℕ
leap_day = 0x07 ∷ 0xD0 ∷ 0x02 ∷ 0x1D ∷ []

abbrev pub day_after : List ℕ
day_after = 0x07 ∷ 0xD0 ∷ 0x03 ∷ 0x01 ∷ []

-- flags 0: kept, whatever they are; flags 1: judged; the flags themselves are judged before
abbrev pub dates_read : List Example
dates_read =
    read (with_dates 0 zero_date zero_date) (Accepted 3)
    ∷ read (with_dates 1 zero_date zero_date) (Refused 19 88)
    ∷ read (with_dates 0 ones_date ones_date) (Accepted 3)
    ∷ read (with_dates 0 day_after leap_day) (Accepted 3)
    ∷ read (with_dates 1 day_after leap_day) (Refused 19 92)
    ∷ read (with_dates 1 leap_day day_after) (Accepted 3)
    ∷ read (with_dates 1 leap_day zero_date) (Refused 19 92)
    ∷ read (with_dates 1 zero_date leap_day) (Refused 19 88)
    ∷ read (with_dates 2 zero_date zero_date) (Refused 11 86)
    ∷ []
