-- The examples of request 107: where each number points. 19 and 21 stand in DateExamples and Examples.
-- Beside 02: 107; the places are worked out by hand, from the layouts of 01.
use Rattle.std.specs.Prelude.{List, [], ◌∷◌, ◌++◌, ℕ, ◌+◌, length, replicate, set}
use Rattle.format.specs.Examples.{token_t, rule_stating, with_rule, Example, read}
use Rattle.format.specs.Answers.{Accepted, Refused}

-- the smallest token with these bytes after it, at place 80
abbrev pub followed_by : List ℕ → List ℕ
followed_by bs = set token_t 3 (80 + length bs) ++ bs

-- a rule A, and after it, at place 100, these subsections
abbrev pub with_subsections : List ℕ → List ℕ
with_subsections bs = followed_by (rule_stating (20 + length bs) (0x41 ∷ replicate 7 0x20) ++ bs)

-- a 0003 with this minimum, maximum, length of its variant and length of its control vector, and no bytes after its counts
abbrev pub export_of : ℕ → ℕ → ℕ → ℕ → List ℕ
export_of minimum maximum x c = 0 ∷ 3 ∷ 0 ∷ (12 + x + c) ∷ 0 ∷ 0 ∷ 0 ∷ 0 ∷ minimum ∷ maximum ∷ x ∷ replicate x 0 ++ (c ∷ replicate c 0)

-- a 0005 with masks of m bytes and this label template
abbrev pub token_of : ℕ → List ℕ → List ℕ
token_of m label = 0 ∷ 5 ∷ 0 ∷ (10 + m + m + length label) ∷ 0 ∷ 0 ∷ 0 ∷ 0 ∷ m ∷ replicate (m + m) 0 ++ (length label ∷ label)

-- a public key of 512 bits: an exponent of one byte, the first byte of its modulus, and its flags
abbrev pub key_of : ℕ → ℕ → ℕ → List ℕ
key_of exponent first flags =
    0x11 ∷ 0 ∷ 0 ∷ 81 ∷ 0 ∷ 0 ∷ 0 ∷ 1 ∷ 2 ∷ 0 ∷ 0 ∷ 64 ∷ exponent ∷ first ∷ replicate 62 0 ++ (1 ∷ flags ∷ 0 ∷ 0 ∷ 0 ∷ [])

abbrev pub places_read : List Example
places_read =
    -- the header
    read (set token_t 0 0x1D) (Refused 2 0)
    ∷ read (set token_t 1 1) (Refused 3 1)
    ∷ read (set token_t 3 81) (Refused 4 2)
    ∷ read (set token_t 7 1) (Refused 5 4)
    -- a section's start, version, length
    ∷ read (followed_by (0x13 ∷ 0 ∷ 0 ∷ [])) (Refused 6 80)
    ∷ read (followed_by (0x13 ∷ 0 ∷ 0 ∷ 4 ∷ [])) (Refused 6 82)
    ∷ read (followed_by (0x16 ∷ 0 ∷ 0 ∷ 4 ∷ [])) (Refused 7 80)
    ∷ read (set token_t 9 1) (Refused 8 9)
    ∷ read (followed_by (0x14 ∷ 0 ∷ 0 ∷ 10 ∷ replicate 6 0)) (Refused 9 80)
    ∷ read (followed_by (0x15 ∷ 0 ∷ 0 ∷ 6 ∷ 0 ∷ 1 ∷ [])) (Refused 15 82)
    -- its fields, at their first byte whichever is wrong
    ∷ read (set token_t 13 1) (Refused 10 12)
    ∷ read (set token_t 17 2) (Refused 11 14)
    -- a subsection's start, version, length
    ∷ read (with_subsections (0 ∷ 1 ∷ 0 ∷ [])) (Refused 12 100)
    ∷ read (set token_t 21 61) (Refused 12 20)
    ∷ read (set token_t 21 63) (Refused 12 20)
    ∷ read (set token_t 19 9) (Refused 13 18)
    ∷ read (with_subsections (export_of 8 8 0 0 ++ export_of 8 8 0 0)) (Refused 14 112)
    ∷ read (set token_t 22 1) (Refused 8 22)
    -- the public key: x, the bits, y, the modulus, the exponent, the flags
    ∷ read (followed_by (key_of 3 0x80 0)) (Accepted 3)
    ∷ read (set (followed_by (key_of 3 0x80 0)) 88 1) (Refused 16 88)
    ∷ read (set (followed_by (key_of 3 0x80 0)) 89 8) (Refused 16 90)
    ∷ read (followed_by (key_of 3 0x40 0)) (Refused 16 93)
    ∷ read (followed_by (key_of 2 0x80 0)) (Refused 16 92)
    ∷ read (followed_by (key_of 3 0x80 0x40)) (Refused 11 157)
    -- a Rule ID and a label template, where they cannot go on
    ∷ read (with_rule (0x41 ∷ 0x20 ∷ 0x20 ∷ 0x2D ∷ replicate 4 0x20)) (Refused 17 87)
    ∷ read (with_subsections (token_of 0 (0x41 ∷ 0x2A ∷ 0x42 ∷ replicate 61 0x20))) (Refused 17 112)
    ∷ read (with_subsections (token_of 0 (0x2A ∷ 0x41 ∷ 0x2A ∷ replicate 61 0x20))) (Refused 17 112)
    ∷ read (with_subsections (token_of 0 (0x31 ∷ 0x41 ∷ replicate 62 0x20))) (Refused 17 110)
    ∷ read (with_subsections (token_of 8 (0x41 ∷ 0x20 ∷ 0x2A ∷ replicate 61 0x20))) (Refused 17 128)
    -- lengths, a relation of two at the later one
    ∷ read (with_subsections (export_of 7 8 0 0)) (Refused 18 108)
    ∷ read (with_subsections (export_of 16 8 0 0)) (Refused 18 109)
    ∷ read (with_subsections (export_of 8 16 8 0)) (Refused 18 110)
    ∷ read (with_subsections (export_of 8 8 0 1)) (Refused 18 111)
    ∷ read (with_subsections (token_of 7 [])) (Refused 18 108)
    ∷ read (with_subsections (token_of 8 (0x41 ∷ []))) (Refused 18 125)
    ∷ read (with_subsections (token_of 8 [] ++ export_of 16 16 0 0)) (Refused 18 108)
    ∷ []
