-- The starred examples of 01: one table, one claim; and the fault of the spring bill.
use Rattle.std.specs.Prelude.{◌≡◌, Bool, true, false, List, [], ◌∷◌, ◌++◌, ℕ, replicate, set}
use Rattle.format.specs.Forms.{date_exists}
use Rattle.format.specs.Reading.{answer}
use Rattle.format.specs.Answers.{Answer, Accepted, Refused}

-- the smallest token
abbrev pub token_t : List ℕ
token_t =
    0x1E ∷ 0 ∷ 0 ∷ 80 ∷ 0 ∷ 0 ∷ 0 ∷ 0
    ∷ 0x14 ∷ 0 ∷ 0 ∷ 72 ∷ 0 ∷ 0 ∷ 0 ∷ 0 ∷ 0 ∷ 0
    ∷ 0 ∷ 1 ∷ 0 ∷ 62 ∷ 0 ∷ 0
    ∷ replicate 56 0

-- a rule without subsections that states n bytes, with this Rule ID
abbrev pub rule_stating : ℕ → List ℕ → List ℕ
rule_stating n r = 0x12 ∷ 0 ∷ 0 ∷ n ∷ r ++ (0 ∷ 0 ∷ 0 ∷ 0 ∷ 8 ∷ 0 ∷ 0 ∷ 0 ∷ [])

-- the smallest token with a bare rule of this Rule ID after its other section
abbrev pub with_rule : List ℕ → List ℕ
with_rule r = set token_t 3 100 ++ rule_stating 20 r

-- an example: the answer for some bytes, the answer whichever number stands in them, whether a date exists
pub data Example : Type 0 where
  read : List ℕ → Answer → Example
  read_any : (ℕ → List ℕ) → Answer → Example
  date : List ℕ → Bool → Example

abbrev pub Holds : Example → Type 0
Holds (read bs a) = answer bs ≡ a
Holds (read_any f a) = (b : ℕ) → answer (f b) ≡ a
Holds (date d b) = date_exists d ≡ b

abbrev pub starred : List Example
starred =
    read token_t (Accepted 2)
    ∷ read [] (Refused 1 0)
    ∷ read (0x1E ∷ 0 ∷ 0 ∷ 8 ∷ 0 ∷ 0 ∷ 0 ∷ 0 ∷ []) (Refused 20 8)
    ∷ read (set token_t 79 1) (Refused 21 64)
    ∷ read (set (set token_t 79 1) 0 0x1F) (Accepted 2)
    ∷ read_any (λ b. token_t ++ (b ∷ [])) (Refused 4 2)
    ∷ date (0x07 ∷ 0xD0 ∷ 0x02 ∷ 0x1D ∷ []) true
    ∷ date (0x07 ∷ 0x6C ∷ 0x02 ∷ 0x1D ∷ []) false
    ∷ date (0x27 ∷ 0x0F ∷ 0x0C ∷ 0x1F ∷ []) true
    ∷ read (with_rule (replicate 8 32)) (Refused 17 84)
    ∷ read (with_rule (65 ∷ replicate 7 32)) (Accepted 3)
    ∷ []

-- 00's block in small: after the smallest token's section a rule A that states 28 bytes, 8 of them for its transport variant,
-- which states 28, the 20 more being a rule B. Read past its section, it would be a subsection, and then a second rule.
abbrev pub spring_token : List ℕ
spring_token =
    set token_t 3 128
    ++ (rule_stating 28 (65 ∷ replicate 7 32) ++ (0 ∷ 1 ∷ 0 ∷ 28 ∷ 0 ∷ 0 ∷ 0 ∷ 20 ∷ rule_stating 20 (66 ∷ replicate 7 32)))
