-- The example of request 108: the table of a token with two rules.
-- Beside 02: 108.
use Rattle.std.specs.Prelude.{List, [], ◌∷◌, ◌++◌, ℕ, replicate, set}
use Rattle.format.specs.Examples.{token_t, rule_stating}

-- after the smallest token's section a rule A with a transport variant, a name, and a bare rule B
abbrev pub two_rules : List ℕ
two_rules =
    set token_t 3 196
    ++ rule_stating 28 (65 ∷ replicate 7 32)
    ++ (0 ∷ 1 ∷ 0 ∷ 8 ∷ 0 ∷ 0 ∷ 0 ∷ 0 ∷ [])
    ++ (0x13 ∷ 0 ∷ 0 ∷ 68 ∷ replicate 64 32)
    ++ rule_stating 20 (66 ∷ replicate 7 32)

-- its rows
abbrev pub two_rules_table : List ℕ
two_rules_table =
    (0x140000 ∷ 8 ∷ 72 ∷ 0 ∷ 0 ∷ [])
    ++ (0x140001 ∷ 18 ∷ 62 ∷ 0 ∷ 0 ∷ [])
    ++ (0x120000 ∷ 80 ∷ 28 ∷ 2 ∷ 1 ∷ [])
    ++ (0x120001 ∷ 100 ∷ 8 ∷ 2 ∷ 1 ∷ [])
    ++ (0x130000 ∷ 108 ∷ 68 ∷ 4 ∷ 0 ∷ [])
    ++ (0x120000 ∷ 176 ∷ 20 ∷ 5 ∷ 2 ∷ [])
