-- Numbers written in a base with a least number of digits: what decimal and hexadecimal have in common.
use Rattle.std.specs.Prelude.{List, ◌++◌, map, ℕ, suc, ◌-◌, length, replicate}
use Rattle.format.specs.Lines.{digits, digit_text}

-- how many digits n has in base b
unfoldable pub digit_count : ℕ → ℕ → ℕ
digit_count b n = length (digits (suc n) b n)

-- n in base b, with w digits or more
unfoldable pub numeral : ℕ → ℕ → ℕ → List ℕ
numeral b w n = replicate (w - length (digits (suc n) b n)) 0x30 ++ map digit_text (digits (suc n) b n)
