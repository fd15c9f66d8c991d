-- Numbers written in a base: their digits one by one, and how many there are. Assumes nothing.
use mathlib.Core.Path.{◌≡◌, refl, sym, ap, ◌∙◌}
use mathlib.Core.List.{List, [], ◌∷◌, ◌++◌, map, map-append}
use Prim.Native.Nat.{ℕ, zero, suc, ◌+◌, ◌-◌, ◌/◌, ◌%◌, ◌^◌, max, ◌<◌, ◌≤◌}
use native.Mathlib.Nat.{sub-add-eq-max, sub-eq-zero_of_le, lt_of_lt_of_le, pow-le-pow_left, max-le}
use native.Mathlib.Omega.{arith}
use lib.Dec.{lit≤}
use lib.ListN.{length, replicate, length-append, length-map}
use Rattle.format.specs.Lines.{digits, digit_text, decimal, hexadecimal}
use Rattle.list_words.specs.Numerals.{digit_count, numeral}
use Rattle.list_words.proofs.Digits.{last_digits, length_last, digits_one, digits_more, same_turns, rest_below, digits_last, digits_hold, digits_few, digits_some, zeros_last}

-- ---- how many digits

-- a number below the base has one
pub count_one : (b n : ℕ) → n < b → digit_count b n ≡ 1
unfolding digit_count
count_one b n h = ap length (digits_one n b n h)

-- any other has one more than its quotient
pub count_more : (b n : ℕ) → 2 ≤ b → b ≤ n → digit_count b n ≡ digit_count b (n / b) + 1
unfolding digit_count
count_more b n two h =
    ap length (digits_more n b n h) ∙ length-append (digits n b (n / b)) (n % b ∷ [])
    ∙ ap (λ (l : List ℕ). length l + 1)
    (same_turns b two n (suc (n / b)) (n / b) (rest_below b n n two h (omega arith)) (omega arith))

-- a number below b to the k has k or fewer
count_few : (b n k : ℕ) → 2 ≤ b → n < b ^ suc k → digit_count b n ≤ suc k
unfolding digit_count
count_few b n k two h = digits_few b two (suc n) n k h

-- in a base of 10 or more, a number of 32 bits has ten digits or fewer
pub count_ten : (b n : ℕ) → 10 ≤ b → n < 2 ^ 32 → digit_count b n ≤ 10
count_ten b n ten h =
    count_few b n 9 (omega arith)
    (lt_of_lt_of_le (lt_of_lt_of_le h (lit≤ {m = 2 ^ 32} {n = 10 ^ 10} tt)) (pow-le-pow_left ten 10))

-- b to as many as there are is above the number
pub count_holds : (b n : ℕ) → 2 ≤ b → n < b ^ digit_count b n
unfolding digit_count
count_holds b n two = digits_hold b two (suc n) n (omega arith)

-- ---- the text

-- zeros in front are characters of the digit 0
zero_text : (j : ℕ) → replicate j 0x30 ≡ map digit_text (replicate j 0)
zero_text zero = refl
zero_text (suc j) = ap (λ (l : List ℕ). 0x30 ∷ l) (zero_text j)

-- the last digits, as many as there are or as asked for
pub numeral_last : (b w n : ℕ) → 2 ≤ b → numeral b w n ≡ map digit_text (last_digits (max w (digit_count b n)) b n)
unfolding numeral digit_count
numeral_last b w n two =
    let ds = digits (suc n) b n in
    let k = length ds in
    let l : replicate (w - k) 0 ++ ds ≡ last_digits (max w k) b n =
    ap (λ (l : List ℕ). replicate (w - k) 0 ++ l) (digits_last b two (suc n) n (omega arith))
    ∙ sym (zeros_last b two (w - k) k n (digits_hold b two (suc n) n (omega arith)))
    ∙ ap (λ (i : ℕ). last_digits i b n) (sub-add-eq-max w k) in
    ap (λ (z : List ℕ). z ++ map digit_text ds) (zero_text (w - k))
    ∙ sym (map-append digit_text (replicate (w - k) 0) ds)
    ∙ ap (map digit_text) l

-- how many characters that are
pub numeral_length : (b w n : ℕ) → 2 ≤ b → length (numeral b w n) ≡ max w (digit_count b n)
numeral_length b w n two =
    ap length (numeral_last b w n two) ∙ length-map (last_digits (max w (digit_count b n)) b n) digit_text
    ∙ length_last (max w (digit_count b n)) b n

-- in a base of 10 or more, a number of 32 bits takes ten characters or fewer
pub places_ten : (b w n : ℕ) → 10 ≤ b → w ≤ 10 → n < 2 ^ 32 → max w (digit_count b n) ≤ 10
places_ten b w n ten l h = max-le l (count_ten b n ten h)

pub numeral_ten : (b w n : ℕ) → 10 ≤ b → w ≤ 10 → n < 2 ^ 32 → length (numeral b w n) ≤ 10
numeral_ten b w n ten l h = rw (numeral_length b w n (omega arith)) (places_ten b w n ten l h)

-- decimal has one digit or more, hexadecimal as many as asked for
pub decimal_is : (n : ℕ) → decimal n ≡ numeral 10 1 n
unfolding numeral
decimal_is n =
    let z : 1 - length (digits (suc n) 10 n) ≡ 0 = sub-eq-zero_of_le (digits_some n 10 n) in
    ap (λ (j : ℕ). replicate j 0x30 ++ map digit_text (digits (suc n) 10 n)) (sym z)

pub hexadecimal_is : (w n : ℕ) → hexadecimal w n ≡ numeral 16 w n
unfolding numeral
hexadecimal_is w n = refl
