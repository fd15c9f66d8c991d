-- The digits of a number in a base of 2 or more: laws over the base, with no count of turns. Assumes nothing.
use mathlib.Core.Path.{◌≡◌, refl, sym, ap, ◌∙◌}
use mathlib.Core.Logic.{◌⊎◌, inl, inr, ⊎_elim}
use mathlib.Core.List.{List, [], ◌∷◌, ◌++◌, append_assoc, append-nil}
use Prim.Native.Nat.{ℕ, zero, suc, ◌+◌, ◌-◌, ◌/◌, ◌%◌, ◌^◌, ◌<◌, ◌≤◌}
use native.Mathlib.Nat.{add-zero, add-suc, one-mul, pow-zero, pow-suc, zero-div, zero-mod, mod-eq_of_lt, div-lt_self, div-eq_of_lt, div-lt_iff_lt-mul, eq-zero-or-pos}
use native.Mathlib.Numerals.{add-one}
use native.Mathlib.Omega.{arith}
use lib.ListN.{length, replicate, length-append, replicate-append-replicate}
use borrow.Author.Tests.{lt-ltb, le-ltb}
use Rattle.format.specs.Lines.{digits}

-- a number is below another, or not
pub below_or_not : (n m : ℕ) → (n < m) ⊎ (m ≤ n)
below_or_not n m =
    ⊎_elim (λ (z : m - n ≡ 0). inr (omega arith)) (λ (z : 0 < m - n). inl (omega arith)) (eq-zero-or-pos (m - n))

-- the last w digits of n, zeros in front where n has fewer
unfoldable pub last_digits : ℕ → ℕ → ℕ → List ℕ
last_digits zero b n = []
last_digits (suc w) b n = last_digits w b (n / b) ++ (n % b ∷ [])

-- there are w of them
pub length_last : (w b n : ℕ) → length (last_digits w b n) ≡ w
unfolding last_digits
length_last zero b n = refl
length_last (suc w) b n =
    length-append (last_digits w b (n / b)) (n % b ∷ []) ∙ ap (λ (k : ℕ). k + 1) (length_last w b (n / b)) ∙ add-one w

-- one digit, or one more than the rest has
pub digits_one : (d b n : ℕ) → n < b → digits (suc d) b n ≡ n ∷ []
digits_one d b n h = rw (lt-ltb n b h, digits)

pub digits_more : (d b n : ℕ) → b ≤ n → digits (suc d) b n ≡ digits d b (n / b) ++ (n % b ∷ [])
digits_more d b n h = rw (le-ltb n b h, digits)

-- the rest is below the number of turns that are left
pub rest_below : (b n d : ℕ) → 2 ≤ b → b ≤ n → n ≤ d → n / b < d
rest_below b n d two h l = let r : n / b < n = div-lt_self (omega arith) two in omega arith

-- any two counts of turns that are enough give the same digits
pub same_turns : (b : ℕ) → 2 ≤ b → (d e n : ℕ) → n < d → n < e → digits d b n ≡ digits e b n
same_turns b two zero e n p q = absurd (omega arith)
same_turns b two (suc d) zero n p q = absurd (omega arith)
same_turns b two (suc d) (suc e) n p q =
    ⊎_elim (λ (h : n < b). digits_one d b n h ∙ sym (digits_one e b n h))
    (λ (h : b ≤ n).
    digits_more d b n h
    ∙ ap (λ (l : List ℕ). l ++ (n % b ∷ []))
    (same_turns b two d e (n / b) (rest_below b n d two h (omega arith)) (rest_below b n e two h (omega arith)))
    ∙ sym (digits_more e b n h))
    (below_or_not n b)

-- the digits are the last ones, as many as there are
pub digits_last : (b : ℕ) → 2 ≤ b → (d n : ℕ) → n < d → digits d b n ≡ last_digits (length (digits d b n)) b n
unfolding last_digits
digits_last b two zero n p = absurd (omega arith)
digits_last b two (suc d) n p =
    ⊎_elim (λ (h : n < b). rw (digits_one d b n h) (ap (λ (k : ℕ). k ∷ []) (sym (mod-eq_of_lt h))))
    (λ (h : b ≤ n).
    let l = digits d b (n / b) in
    let k : length (l ++ (n % b ∷ [])) ≡ suc (length l) = length-append l (n % b ∷ []) ∙ add-one (length l) in
    rw (digits_more d b n h, k)
    (ap (λ (x : List ℕ). x ++ (n % b ∷ [])) (digits_last b two d (n / b) (rest_below b n d two h (omega arith)))))
    (below_or_not n b)

-- a quotient by b is below a power exactly when the number is below the next one
pub quotient_below : (b n k : ℕ) → 2 ≤ b → n < b ^ suc k → n / b < b ^ k
quotient_below b n k two h = (div-lt_iff_lt-mul {k = b} {x = n} {y = b ^ k} (omega arith)).1 (rw pow-suc at h)

number_below : (b n k : ℕ) → 2 ≤ b → n / b < b ^ k → n < b ^ suc k
number_below b n k two h = rw pow-suc ((div-lt_iff_lt-mul {k = b} {x = n} {y = b ^ k} (omega arith)).0 h)

-- as many digits as there are hold the number
pub digits_hold : (b : ℕ) → 2 ≤ b → (d n : ℕ) → n < d → n < b ^ length (digits d b n)
digits_hold b two zero n p = absurd (omega arith)
digits_hold b two (suc d) n p =
    ⊎_elim (λ (h : n < b). rw (digits_one d b n h) (number_below b n 0 two (rw (div-eq_of_lt, pow-zero) (omega arith))))
    (λ (h : b ≤ n).
    let l = digits d b (n / b) in
    let k : length (l ++ (n % b ∷ [])) ≡ suc (length l) = length-append l (n % b ∷ []) ∙ add-one (length l) in
    rw (digits_more d b n h, k)
    (number_below b n (length l) two (digits_hold b two d (n / b) (rest_below b n d two h (omega arith)))))
    (below_or_not n b)

-- a number below b to the k has k digits or fewer
pub digits_few : (b : ℕ) → 2 ≤ b → (d n k : ℕ) → n < b ^ suc k → length (digits d b n) ≤ suc k
digits_few b two zero n k p = omega arith
digits_few b two (suc d) n zero p =
    let h : n < b = rw (pow-suc, pow-zero, one-mul) at p in
    rw (digits_one d b n h) (omega arith)
digits_few b two (suc d) n (suc k) p =
    ⊎_elim (λ (h : n < b). rw (digits_one d b n h) (omega arith))
    (λ (h : b ≤ n).
    let l = digits d b (n / b) in
    let f : length l ≤ suc k = digits_few b two d (n / b) k (quotient_below b n (suc k) two p) in
    rw (digits_more d b n h, length-append l (n % b ∷ [])) (omega arith))
    (below_or_not n b)

-- there is a digit
pub digits_some : (d b n : ℕ) → 1 ≤ length (digits (suc d) b n)
digits_some d b n =
    ⊎_elim (λ (h : n < b). rw (digits_one d b n h) (omega arith))
    (λ (h : b ≤ n).
    let l = digits d b (n / b) in
    rw (digits_more d b n h, length-append l (n % b ∷ [])) (omega arith))
    (below_or_not n b)

-- every digit of 0 is 0
zeros : (b j : ℕ) → last_digits j b 0 ≡ replicate j 0
unfolding last_digits
zeros b zero = refl
zeros b (suc j) =
    ap (λ (x : ℕ). last_digits j b x ++ (0 % b ∷ [])) (zero-div b)
    ∙ ap (λ (x : ℕ). last_digits j b 0 ++ (x ∷ [])) (zero-mod b)
    ∙ ap (λ (l : List ℕ). l ++ (0 ∷ [])) (zeros b j)
    ∙ replicate-append-replicate j 1 0
    ∙ ap (λ (i : ℕ). replicate i 0) (add-one j)

-- digits in front of those that hold the number are zeros
pub zeros_last : (b : ℕ) → 2 ≤ b → (j k n : ℕ) → n < b ^ k → last_digits (j + k) b n ≡ replicate j 0 ++ last_digits k b n
unfolding last_digits
zeros_last b two j (suc k) n p =
    rw add-suc
    (ap (λ (l : List ℕ). l ++ (n % b ∷ [])) (zeros_last b two j k (n / b) (quotient_below b n k two p))
    ∙ append_assoc (replicate j 0) (last_digits k b (n / b)) (n % b ∷ []))
zeros_last b two j zero n p =
    let q : n < 1 = rw pow-zero at p in
    let z : n ≡ 0 = omega arith in
    rw (z, add-zero, append-nil) (zeros b j)
