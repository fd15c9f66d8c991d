-- The number that a text of digits stands for: reading it back gives the number that was written. Assumes nothing.
use mathlib.Core.Path.{◌≡◌, refl, sym, ap, ◌∙◌}
use mathlib.Core.Logic.{⊎_elim}
use mathlib.Core.Bool.{true, false}
use mathlib.Core.List.{List, [], ◌∷◌, ◌++◌, map, map-append}
use Prim.Native.Nat.{ℕ, zero, suc, ◌+◌, ◌-◌, ◌*◌, ◌/◌, ◌%◌, ◌^◌, max, ◌<◌, ◌≤◌}
use native.Mathlib.Nat.{pow-zero, mod-lt, div-add-mod', lt_of_lt_of_le, pow-le-pow_right, le-max_right, eq-zero-or-pos}
use native.Mathlib.Omega.{arith}
use lib.Dec.{ltb}
use borrow.Author.Tests.{lt-ltb, le-ltb}
use Rattle.format.specs.Lines.{digit_text, tag_text}
use Rattle.list_words.specs.Numerals.{digit_count, numeral}
use Rattle.format.proofs.Grouping.{is_true, is_false}
use Rattle.list_words.proofs.Digits.{below_or_not, last_digits, quotient_below}
use Rattle.list_words.proofs.Words.{tag_is}
use Rattle.list_words.proofs.Numerals.{count_holds, numeral_last}

-- the digit that a character stands for
digit_of : ℕ → ℕ
digit_of c = elim (ltb c 0x40) [ true ↦ c - 0x30 | false ↦ c - 0x37 ]

-- the number that characters stand for in base b, after those that stand for a
read_from : ℕ → ℕ → List ℕ → ℕ
read_from b a [] = a
read_from b a (c ∷ cs) = read_from b (a * b + digit_of c) cs

-- a digit's character stands for it
digit_back : (d : ℕ) → d < 16 → digit_of (digit_text d) ≡ d
unfolding digit_of
digit_back d h =
    ⊎_elim
    (λ (l : d < 10).
    ap digit_of (is_true (ltb d 10) (0x30 + d) (0x37 + d) (lt-ltb d 10 l))
    ∙ is_true (ltb (0x30 + d) 0x40) (0x30 + d - 0x30) (0x30 + d - 0x37) (lt-ltb (0x30 + d) 0x40 (omega arith))
    ∙ omega arith)
    (λ (l : 10 ≤ d).
    ap digit_of (is_false (ltb d 10) (0x30 + d) (0x37 + d) (le-ltb d 10 l))
    ∙ is_false (ltb (0x37 + d) 0x40) (0x37 + d - 0x30) (0x37 + d - 0x37) (le-ltb (0x37 + d) 0x40 (omega arith))
    ∙ omega arith)
    (below_or_not d 10)

-- one text after another
from_append : (b a : ℕ) (xs ys : List ℕ) → read_from b a (xs ++ ys) ≡ read_from b (read_from b a xs) ys
unfolding read_from
from_append b a [] ys = refl
from_append b a (x ∷ xs) ys = from_append b (a * b + digit_of x) xs ys

-- the last w digits of a number that has no more, in a base that has characters
last_back : (b : ℕ) → 2 ≤ b → b ≤ 16 → (w n : ℕ) → n < b ^ w → read_from b 0 (map digit_text (last_digits w b n)) ≡ n
unfolding read_from last_digits
last_back b two most zero n h = let z : n < 1 = rw pow-zero at h in omega arith
last_back b two most (suc w) n h =
    let ds = last_digits w b (n / b) in
    let r : n % b < b = mod-lt n (omega arith) in
    let i : read_from b 0 (map digit_text ds) ≡ n / b = last_back b two most w (n / b) (quotient_below b n w two h) in
    ap (read_from b 0) (map-append digit_text ds (n % b ∷ []))
    ∙ from_append b 0 (map digit_text ds) (digit_text (n % b) ∷ [])
    ∙ ap (λ (x : ℕ). x * b + digit_of (digit_text (n % b))) i
    ∙ ap (λ (x : ℕ). n / b * b + x) (digit_back (n % b) (omega arith))
    ∙ div-add-mod' n b

-- a number, however large, is read back from its text
numeral_back : (b w n : ℕ) → 2 ≤ b → b ≤ 16 → read_from b 0 (numeral b w n) ≡ n
numeral_back b w n two most =
    let k = digit_count b n in
    ap (read_from b 0) (numeral_last b w n two)
    ∙ last_back b two most (max w k) n
    (lt_of_lt_of_le (count_holds b n two) (pow-le-pow_right (omega arith) (le-max_right w k)))

-- and so is a tag: - stands for 0
tag_back : (g : ℕ) → read_from 16 0 (tag_text g) ≡ g
unfolding read_from digit_of
tag_back g =
    ⊎_elim (λ (z : g ≡ 0). ap (λ (x : ℕ). read_from 16 0 (tag_text x)) z ∙ sym z)
    (λ (z : 0 < g).
    ap (read_from 16 0) (tag_is g (λ e. omega arith)) ∙ numeral_back 16 4 g (omega arith) (omega arith))
    (eq-zero-or-pos g)

-- two numbers with the same text are the same
pub numeral_same : (b w n m : ℕ) → 2 ≤ b → b ≤ 16 → numeral b w n ≡ numeral b w m → n ≡ m
numeral_same b w n m two most e =
    sym (numeral_back b w n two most) ∙ ap (read_from b 0) e ∙ numeral_back b w m two most

pub tag_same : (g h : ℕ) → tag_text g ≡ tag_text h → g ≡ h
tag_same g h e = sym (tag_back g) ∙ ap (read_from 16 0) e ∙ tag_back h
