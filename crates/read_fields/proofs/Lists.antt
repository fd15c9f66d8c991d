-- The bytes at a place one by one, and the number of a list of bytes as a sum over its places. Assumes nothing.
use mathlib.Core.Path.{◌≡◌, refl, sym, ap, ◌∙◌}
use mathlib.Core.List.{List, [], ◌∷◌, ◌++◌}
use Prim.Native.Nat.{ℕ, zero, suc, ◌+◌, ◌-◌, ◌*◌, ◌^◌, ◌<◌, ◌≤◌}
use native.Mathlib.Nat.{add-zero, mul-one, suc-mul, mul_assoc, add-mul, mul-le-mul_right, pow-succ', le_refl, le_trans, add-sub_cancel_left}
use native.Mathlib.Numerals.{add-one}
use native.Mathlib.Omega.{arith}
use lib.ListN.{length, get_or, take, drop, length-drop}
use lib.Seq.{drop-cons, length-take-le, take-add, take-take, drop-drop, drop_at, get_or-take, get_or-drop, take_all}
use lib.Dec.{eqb}
use lib.Bits.{bit_or, or_zero_l, or_add_and, and_le_r}
use mathlib.Core.Bool.{Bool, true, false, ◌&&◌, and-true, and_assoc}
use mathlib.Core.Logic.{◌⊎◌, inl, inr}
use borrow.Author.Tests.{ne_eqb}
use Rattle.std.specs.List.{fold}
use Rattle.format.specs.Bytes.{Bytes, number_from, number, bytes_at, all_zero}

-- a test passes or does not
pub yes_or_no : (t : Bool) → (t ≡ true) ⊎ (t ≡ false)
yes_or_no true = inl refl
yes_or_no false = inr refl

-- ---- bytes one by one

-- the byte at p, and those after it
pub bytes_next : (s : List ℕ) (p e : ℕ) → p < e → e ≤ length s
    → bytes_at s p (e - p) ≡ get_or s p 0 ∷ bytes_at s (p + 1) (e - (p + 1))
unfolding bytes_at
bytes_next s p e h l =
    let n : e - p ≡ suc (e - (p + 1)) = omega arith in
    let d : drop p s ≡ get_or s p 0 ∷ drop (suc p) s = drop-cons s p 0 (omega arith) in
    rw (n, d, add-one)

-- all of them, from the start
pub bytes_start : (s : List ℕ) (i n : ℕ) → bytes_at s i ((i + n) - i) ≡ bytes_at s i n
bytes_start s i n = ap (λ (m : ℕ). bytes_at s i m) (add-sub_cancel_left i n)

-- all the bytes of a list
pub bytes_all : (s : List ℕ) → bytes_at s 0 (length s) ≡ s
unfolding bytes_at
bytes_all s = take_all (length s) s (omega arith)

-- how many there are
pub bytes_length : (s : List ℕ) (i n : ℕ) → i + n ≤ length s → length (bytes_at s i n) ≡ n
unfolding bytes_at
bytes_length s i n h = length-take-le n (drop i s) (rw length-drop (omega arith))

-- the first n of them, and the m after those
bytes_join : (s : List ℕ) (i n m : ℕ) → bytes_at s i (n + m) ≡ bytes_at s i n ++ bytes_at s (i + n) m
unfolding bytes_at
bytes_join s i n m = take-add n m (drop i s) ∙ ap (λ (l : List ℕ). take n (drop i s) ++ take m l) (drop-drop n i s)

-- those after the first k, and the first k alone
pub bytes_drop : (s : List ℕ) (i n k : ℕ) → i + n ≤ length s → k ≤ n
    → drop k (bytes_at s i n) ≡ bytes_at s (i + k) (n - k)
bytes_drop s i n k h l =
    let e : n ≡ k + (n - k) = omega arith in
    ap (λ (m : ℕ). drop k (bytes_at s i m)) e ∙ ap (drop k) (bytes_join s i k (n - k))
    ∙ drop_at (bytes_at s i k) (bytes_at s (i + k) (n - k)) k (bytes_length s i k (omega arith))

pub bytes_take : (s : List ℕ) (i n k : ℕ) → k ≤ n → take k (bytes_at s i n) ≡ bytes_at s i k
unfolding bytes_at
bytes_take s i n k l = take-take k n (drop i s) l

-- the k-th of them
pub bytes_get : (s : List ℕ) (i n k : ℕ) → k < n → get_or (bytes_at s i n) k 0 ≡ get_or s (i + k) 0
unfolding bytes_at
bytes_get s i n k l = get_or-take n (drop i s) k 0 l ∙ get_or-drop i s k 0

-- ---- all 0

-- bits that are gathered are 0 exactly when all of them are
bits_zero : (a b : ℕ) → eqb (bit_or a b) 0 ≡ (eqb a 0 && eqb b 0)
bits_zero zero b = ap (λ (x : ℕ). eqb x 0) (or_zero_l b)
bits_zero (suc a) b =
    let h : 0 < bit_or (suc a) b = omega (arith, or_add_and (suc a) b, and_le_r (suc a) b) in
    ne_eqb (bit_or (suc a) b) 0 (λ e. omega arith)
    ∙ sym (ap (λ (x : Bool). x && eqb b 0) (ne_eqb (suc a) 0 (λ e. omega arith)))

-- one more byte is gathered
zero_next : (a b : ℕ) (bs : List ℕ) → (eqb (bit_or a b) 0 && all_zero bs) ≡ (eqb a 0 && all_zero (b ∷ bs))
unfolding all_zero
zero_next a b bs = rw bits_zero (and_assoc (eqb a 0) (eqb b 0) (all_zero bs))

-- the bits of all bytes are gathered, on those of a
pub zero_gathered : (bs : List ℕ) (a : ℕ) → eqb (fold bit_or a bs) 0 ≡ (eqb a 0 && all_zero bs)
unfolding all_zero
zero_gathered [] a = sym (and-true (eqb a 0))
zero_gathered (b ∷ bs) a = zero_gathered bs (bit_or a b) ∙ zero_next a b bs

-- ---- the number of a list

-- what stands before weighs 256 for each byte after it
from_weight : (bs : List ℕ) (a : ℕ) → number_from a bs ≡ a * 256 ^ length bs + number_from 0 bs
from_weight [] a = sym (ap (λ (x : ℕ). x + 0) (mul-one a) ∙ add-zero a)
from_weight (b ∷ bs) a =
    let w = 256 ^ length bs in
    let m : (a * 256 + b) * w ≡ a * (256 * w) + b * w = add-mul (a * 256) b w
    ∙ ap (λ (x : ℕ). x + b * w) (mul_assoc a 256 w) in
    let p : 256 ^ suc (length bs) ≡ 256 * w = pow-succ' 256 (length bs) in
    let q : a * 256 ^ suc (length bs) ≡ a * (256 * w) = ap (λ (x : ℕ). a * x) p in
    let z : 0 * 256 + b ≡ b = omega arith in
    let r : number_from (0 * 256 + b) bs ≡ b * w + number_from 0 bs = from_weight bs (0 * 256 + b) ∙ rw z in
    omega (arith, from_weight bs (a * 256 + b))

-- one list after another
from_append : (xs ys : List ℕ) (a : ℕ) → number_from a (xs ++ ys) ≡ number_from (number_from a xs) ys
from_append [] ys a = refl
from_append (x ∷ xs) ys a = from_append xs ys (a * 256 + x)

number_append : (xs ys : List ℕ) → number (xs ++ ys) ≡ number xs * 256 ^ length ys + number ys
unfolding number
number_append xs ys = from_append xs ys 0 ∙ from_weight ys (number_from 0 xs)

-- the first byte, and the rest
pub number_first : (b : ℕ) (bs : List ℕ) → number (b ∷ bs) ≡ b * 256 ^ length bs + number bs
unfolding number
number_first b bs =
    let z : 0 * 256 + b ≡ b = omega arith in
    ap (λ (x : ℕ). number_from x bs) z ∙ from_weight bs b

-- n bytes make less than 256 to the n
pub number_below : (bs : List ℕ) → Bytes bs → number bs < 256 ^ length bs
unfolding number
number_below [] h = omega arith
number_below (b ∷ bs) h =
    let w = 256 ^ length bs in
    let m : suc b * w ≤ 256 * w = mul-le-mul_right w h.0 in
    omega (arith, m, number_first b bs, number_below bs h.1, suc-mul b w, pow-succ' 256 (length bs))

-- n bytes at a place, and m after them
pub number_join : (s : List ℕ) (i n m : ℕ) → i + n + m ≤ length s
    → number (bytes_at s i (n + m)) ≡ number (bytes_at s i n) * 256 ^ m + number (bytes_at s (i + n) m)
number_join s i n m h =
    rw (bytes_join s i n m, number_append (bytes_at s i n) (bytes_at s (i + n) m), bytes_length s (i + n) m h)

-- bytes are all 0 exactly when their number is
from_above : (bs : List ℕ) (a : ℕ) → a ≤ number_from a bs
from_above [] a = le_refl a
from_above (b ∷ bs) a = le_trans (omega arith) (from_above bs (a * 256 + b))

pub zero_number : (bs : List ℕ) → all_zero bs ≡ eqb (number bs) 0
unfolding all_zero number
zero_number [] = refl
zero_number (zero ∷ bs) = zero_number bs
zero_number (suc b ∷ bs) =
    let h : 0 * 256 + suc b ≤ number_from (0 * 256 + suc b) bs = from_above bs (0 * 256 + suc b) in
    ap (λ (x : Bool). x && all_zero bs) (ne_eqb (suc b) 0 (λ e. omega arith))
    ∙ sym (ne_eqb (number_from (0 * 256 + suc b) bs) 0 (λ e. omega arith))
