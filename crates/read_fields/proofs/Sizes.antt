-- The size of the number of many bytes: its significant bits by the first byte, its parity by the last. Assumes nothing.
use mathlib.Core.Path.{◌≡◌, refl, sym, ap, ◌∙◌}
use mathlib.Core.Bool.{Bool, true, ◌&&◌}
use mathlib.Core.List.{List, [], ◌∷◌}
use mathlib.Core.Logic.{⊎_elim}
use Prim.Native.Nat.{ℕ, zero, suc, ◌+◌, ◌-◌, ◌*◌, ◌/◌, ◌%◌, ◌^◌, ◌<◌, ◌≤◌}
use native.Mathlib.Nat.{div-add-mod', mod-lt, div-eq_of_lt-le, add-mul, pow-suc, one-mul, two-pow-succ}
use native.Mathlib.Omega.{arith}
use lib.Arith.{digits_div}
use lib.Dec.{eqb, leb, ltb}
use lib.ListN.{length, get_or, drop}
use lib.Pow.{pow_pos, pow-add, shr-shr}
use borrow.Author.Tests.{eqb-true, eqb-false, le-leb, leb-true, lt-ltb, ltb-true}
use Rattle.format.specs.Bytes.{Bytes, number, bytes_at}
use Rattle.format.specs.Forms.{odd, significant_bits, modulus_form}
use Rattle.format.proofs.Finding.{and_split}
use Rattle.format.proofs.Numbers.{bytes_take, bytes_drop}
use Rattle.read_fields.proofs.Lists.{yes_or_no, bytes_all, number_first, number_below}
use Rattle.read_fields.proofs.Numbers.{number_more}

-- ---- every byte is below 256

pub bytes_of : (s : List ℕ) → ((k : ℕ) → get_or s k 0 < 256) → Bytes s
bytes_of [] h = tt
bytes_of (b ∷ s) h = (h 0, bytes_of s (λ k. h (suc k)))

pub bytes_small : (s : List ℕ) → ((k : ℕ) → get_or s k 0 < 256) → (i n : ℕ) → Bytes (bytes_at s i n)
unfolding bytes_at
bytes_small s h i n = bytes_take n (drop i s) (bytes_drop i s (bytes_of s h))

-- ---- the last byte

-- the number is odd exactly when its last byte is
pub odd_last : (s : List ℕ) → 1 ≤ length s → odd (number s) ≡ eqb (get_or s (length s - 1) 0 % 2) 1
odd_last s h =
    let m = length s - 1 in
    let a : suc m ≡ length s = omega arith in
    let z : 0 + m ≡ m = omega arith in
    let c : number s ≡ number (bytes_at s 0 m) * 256 + get_or s m 0 =
    ap number (sym (bytes_all s)) ∙ ap (λ (k : ℕ). number (bytes_at s 0 k)) (sym a) ∙ number_more s 0 m (omega arith)
    ∙ ap (λ (k : ℕ). number (bytes_at s 0 m) * 256 + get_or s k 0) z in
    let d : number s % 2 ≡ get_or s m 0 % 2 = omega arith in
    ap (λ (k : ℕ). eqb k 1) d

-- ---- the first byte

-- from m to its double: the quotient is 1
doubled : (m v : ℕ) → 0 < m → (leb m v && ltb v (m + m)) ≡ eqb (v / m) 1
doubled m v h =
    let e : v / m * m + v % m ≡ v = div-add-mod' v m in
    let l : v % m < m = mod-lt v h in
    ⊎_elim
    (λ t.
    let q : v / m * m ≡ m = ap (λ (k : ℕ). k * m) (eqb-true (v / m) 1 t) ∙ one-mul m in
    rw (le-leb m v (omega arith)) (lt-ltb v (m + m) (omega arith)) ∙ sym t)
    (λ t.
    ⊎_elim
    (λ a. ap (λ (x : Bool). x && ltb v (m + m)) a
    ∙ ⊎_elim
    (λ b.
    let q : v / m ≡ 1 = div-eq_of_lt-le m (omega (arith, leb-true m v a, one-mul m))
    (omega (arith, ltb-true v (m + m) b, add-mul 1 1 m, one-mul m)) in
    absurd (eqb-false (v / m) 1 t q))
    (λ b. b ∙ sym t)
    (yes_or_no (ltb v (m + m))))
    (λ a. ap (λ (x : Bool). x && ltb v (m + m)) a ∙ sym t)
    (yes_or_no (leb m v)))
    (yes_or_no (eqb (v / m) 1))

-- a byte is eight bits
bytes_bits : (m : ℕ) → 256 ^ m ≡ 2 ^ (8 * m)
bytes_bits zero = refl
bytes_bits (suc m) =
    let e : 8 * suc m ≡ 8 * m + 8 = omega arith in
    pow-suc 256 m ∙ ap (λ (x : ℕ). x * 256) (bytes_bits m) ∙ sym (ap (λ (x : ℕ). 2 ^ x) e ∙ pow-add 2 (8 * m) 8)

-- without the bytes after the first, the number is the first byte
first_byte : (s : List ℕ) → Bytes s → 1 ≤ length s → number s / 2 ^ (8 * (length s - 1)) ≡ get_or s 0 0
first_byte [] b h = absurd (omega arith)
first_byte (x ∷ rest) b h =
    let e : length rest ≡ suc (length rest) - 1 = omega arith in
    let w : 256 ^ length rest ≡ 2 ^ (8 * (suc (length rest) - 1)) = bytes_bits (length rest) ∙ ap (λ (k : ℕ). 2 ^ (8 * k)) e in
    ap (λ (k : ℕ). k / 2 ^ (8 * (suc (length rest) - 1))) (number_first x rest)
    ∙ ap (λ (k : ℕ). (x * 256 ^ length rest + number rest) / k) (sym w)
    ∙ digits_div x (number_below rest b.1)

-- the bits of the first byte tell how many bits are significant
bits_first : (s : List ℕ) → Bytes s → (bits : ℕ) → 1 ≤ bits → length s ≡ (bits + 7) / 8
    → significant_bits bits (number s) ≡ eqb (get_or s 0 0 / 2 ^ ((bits - 1) % 8)) 1
bits_first s small bits h e =
    let v = number s in
    let n = length s in
    let k = (bits - 1) % 8 in
    let a : 8 * (n - 1) + k ≡ bits - 1 = omega arith in
    let b : suc (bits - 1) ≡ bits = omega arith in
    let p : 2 ^ bits ≡ 2 ^ (bits - 1) + 2 ^ (bits - 1) = ap (λ (x : ℕ). 2 ^ x) (sym b) ∙ two-pow-succ (bits - 1) in
    let q : v / 2 ^ (bits - 1) ≡ get_or s 0 0 / 2 ^ k
    = ap (λ (x : ℕ). v / 2 ^ x) (sym a) ∙ sym (shr-shr v (8 * (n - 1)) k)
    ∙ ap (λ (x : ℕ). x / 2 ^ k) (first_byte s small (omega arith)) in
    ap (λ (x : ℕ). leb (2 ^ (bits - 1)) v && ltb v x) p ∙ doubled (2 ^ (bits - 1)) v (pow_pos (bits - 1))
    ∙ ap (λ (x : ℕ). eqb x 1) q

-- the modulus, by its first and its last byte
module _ (s : List ℕ) (small : Bytes s) (bits : ℕ) (h : 1 ≤ bits) (e : length s ≡ (bits + 7) / 8) where
  pub modulus_ends : modulus_form bits s ≡ (eqb (get_or s 0 0 / 2 ^ ((bits - 1) % 8)) 1 && eqb (get_or s (length s - 1) 0 % 2) 1)
  unfolding modulus_form
  modulus_ends =
      ap (λ (x : Bool). x && odd (number s)) (bits_first s small bits h e)
      ∙ ap (λ (x : Bool). eqb (get_or s 0 0 / 2 ^ ((bits - 1) % 8)) 1 && x) (odd_last s (omega arith))

  -- its first byte is not 0
  pub modulus_first : modulus_form bits s ≡ true → 1 ≤ get_or s 0 0
  modulus_first t =
      let v = get_or s 0 0 in
      let m = 2 ^ ((bits - 1) % 8) in
      let one = eqb-true (v / m) 1 (and_split (eqb (v / m) 1) (eqb (get_or s (length s - 1) 0 % 2) 1) (sym modulus_ends ∙ t)).0 in
      let q : v / m * m ≡ m = ap (λ (k : ℕ). k * m) one ∙ one-mul m in
      omega (arith, div-add-mod' v m, q, pow_pos ((bits - 1) % 8))
