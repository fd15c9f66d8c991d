-- The order of two numbers of many bytes, by the first bytes that differ. Assumes nothing.
use mathlib.Core.Path.{◌≡◌, refl, sym, ap, ◌∙◌}
use mathlib.Core.Bool.{true, false}
use mathlib.Core.List.{List, [], ◌∷◌}
use mathlib.Core.Logic.{⊎_elim, inl, inr}
use Prim.Native.Nat.{ℕ, suc, ◌+◌, ◌-◌, ◌*◌, ◌^◌, ◌<◌, ◌≤◌}
use native.Mathlib.Nat.{suc-mul, one-mul, zero-mul, mul-le-mul_right, le_of_lt, pos_of_ne-zero}
use native.Mathlib.Omega.{arith}
use lib.Dec.{eqb, ltb}
use lib.ListN.{length, drop, length-drop}
use lib.Seq.{take_all}
use borrow.Author.Tests.{lt-ltb, le-ltb, ltb-true, ltb-false, eqb-true, eqb-false}
use Rattle.std.specs.Cmp.Lexicographic.{slice_cmp}
use Rattle.std.specs.Ordering.{is_lt, nat_cmp}
use Rattle.format.specs.Bytes.{Bytes, number, bytes_at, all_zero}
use Rattle.read_fields.proofs.Lists.{yes_or_no, bytes_all, number_first, number_below, number_join, zero_number}

-- ---- two lists of one length

-- the same in front of both changes no order
shift : (c a b : ℕ) → ltb (c + a) (c + b) ≡ ltb a b
shift c a b =
    ⊎_elim (λ t. lt-ltb (c + a) (c + b) (omega (arith, ltb-true a b t)) ∙ sym t)
    (λ t. le-ltb (c + a) (c + b) (omega (arith, ltb-false a b t)) ∙ sym t)
    (yes_or_no (ltb a b))

module _ (xs ys : List ℕ) (l : length xs ≡ length ys) where
  -- the first bytes differ
  first_less : (a b : ℕ) → Bytes xs → a < b → number (a ∷ xs) < number (b ∷ ys)
  first_less a b small h =
      let w = 256 ^ length xs in
      let m : suc a * w ≤ b * w = mul-le-mul_right w h in
      let z : number (b ∷ ys) ≡ b * w + number ys = number_first b ys
      ∙ ap (λ (k : ℕ). b * 256 ^ k + number ys) (sym l) in
      omega (arith, m, suc-mul a w, number_first a xs, number_below xs small)

  -- the first bytes are the same
  first_same : (a : ℕ) → ltb (number (a ∷ xs)) (number (a ∷ ys)) ≡ ltb (number xs) (number ys)
  first_same a =
      ap (λ (k : ℕ). ltb k (number (a ∷ ys))) (number_first a xs)
      ∙ ap (λ (k : ℕ). ltb (a * 256 ^ length xs + number xs) k)
      (number_first a ys ∙ ap (λ (k : ℕ). a * 256 ^ k + number ys) (sym l))
      ∙ shift (a * 256 ^ length xs) (number xs) (number ys)

-- byte by byte, the first that differ decide
pub slice_order : (xs ys : List ℕ) → length xs ≡ length ys → Bytes xs → Bytes ys
    → is_lt (slice_cmp nat_cmp xs ys) ≡ ltb (number xs) (number ys)
unfolding number
slice_order [] [] l s t = refl
slice_order [] (y ∷ ys) l s t = absurd (omega arith)
slice_order (x ∷ xs) [] l s t = absurd (omega arith)
slice_order (x ∷ xs) (y ∷ ys) l s t =
    let m : length xs ≡ length ys = omega arith in
    elim (yes_or_no (ltb x y)) [
      | inl less ↦ rw less (sym (lt-ltb _ _ (first_less xs ys m x y s.1 (ltb-true x y less))))
      | inr not_less ↦ elim (yes_or_no (eqb x y)) [
        | inl same ↦ rw (not_less, same) (slice_order xs ys m s.1 t.1 ∙ sym (first_same xs ys m x) ∙ ap (λ (k : ℕ). ltb (number (x ∷ xs)) (number (k ∷ ys))) (eqb-true x y same))
        | inr differ ↦
            let more : y < x = omega (arith, ltb-false x y not_less, eqb-false x y differ) in
            rw (not_less, differ) (sym (le-ltb _ _ (le_of_lt (first_less ys xs (sym m) y x t.1 more))))
      ]
    ]

-- ---- numbers of two lengths

-- the last m bytes of s, and those in front
module _ (s : List ℕ) (m : ℕ) (h : m ≤ length s) where
  parts : number s ≡ number (bytes_at s 0 (length s - m)) * 256 ^ m + number (drop (length s - m) s)
  unfolding bytes_at
  parts =
      let d = length s - m in
      let e : d + m ≡ length s = omega arith in
      let z : 0 + d ≡ d = omega arith in
      let l = length-drop d s in
      ap number (sym (bytes_all s)) ∙ ap (λ (k : ℕ). number (bytes_at s 0 k)) (sym e)
      ∙ number_join s 0 d m (omega arith)
      ∙ ap (λ (k : ℕ). number (bytes_at s 0 d) * 256 ^ m + number (bytes_at s k m)) z
      ∙ ap (λ (y : List ℕ). number (bytes_at s 0 d) * 256 ^ m + number y) (take_all m (drop d s) (omega arith))

  -- zeros in front change no number
  pub front_zero : all_zero (bytes_at s 0 (length s - m)) ≡ true → number s ≡ number (drop (length s - m) s)
  front_zero t =
      let v = number (bytes_at s 0 (length s - m)) in
      let z : v ≡ 0 = eqb-true v 0 (sym (zero_number (bytes_at s 0 (length s - m))) ∙ t) in
      let q : v * 256 ^ m ≡ 0 = ap (λ (k : ℕ). k * 256 ^ m) z ∙ zero-mul (256 ^ m) in
      omega (arith, parts)

  -- anything else in front makes it more than m bytes can hold
  pub front_some : all_zero (bytes_at s 0 (length s - m)) ≡ false → 256 ^ m ≤ number s
  front_some t =
      let v = number (bytes_at s 0 (length s - m)) in
      let z : 0 < v = pos_of_ne-zero (eqb-false v 0 (sym (zero_number (bytes_at s 0 (length s - m))) ∙ t)) in
      let q : 1 * 256 ^ m ≤ v * 256 ^ m = mul-le-mul_right (256 ^ m) z in
      omega (arith, parts, one-mul (256 ^ m))
