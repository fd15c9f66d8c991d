-- Section 11: the rules on its fields as the code tests them, and the fields at their places.
use mathlib.Core.Path.{◌≡◌, sym, ap, ap₂, ◌∙◌}
use mathlib.Core.Bool.{Bool, true, false, ◌||◌}
use mathlib.Core.List.{List, [], ◌∷◌}
use mathlib.Core.Logic.{inl, inr, ⊎_elim}
use Prim.Native.Nat.{ℕ, ◌+◌, ◌-◌, ◌<◌, ◌≤◌}
use native.Mathlib.Omega.{arith}
use lib.Dec.{eqb, leb}
use lib.ListN.{length}
use borrow.Author.Tests.{eq-eqb, ne_eqb, le-leb, lt-leb}
use Rattle.format.specs.Bytes.{number, bytes_at}
use Rattle.format.specs.Forms.{between}
use Rattle.format.specs.Rules.{key_flags}
use types.Run.{OneOf}
use Rattle.read_fields.proofs.Lists.{bytes_length}
use Rattle.read_sections.proofs.Laws.{both_yes, first_not, second_not}

-- A number between two bounds, or not: x from 1 to 512, the bits from 512 to 4,096.
pub between_yes : (lo hi : ℕ) {n : ℕ} → lo ≤ n → n ≤ hi → between lo hi n ≡ true
between_yes lo hi a b = both_yes (le-leb lo _ a) (le-leb _ hi b)

pub between_low : (lo hi : ℕ) {n : ℕ} → n < lo → between lo hi n ≡ false
between_low lo hi {n} a = first_not (leb n hi) (lt-leb lo n a)

pub between_high : (lo hi : ℕ) {n : ℕ} → lo ≤ n → hi < n → between lo hi n ≡ false
between_high lo hi a b = second_not (le-leb lo _ a) (lt-leb _ hi b)

-- The flags are one of the three values, or none.
one_of_three : ℕ → Bool
one_of_three f = eqb f 0 || eqb f 0x80000000 || eqb f 0xC0000000

pub flag_yes : {n : ℕ} (f : List ℕ) → n ≡ number f → OneOf (0 ∷ 2147483648 ∷ 3221225472 ∷ []) n → key_flags f ≡ true
unfolding one_of_three
flag_yes {n} f q w = ap one_of_three (sym q) ∙ ⊎_elim (λ e. rw e) (λ v. ⊎_elim (λ e. rw e) (λ e. rw e) v) w

pub flag_not : {n : ℕ} (f : List ℕ) → n ≡ number f → (OneOf (0 ∷ 2147483648 ∷ 3221225472 ∷ []) n → ⊥) → key_flags f ≡ false
unfolding one_of_three
flag_not {n} f q out =
    ap one_of_three (sym q)
    ∙ rw (ne_eqb n 0 (λ e. out (inl e)), ne_eqb n 2147483648 (λ e. out (inr (inl e))), ne_eqb n 3221225472 (λ e. out (inr (inr e))))

-- ---- the fields at their places

module _ (s : List ℕ) (x y : ℕ) (ex : x ≡ number (bytes_at s 6 2)) (ey : y ≡ number (bytes_at s 10 2)) where
  abbrev X : ℕ
  X = number (bytes_at s 6 2)

  abbrev Y : ℕ
  Y = number (bytes_at s 10 2)

  pub exponent_at_is : bytes_at s 12 (12 + x - 12) ≡ bytes_at s 12 X
  exponent_at_is = let n : 12 + x - 12 ≡ X = omega (arith, ex) in ap (bytes_at s 12) n

  pub modulus_at_is : bytes_at s (12 + x) (12 + x + y - (12 + x)) ≡ bytes_at s (12 + X) Y
  modulus_at_is =
      let i : 12 + x ≡ 12 + X = omega (arith, ex) in
      let n : 12 + x + y - (12 + x) ≡ Y = omega (arith, ey) in
      ap₂ (bytes_at s) i n

  -- their lengths are those that are stated
  pub exponent_length_is : 12 + x ≤ length s → X ≡ length (bytes_at s 12 (12 + x - 12))
  exponent_length_is h = omega (arith, ex, bytes_length s 12 (12 + x - 12) (omega arith))

  pub modulus_length : 12 + x + y ≤ length s → Y ≡ length (bytes_at s (12 + x) (12 + x + y - (12 + x)))
  modulus_length h = omega (arith, ey, bytes_length s (12 + x) (12 + x + y - (12 + x)) (omega arith))

  pub flags_at_is : {f : ℕ} → f ≡ number (bytes_at s (12 + x + y) 4) → f ≡ number (bytes_at s (12 + X + Y) 4)
  flags_at_is q =
      let i : 12 + x + y ≡ 12 + X + Y = omega (arith, ex, ey) in
      q ∙ ap (λ (k : ℕ). number (bytes_at s k 4)) i

  -- x and y make the length, or do not.
  module _ (l : ℕ) (el : l ≡ number (bytes_at s 2 2)) where
    made : 12 + X + Y + 4 ≡ 16 + x + y
    made = omega (arith, ex, ey)

    pub made_yes : 16 + x + y ≡ l → eqb (12 + X + Y + 4) (number (bytes_at s 2 2)) ≡ true
    made_yes e = eq-eqb _ _ (made ∙ e ∙ el)

    pub made_not : (16 + x + y ≡ l → ⊥) → eqb (12 + X + Y + 4) (number (bytes_at s 2 2)) ≡ false
    made_not h = ne_eqb _ _ (λ e. h (sym made ∙ e ∙ sym el))
