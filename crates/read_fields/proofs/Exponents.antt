-- The exponent against the modulus: odd by its last byte, less by what stands in front and then byte by byte. Assumes nothing.
use mathlib.Core.Path.{◌≡◌, sym, ap, ◌∙◌}
use mathlib.Core.Bool.{Bool, true, false, ◌&&◌}
use mathlib.Core.List.{List, [], ◌∷◌}
use Prim.Native.Nat.{ℕ, zero, suc, ◌-◌, ◌%◌, ◌<◌, ◌≤◌}
use native.Mathlib.Omega.{arith}
use lib.Dec.{eqb, ltb}
use lib.ListN.{length, get_or, drop}
use borrow.Author.Tests.{eq-eqb, ne_eqb, lt-ltb, le-ltb}
use Rattle.format.specs.Bytes.{Bytes, number, bytes_at, all_zero}
use Rattle.format.specs.Forms.{exponent_form}
use Rattle.read_fields.proofs.Lists.{number_below}
use Rattle.read_fields.proofs.Order.{front_zero, front_some}
use Rattle.read_fields.proofs.Sizes.{odd_last}

-- Bytes that begin with no 0 are not all 0.
first_some : (s : List ℕ) (d : ℕ) → 1 ≤ d → 1 ≤ get_or s 0 0 → all_zero (bytes_at s 0 d) ≡ false
unfolding all_zero bytes_at
first_some [] d h k = absurd (omega arith)
first_some (x ∷ s) zero h k = absurd (omega arith)
first_some (x ∷ s) (suc d) h k = rw (ne_eqb x 0 (λ e. omega arith))

module _ (e m : List ℕ) (some : 1 ≤ length e) where
  exponent_odd : exponent_form e m ≡ (eqb (get_or e (length e - 1) 0 % 2) 1 && ltb (number e) (number m))
  unfolding exponent_form
  exponent_odd = ap (λ (t : Bool). t && ltb (number e) (number m)) (odd_last e some)

  -- the exponent is even
  pub exponent_even : (get_or e (length e - 1) 0 % 2 ≡ 1 → ⊥) → exponent_form e m ≡ false
  exponent_even h = exponent_odd ∙ rw (ne_eqb (get_or e (length e - 1) 0 % 2) 1 h)

  module _ (odd : get_or e (length e - 1) 0 % 2 ≡ 1) where
    order_left : exponent_form e m ≡ ltb (number e) (number m)
    order_left = exponent_odd ∙ rw (eq-eqb (get_or e (length e - 1) 0 % 2) 1 odd)

    -- the exponent is as long or longer, and has zeros in front
    pub exponent_zeros : {r : Bool} → length m ≤ length e → all_zero (bytes_at e 0 (length e - length m)) ≡ true
        → r ≡ ltb (number (drop (length e - length m) e)) (number m) → r ≡ exponent_form e m
    exponent_zeros h t r = r ∙ sym (order_left ∙ ap (λ (v : ℕ). ltb v (number m)) (front_zero e (length m) h t))

    -- it has something else in front
    pub exponent_more : Bytes m → length m ≤ length e → all_zero (bytes_at e 0 (length e - length m)) ≡ false → exponent_form e m ≡ false
    exponent_more small h t =
        let f = front_some e (length m) h t in
        order_left ∙ le-ltb (number e) (number m) (omega (arith, number_below m small))

    -- the exponent is shorter, and the modulus begins with no 0
    pub exponent_shorter : Bytes e → length e < length m → 1 ≤ get_or m 0 0 → exponent_form e m ≡ true
    exponent_shorter small h first =
        let f = front_some m (length e) (omega arith) (first_some m (length m - length e) (omega arith) first) in
        order_left ∙ lt-ltb (number e) (number m) (omega (arith, number_below e small))
