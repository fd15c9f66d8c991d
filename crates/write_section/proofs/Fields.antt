-- The tests of lent fields' lengths: a field that fits leaves it to those after it, one that does not refuses for all.
-- Assumes nothing.
use mathlib.Core.Path.{◌≡◌, refl, ap, ◌∙◌}
use mathlib.Core.Bool.{Bool, true, false, ◌&&◌, and-false}
use Prim.Native.Nat.{ℕ, ◌+◌, ◌≤◌, ◌<◌}
use native.Mathlib.Omega.{arith}
use lib.Dec.{eqb, ltb}
use borrow.Author.Tests.{eq-eqb, ne_eqb, lt-ltb, le-ltb}
use Rattle.read_sections.proofs.Laws.{both_yes, first_not}

-- ---- a field of a fixed length

pub fixed_fits : (n w : ℕ) {b : Bool} → n ≡ w → b ≡ true → (eqb n w && b) ≡ true
fixed_fits n w h e = both_yes (eq-eqb n w h) e

pub fixed_unfit : (n w : ℕ) (b : Bool) → (n ≡ w → ⊥) → (eqb n w && b) ≡ false
fixed_unfit n w b h = first_not b (ne_eqb n w h)

-- ---- a length that a count states, m being the last number that it can

pub count_fits : (n m : ℕ) {b : Bool} → n ≤ m → b ≡ true → (ltb n (m + 1) && b) ≡ true
count_fits n m h e = both_yes (lt-ltb n (m + 1) (omega arith)) e

pub count_unfit : (n m : ℕ) (b : Bool) → m < n → (ltb n (m + 1) && b) ≡ false
count_unfit n m b h = first_not b (le-ltb n (m + 1) (omega arith))

-- the count, and its field directly after it
pub counted_fits : (n m : ℕ) {b : Bool} → n ≤ m → b ≡ true → (ltb n (m + 1) && (eqb n n && b)) ≡ true
counted_fits n m h e = count_fits n m h (fixed_fits n n refl e)

-- ---- a field after another

pub later_unfit : (a : Bool) {b : Bool} → b ≡ false → (a && b) ≡ false
later_unfit a e = ap (λ (x : Bool). a && x) e ∙ and-false a
