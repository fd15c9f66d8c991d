-- The element of a list at a number, counted from 0: it is there below the length and nowhere else. Four elements stored
-- one after another.
use mathlib.Core.Path.{◌≡◌, refl, ap, ap₂, ◌∙◌}
use mathlib.Core.List.{List, [], ◌∷◌}
use mathlib.Core.Option.{none, some}
use Prim.Native.Nat.{ℕ, zero, suc, ◌+◌, ◌≤◌, ◌<◌}
use native.Mathlib.Omega.{arith}
use lib.ListN.{length, drop, set, get_elem?}
use lib.Seq.{sets}

-- Below the length there is an element, and after the earlier ones the list goes on with it.
pub there : {A : Type 0} (xs : List A) (k : ℕ) → k < length xs
    → (x : A) × (get_elem? xs k ≡ some x) × (drop k xs ≡ x ∷ drop (suc k) xs)
there [] k h = absurd (omega arith)
there (x ∷ xs) zero h = (x, refl, refl)
there (x ∷ xs) (suc k) h = there xs k (omega arith)

-- At the length and past it there is none.
pub nowhere : {A : Type 0} (xs : List A) (k : ℕ) → length xs ≤ k → get_elem? xs k ≡ none
nowhere [] k h = refl
nowhere (x ∷ xs) zero h = absurd (omega arith)
nowhere (x ∷ xs) (suc k) h = nowhere xs k (omega arith)

-- An element that is there stands below the length.
pub there_lt : {A : Type 0} (xs : List A) (k : ℕ) (x : A) → get_elem? xs k ≡ some x → k < length xs
there_lt [] k x e = absurd (let z : ◌≡◌ {A = ℕ} 0 1 = cc in omega arith)
there_lt (y ∷ xs) zero x e = omega arith
there_lt (y ∷ xs) (suc k) x e = let i = there_lt xs k x e in omega arith

-- What is there is told by its option.
pub some_inj : {A : Type 0} {a b : A} → some a ≡ some b → a ≡ b
some_inj e = cc

-- Four numbers stored one after another are stored as one list.
pub four_sets : (l : List ℕ) (at w x y z : ℕ)
    → set (set (set (set l at w) (at + 1) x) (at + 2) y) (at + 3) z ≡ sets l at (w ∷ x ∷ y ∷ z ∷ [])
four_sets l at w x y z =
    let k : at + 1 ≡ suc at = omega arith in
    let m : at + 2 ≡ suc (suc at) = omega arith in
    let o : at + 3 ≡ suc (suc (suc at)) = omega arith in
    ap₂ (λ (i j : ℕ). set (set (set (set l at w) i x) j y) (at + 3) z) k m
    ∙ ap (λ (j : ℕ). set (set (set (set l at w) (suc at) x) (suc (suc at)) y) j z) o
