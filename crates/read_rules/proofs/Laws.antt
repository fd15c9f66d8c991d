-- Laws of the fields of a rule in the shapes that the functions ask. Assumes nothing.
use mathlib.Core.Path.{◌≡◌, sym, ap, ◌∙◌}
use mathlib.Core.Bool.{Bool, true, ◌||◌}
use mathlib.Core.List.{List}
use Prim.Native.Nat.{ℕ, ◌≤◌}
use native.Mathlib.Nat.{pos_of_ne-zero}
use native.Mathlib.Omega.{arith}
use lib.Dec.{eqb}
use Rattle.format.specs.Bytes.{number}
use Rattle.format.specs.Forms.{key_length}
use Rattle.format.specs.Rules.{generated_length_allowed}

-- The generated length of a rule, by its flags.
module _ (f g : List ℕ) {v : ℕ} (e : v ≡ number f) where
  -- That of a generate rule is the length of a key.
  pub generated_key : {b : Bool} → v ≡ 0 → b ≡ key_length (number g) → b ≡ generated_length_allowed f g
  generated_key z h = h ∙ ap (λ (i : ℕ). eqb i 1 || key_length (number g)) (sym z ∙ e)

  -- That of an export rule is any byte.
  pub generated_any : v ≤ 1 → (v ≡ 0 → ⊥) → generated_length_allowed f g ≡ true
  generated_any h z =
      let pos = pos_of_ne-zero z in
      let one : number f ≡ 1 = omega (arith, e) in
      ap (λ (i : ℕ). eqb i 1 || key_length (number g)) one
