-- Texts put one after another. Assumes nothing.
use mathlib.Core.Path.{◌≡◌, ap, ap₂, ◌∙◌}
use mathlib.Core.List.{List, [], ◌∷◌, ◌++◌, append_assoc}
use Prim.Native.Nat.{ℕ, ◌/◌, ◌%◌}
use native.Mathlib.Omega.{arith}
use Rattle.std.specs.Int.{w32, to_be_bytes}
use Rattle.format.specs.Bytes.{big_endian}

-- a text, and those after it
pub put_then : {new last : List ℕ} (old xs ys : List ℕ) → new ≡ old ++ xs → last ≡ new ++ ys → last ≡ old ++ (xs ++ ys)
put_then {new} {last} old xs ys f g = g ∙ ap (λ (l : List ℕ). l ++ ys) f ∙ append_assoc old xs ys

-- a number in four bytes
pub four_bytes : (n : ℕ) → to_be_bytes w32 n ≡ big_endian 4 n
four_bytes n =
    let e : n / 16777216 ≡ n / 256 / 256 / 256 = omega arith in
    let f : n / 65536 ≡ n / 256 / 256 = omega arith in
    ap₂ (λ (x y : ℕ). x % 256 ∷ y % 256 ∷ n / 256 % 256 ∷ n % 256 ∷ []) e f
