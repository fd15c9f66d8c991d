-- The number in n bytes at a place, byte by byte. Assumes nothing.
use mathlib.Core.Path.{◌≡◌, refl, ap, ◌∙◌}
use mathlib.Core.List.{List, [], ◌∷◌, ◌++◌}
use Prim.Native.Nat.{ℕ, suc, ◌+◌, ◌*◌, ◌<◌, ◌≤◌}
use native.Mathlib.Nat.{add-zero}
use native.Mathlib.Omega.{arith}
use lib.ListN.{length, get_or, take, drop, length-drop}
use lib.Seq.{take-suc, get_or-drop}
use Rattle.format.specs.Bytes.{number_from, number, bytes_at}
use Rattle.read_fields.proofs.Lists.{number_join}

-- one more byte at the end
from_last : (bs : List ℕ) (a b : ℕ) → number_from a (bs ++ b ∷ []) ≡ number_from a bs * 256 + b
from_last [] a b = refl
from_last (x ∷ bs) a b = from_last bs (a * 256 + x) b

-- the number in no bytes is 0
pub number_none : (s : List ℕ) (i : ℕ) → number (bytes_at s i 0) ≡ 0
unfolding number bytes_at
number_none s i = refl

-- the number in one more byte
pub number_more : (s : List ℕ) (i n : ℕ) → i + n < length s
    → number (bytes_at s i (suc n)) ≡ number (bytes_at s i n) * 256 + get_or s (i + n) 0
unfolding number bytes_at
number_more s i n h =
    let l : n < length (drop i s) = simp length-drop (omega arith) in
    ap (number_from 0) (take-suc (drop i s) n 0 l)
    ∙ from_last (take n (drop i s)) 0 (get_or (drop i s) n 0)
    ∙ ap (λ (x : ℕ). number_from 0 (take n (drop i s)) * 256 + x) (get_or-drop i s n 0)

-- two bytes
pub number_two : (s : List ℕ) (i : ℕ) → i + 2 ≤ length s
    → number (bytes_at s i 2) ≡ get_or s i 0 * 256 + get_or s (i + 1) 0
number_two s i h =
    let h₀ : i + 0 < length s = omega arith in
    let h₁ : i + 1 < length s = omega arith in
    let e : get_or s (i + 0) 0 ≡ get_or s i 0 = ap (λ (j : ℕ). get_or s j 0) (add-zero i) in
    let one : number (bytes_at s i 1) ≡ get_or s i 0 = omega (arith, number_more s i 0 h₀, number_none s i, e) in
    number_more s i 1 h₁ ∙ ap (λ (x : ℕ). x * 256 + get_or s (i + 1) 0) one

-- four bytes
pub number_four : (s : List ℕ) (i : ℕ) → i + 4 ≤ length s
    → number (bytes_at s i 4) ≡ ((get_or s i 0 * 256 + get_or s (i + 1) 0) * 256 + get_or s (i + 2) 0) * 256 + get_or s
    (i + 3) 0
number_four s i h =
    let h₂ : i + 2 < length s = omega arith in
    let h₃ : i + 3 < length s = omega arith in
    let l : i + 2 ≤ length s = omega arith in
    number_more s i 3 h₃
    ∙ ap (λ (x : ℕ). x * 256 + get_or s (i + 3) 0)
    (number_more s i 2 h₂ ∙ ap (λ (x : ℕ). x * 256 + get_or s (i + 2) 0) (number_two s i l))

-- eight bytes, as two runs of four
pub number_eight : (s : List ℕ) (i : ℕ) → i + 8 ≤ length s
    → number (bytes_at s i 8) ≡ number (bytes_at s i 4) * 4294967296 + number (bytes_at s (i + 4) 4)
number_eight s i h = number_join s i 4 4 (omega arith)
