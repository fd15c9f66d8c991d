-- Another length in the bytes 2 and 3 of a part: what it leaves as it was. Assumes nothing.
use mathlib.Core.Path.{◌≡◌, refl, ap, ap₂, subst}
use mathlib.Core.List.{List, [], ◌∷◌, ◌++◌}
use Prim.Native.Nat.{ℕ, zero, suc, ◌+◌, ◌-◌, ◌/◌, ◌%◌, ◌≤◌, ◌<◌}
use native.Mathlib.Omega.{arith}
use lib.ListN.{length, take, drop, set}
use lib.Seq.{take-append-le, take-take}
use Rattle.format.specs.Bytes.{Bytes, number, bytes_at}
use Rattle.format.specs.Reading.{id_of, stated}
use Rattle.format.proofs.Changes.{restate}

-- What stands after the length,
behind : (j n : ℕ) (bs : List ℕ) → drop (suc (suc (suc (suc j)))) (restate 0 n bs) ≡ drop (suc (suc (suc (suc j)))) bs
behind j n [] = refl
behind j n (a ∷ []) = refl
behind j n (a ∷ b ∷ []) = refl
behind j n (a ∷ b ∷ c ∷ []) = refl
behind j n (a ∷ b ∷ c ∷ e ∷ bs) = refl

pub behind_restated : (k n : ℕ) (bs : List ℕ) → 4 ≤ k → drop k (restate 0 n bs) ≡ drop k bs
behind_restated k n bs h =
    let e : suc (suc (suc (suc (k - 4)))) ≡ k = omega arith in
    subst (λ (i : ℕ). drop i (restate 0 n bs) ≡ drop i bs) e (behind (k - 4) n bs)

-- and the id before it.
pub restate_id : (n : ℕ) (bs y : List ℕ) → 4 ≤ length bs → id_of (restate 0 n bs ++ y) ≡ id_of bs
unfolding number bytes_at
restate_id n [] y h = absurd (omega arith)
restate_id n (a ∷ []) y h = absurd (omega arith)
restate_id n (a ∷ b ∷ []) y h = absurd (omega arith)
restate_id n (a ∷ b ∷ c ∷ []) y h = absurd (omega arith)
restate_id n (a ∷ b ∷ c ∷ e ∷ bs) y h = refl

-- The new length is stated.
pub restate_stated : (n : ℕ) (bs y : List ℕ) → 4 ≤ length bs → n < 65536 → stated (restate 0 n bs ++ y) ≡ n
unfolding number bytes_at
restate_stated n [] y h k = absurd (omega arith)
restate_stated n (a ∷ []) y h k = absurd (omega arith)
restate_stated n (a ∷ b ∷ []) y h k = absurd (omega arith)
restate_stated n (a ∷ b ∷ c ∷ []) y h k = absurd (omega arith)
restate_stated n (a ∷ b ∷ c ∷ e ∷ bs) y h k = omega arith

-- Of two lengths stated one after the other the second holds.
pub restate_over : (m n : ℕ) (bs : List ℕ) → restate 0 n (restate 0 m bs) ≡ restate 0 n bs
restate_over m n [] = refl
restate_over m n (a ∷ []) = refl
restate_over m n (a ∷ b ∷ []) = refl
restate_over m n (a ∷ b ∷ c ∷ []) = refl
restate_over m n (a ∷ b ∷ c ∷ e ∷ bs) = refl

-- The old length put back gives the old bytes.
pub restate_back : (m n : ℕ) (bs : List ℕ) → Bytes bs → 4 ≤ length bs → stated bs ≡ n → restate 0 n (restate 0 m bs) ≡ bs
unfolding number bytes_at
restate_back m n [] b h q = absurd (omega arith)
restate_back m n (a ∷ []) b h q = absurd (omega arith)
restate_back m n (a ∷ c ∷ []) b h q = absurd (omega arith)
restate_back m n (a ∷ c ∷ e ∷ []) b h q = absurd (omega arith)
restate_back m n (a ∷ c ∷ e ∷ f ∷ bs) b h q =
    let l = b.1.1.0 in
    let k = b.1.1.1.0 in
    let high : n / 256 % 256 ≡ e = omega arith in
    let low : n % 256 ≡ f = omega arith in
    ap₂ (λ (x y : ℕ). a ∷ c ∷ x ∷ y ∷ bs) high low

-- Bytes stay bytes.
set_bytes : (i v : ℕ) (bs : List ℕ) → v < 256 → Bytes bs → Bytes (set bs i v)
set_bytes i v [] h b = tt
set_bytes zero v (x ∷ bs) h b = (h, b.1)
set_bytes (suc i) v (x ∷ bs) h b = (b.0, set_bytes i v bs h b.1)

pub restate_bytes : (o n : ℕ) (bs : List ℕ) → Bytes bs → Bytes (restate o n bs)
restate_bytes o n bs b =
    set_bytes (o + 3) (n % 256) (set bs (o + 2) (n / 256 % 256)) (omega arith) (set_bytes (o + 2) (n / 256 % 256) bs (omega arith) b)

-- ---- the id in the first bytes

-- Bytes after do not change it,
pub id_front : (a y : List ℕ) → 1 ≤ length a → id_of (a ++ y) ≡ id_of a
unfolding bytes_at
id_front a y h = ap number (take-append-le 1 a y h)

-- and it is among the first.
pub id_taken : (a : List ℕ) (n : ℕ) → 1 ≤ n → id_of (take n a) ≡ id_of a
unfolding bytes_at
id_taken a n h = ap number (take-take 1 n a h)
