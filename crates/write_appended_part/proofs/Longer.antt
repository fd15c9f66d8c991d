-- The longer draft as bytes: lengths restated in it, and how long it is. Assumes nothing.
use mathlib.Core.Path.{◌≡◌, sym, ap, ◌∙◌}
use mathlib.Core.List.{List, [], ◌∷◌, ◌++◌, append_assoc}
use Prim.Native.Nat.{ℕ, suc, ◌+◌, ◌-◌, ◌/◌, ◌%◌, ◌≤◌}
use native.Mathlib.Omega.{arith}
use lib.ListN.{length, take, drop, set, length-append, length-set}
use lib.Seq.{sets, sets-eq, drop-drop, length-take-le, set-append_left, lt-length-set}
use borrow.Rule.Slice.PartMut.{put_mid}
use Rattle.format.specs.Reading.{stated}
use Rattle.format.proofs.Changes.{restate}
use Rattle.write_appended_part.specs.Appended.{Standing, grown}

-- ---- another length in a part

-- Bytes written over those from one place to another.
pub put_over : {v : List ℕ} (i e : ℕ) (bs w : List ℕ) → v ≡ w → i + length w ≡ e → e ≤ length bs → put_mid i (e - i) bs v ≡ sets bs i w
put_over i e bs w same q h =
    let k : i + (e - i) ≡ i + length w = omega arith in
    ap (put_mid i (e - i) bs) same
    ∙ ap (λ (y : List ℕ). take i bs ++ (w ++ y)) (drop-drop (e - i) i bs ∙ ap (λ (j : ℕ). drop j bs) k)
    ∙ sym (append_assoc (take i bs) w (drop (i + length w) bs))
    ∙ sym (sets-eq w bs i (omega arith))

-- A number's two bytes over those after a part's first two are its new length.
pub length_put : {v : List ℕ} (at n : ℕ) (bs : List ℕ) → v ≡ n / 256 % 256 ∷ n % 256 ∷ [] → at + 4 ≤ length bs
    → put_mid (at + 2) (at + 4 - (at + 2)) bs v ≡ restate at n bs
length_put at n bs e h =
    let k : suc (at + 2) ≡ at + 3 = omega arith in
    put_over (at + 2) (at + 4) bs (n / 256 % 256 ∷ n % 256 ∷ []) e (omega arith) h
    ∙ ap (λ (j : ℕ). set (set bs (at + 2) (n / 256 % 256)) j (n % 256)) k

-- It leaves the number of bytes as it was,
pub restate_long : (at n : ℕ) (bs : List ℕ) → length (restate at n bs) ≡ length bs
restate_long at n bs = length-set (set bs (at + 2) (n / 256 % 256)) (at + 3) (n % 256) ∙ length-set bs (at + 2) (n / 256 % 256)

-- and whatever stands after the bytes that hold the part.
pub restate_front : (at n : ℕ) (a b : List ℕ) → at + 4 ≤ length a → restate at n (a ++ b) ≡ restate at n a ++ b
restate_front at n a b h =
    ap (λ (y : List ℕ). set y (at + 3) (n % 256)) (set-append_left a b (at + 2) (n / 256 % 256) (omega arith))
    ∙ set-append_left (set a (at + 2) (n / 256 % 256)) b (at + 3) (n % 256) (lt-length-set a (at + 2) (n / 256 % 256) (omega arith))

-- ---- the longer draft

-- The longer draft has the bytes of both.
pub grown_long : (d : List ℕ) (o : ℕ) (w : List ℕ) → Standing d o → length (grown d o w) ≡ stated d + length w
grown_long d o w s =
    let a : List ℕ = take (stated d) d in
    let b : List ℕ = restate 0 (stated d + length w) a in
    let l = length-take-le (stated d) d s.there in
    let l₁ = restate_long 0 (stated d + length w) a in
    let l₂ = restate_long o (stated (drop o d) + length w) b in
    let l₃ = length-append (restate o (stated (drop o d) + length w) b) w in
    omega arith
