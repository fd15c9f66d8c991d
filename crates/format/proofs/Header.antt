-- The header in bytes: what its tests say is that it is written so, and a written header passes them.
use mathlib.Core.Path.{◌≡◌, refl, sym, ap, ap₂, ◌∙◌}
use mathlib.Core.Bool.{true}
use mathlib.Core.List.{List, [], ◌∷◌, ◌++◌, append_assoc}
use Prim.Native.Nat.{ℕ, ◌+◌, ◌-◌, ◌^◌, ◌≤◌, ◌<◌}
use native.Mathlib.Omega.{arith}
use lib.ListN.{length, get_or, take, drop, length-drop, take-append-drop}
use lib.Seq.{take_at, take-take, length-take-le}
use Rattle.format.specs.Bytes.{Bytes, number, bytes_at, all_zero}
use Rattle.format.specs.Layout.{Fields, write}
use Rattle.format.specs.Parts.{header, Part, write_parts, written}
use Rattle.format.specs.Reading.{id_of, stated}
use Rattle.format.proofs.Numbers.{big_endian_number, number_lt, bytes_take, bytes_drop}
use Rattle.format.proofs.Slots.{length_at, laid_written, written_laid}
use Rattle.format.proofs.Unique.{written_length}

-- The number of a single byte.
single : (i : ℕ) → number (i ∷ []) ≡ i
unfolding number
single i = omega arith

-- One byte at a place is the byte of its number.
one_at : (bs : List ℕ) (o : ℕ) → Bytes bs → o + 1 ≤ length bs → (bytes_at bs o 1 ≡ number (bytes_at bs o 1) ∷ []) × (number (bytes_at bs o 1) < 256)
unfolding bytes_at
one_at bs o b h =
    let c = bytes_take 1 (drop o bs) (bytes_drop o bs b) in
    let l : length (take 1 (drop o bs)) ≡ 1 = length_at bs o 1 h in
    let n = number_lt (take 1 (drop o bs)) c in
    let m : number (take 1 (drop o bs)) < 256 = rw l at n in
    let e = big_endian_number (take 1 (drop o bs)) c in
    (sym (rw l at e) ∙ ap (λ (k : ℕ). k ∷ []) (omega arith), m)

-- Bytes that pass the header's tests begin with a written header that states their length field.
pub header_written : (bs : List ℕ) → Bytes bs → 8 ≤ length bs → all_zero (bytes_at bs 1 1) ≡ true → all_zero (bytes_at bs 4 4) ≡ true
    → (write (stated bs) header ((id_of bs ∷ []) ∷ []) ++ drop 8 bs ≡ bs) × (id_of bs < 256)
header_written bs b h v z =
    let o = one_at bs 0 b (omega arith) in
    let w = laid_written header (stated bs) [] bs 0 refl b h (tt, (v, (refl, (z, tt)))) in
    (ap (λ (f : List ℕ). write (stated bs) header (f ∷ []) ++ drop 8 bs) (sym o.0) ∙ w.1, o.1)

-- What bytes that begin with a written form say in their header.
pub header_read : (i : ℕ) (ps : List Part) (bs z : List ℕ) → length (written i ps) < 256 ^ 2 → bs ≡ written i ps ++ z
    → (id_of bs ≡ i) × (all_zero (bytes_at bs 1 1) ≡ true) × (stated bs ≡ length (written i ps)) × (all_zero (bytes_at bs 4 4) ≡ true)
header_read i ps bs z h e =
    let t : ℕ = 8 + length (write_parts ps) in
    let l = written_length i ps in
    let small : t < 256 ^ 2 = omega arith in
    let f : bs ≡ write t header ((i ∷ []) ∷ []) ++ (write_parts ps ++ z) = e ∙ append_assoc (write t header ((i ∷ []) ∷ [])) (write_parts ps) z in
    let r = written_laid header t [] ((i ∷ []) ∷ []) bs 0 (write_parts ps ++ z) (refl, (small, tt)) f in
    let id : bytes_at bs 0 1 ≡ i ∷ [] = ap (λ (fs : Fields). get_or fs 0 []) r.1 in
    (ap number id ∙ single i, r.0.1.0, r.0.1.1.0 ∙ sym l, r.0.1.1.1.0)

-- After the header stand the parts.
pub behind_header : (i : ℕ) (ps : List Part) → drop 8 (written i ps) ≡ write_parts ps
behind_header i ps = refl

-- The first bytes, where the header and what stands after it are the parts', are the written form.
pub written_front : (i : ℕ) (ps : List Part) (bs : List ℕ) (n : ℕ) → 8 ≤ n → n ≤ length bs
    → write n header ((i ∷ []) ∷ []) ++ drop 8 bs ≡ bs → write_parts ps ≡ drop 8 (take n bs) → written i ps ≡ take n bs
written_front i ps bs n h k e f =
    let c : List ℕ = take n bs in
    let lc = length-take-le n bs k in
    let lp : length (write_parts ps) ≡ n - 8 = ap length f ∙ length-drop 8 c ∙ ap (λ (m : ℕ). m - 8) lc in
    let t : 8 + length (write_parts ps) ≡ n = omega arith in
    let front : write n header ((i ∷ []) ∷ []) ≡ take 8 c =
    sym (take-take 8 n bs h ∙ ap (take 8) (sym e) ∙ take_at (write n header ((i ∷ []) ∷ [])) (drop 8 bs) 8 refl) in
    ap₂ (λ (x y : List ℕ). x ++ y) (ap (λ (m : ℕ). write m header ((i ∷ []) ∷ [])) t ∙ front) f
    ∙ take-append-drop 8 c
