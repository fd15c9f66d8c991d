-- Stepping past parts with other ids. Assumes nothing.
use mathlib.Core.Path.{◌≡◌, sym, ap, ◌∙◌, subst}
use mathlib.Core.List.{List}
use Prim.Native.Nat.{ℕ, ◌+◌, ◌≤◌, ◌<◌}
use native.Mathlib.Omega.{arith}
use lib.ListN.{length, drop, length-drop}
use lib.Seq.{drop-drop}
use Rattle.format.specs.Reading.{id_of, stated}
use Rattle.write_last_part.specs.Tiling.{TiledTo, here, next, Tiled}
use Rattle.write_last_part.proofs.Tiling.{tiled_on, tiled_first}
use Rattle.write_judged_section.specs.Placing as Placing
use Rattle.write_judged_section.specs.Placing.{PassedTo}

-- Steps past such parts are steps.
pub passed_tiled : {i : ℕ} {z r : List ℕ} → PassedTo i z r → TiledTo z r
passed_tiled Placing.here = here
passed_tiled (Placing.next n a b t) = next a b (passed_tiled t)

-- Steps after steps.
pub passed_through : {i : ℕ} {z y r : List ℕ} → PassedTo i y r → PassedTo i z y → PassedTo i z r
passed_through Placing.here u = u
passed_through (Placing.next n a b t) u = Placing.next n a b (passed_through t u)

-- One step more, over the part at p.
pub passed_part : {i n : ℕ} {r : List ℕ} (s : List ℕ) (p : ℕ) → PassedTo i (drop p s) r → (id_of (drop p s) ≡ i → ⊥) → n ≡ stated (drop p s) → 4 ≤ n
    → p + n ≤ length s → PassedTo i (drop (p + n) s) r
passed_part {i} {n} {r} s p t other e a b =
    let l = length-drop p s in
    subst (λ (y : List ℕ). PassedTo i y r) (ap (λ (m : ℕ). drop m (drop p s)) (sym e) ∙ drop-drop n p s)
    (passed_through t (Placing.next other (omega arith) (omega arith) Placing.here))

-- Where all is tiled, the part at p has four bytes and ends within the bytes.
pub part_ends : {i : ℕ} {r : List ℕ} (s : List ℕ) (p : ℕ) → Tiled r → PassedTo i (drop p s) r → p < length s
    → (4 ≤ stated (drop p s)) × (p + stated (drop p s) ≤ length s)
part_ends s p u t h =
    let l = length-drop p s in
    let f = tiled_first (tiled_on (passed_tiled t) u) (omega arith) in
    let b = f.1 in
    (f.0, omega arith)
