-- The loop over parts by the lengths that they state. Assumes nothing.
use mathlib.Core.Path.{◌≡◌, sym, ap, ◌∙◌, subst}
use mathlib.Core.List.{List}
use Prim.Native.Nat.{ℕ, ◌+◌, ◌-◌, ◌≤◌, ◌<◌}
use native.Mathlib.Omega.{arith}
use lib.ListN.{length, drop, length-drop}
use lib.Seq.{drop-drop}
use Rattle.format.specs.Reading.{stated}
use Rattle.write_last_part.specs.Tiling.{TiledTo, here, Tiled, Twenties}
use Rattle.write_last_part.proofs.Tiling.{tiled_more, tiled_through, tiled_on, tiled_first}

-- The parts from `first` to p are passed, the last of them standing at `last`.
pub record Stepped (s : List ℕ) (first last p : ℕ) : Type 0 where
  pub front : first ≤ p
  pub inside : p ≤ length s
  pub tiled : TiledTo (drop p s) (drop first s)
  pub from : first < p → (first ≤ last) × (last + 4 ≤ length s) × TiledTo (drop last s) (drop first s) × (last + stated (drop last s) ≡ p)

-- At first none is passed.
pub stepped_none : (s : List ℕ) (first : ℕ) → first ≤ length s → Stepped s first first first
stepped_none s first h = record { front = omega arith; inside = h; tiled = here; from = λ q. absurd (omega arith) }

-- A part passed, to which one comes from the first.
step : {s : List ℕ} {first p n : ℕ} → first ≤ p → TiledTo (drop p s) (drop first s) → p < length s → n ≡ stated (drop p s) → 4 ≤ n
    → n ≤ length s - p → Stepped s first p (p + n)
step {s} {first} {p} {n} f t h e a b =
    let l = length-drop p s in
    record {
      front = omega arith;
      inside = omega arith;
      tiled = subst (λ (y : List ℕ). TiledTo y (drop first s)) (ap (λ (m : ℕ). drop m (drop p s)) (sym e) ∙ drop-drop n p s)
          (tiled_more t (omega arith) (omega arith));
      from = λ q. (f, omega arith, t, omega arith);
    }

-- One part more, which is the last then.
pub stepped_more : {s : List ℕ} {first last p q n : ℕ} → Stepped s first last p → p < length s → n ≡ stated (drop p s) → 4 ≤ n → n ≤ length s - p
    → q ≡ p → Stepped s first q (q + n)
stepped_more {s} {first} {last} {p} {q} {n} w h e a b same =
    subst (λ (j : ℕ). Stepped s first j (j + n)) (sym same) (step w.front w.tiled h e a b)

-- A part of 20 bytes,
pub twenty_first : {s : List ℕ} {p n : ℕ} → n ≡ stated (drop p s) → n ≡ 20 → p < length s → n ≤ length s - p → Twenties s p p
twenty_first e t h k = record { front = omega arith; inside = omega arith; states = sym e ∙ t; tiled = here }

-- one more,
pub twenty_more : {s : List ℕ} {p q : ℕ} → Twenties s p q → q + 40 ≤ length s → stated (drop (q + 20) s) ≡ 20 → Twenties s p (q + 20)
twenty_more {s} {p} {q} w h e =
    let l = length-drop q s in
    let f = w.front in
    let n = w.states in
    record {
      front = omega arith;
      inside = omega arith;
      states = e;
      tiled = subst (λ (y : List ℕ). TiledTo y (drop p s)) (ap (λ (m : ℕ). drop m (drop q s)) n ∙ drop-drop 20 q s)
          (tiled_more w.tiled (omega arith) (omega arith));
    }

-- and all of them passed.
pub stepped_twenties : {s : List ℕ} {first last p q r n : ℕ} → Stepped s first last p → Twenties s p q → n ≡ 20 → r ≡ q → Stepped s first r (r + n)
stepped_twenties {s} {first} {last} {p} {q} {r} {n} w t twenty same =
    let f = w.front in
    let g = t.front in
    let i = t.inside in
    let e = t.states in
    subst (λ (j : ℕ). Stepped s first j (j + n)) (sym same)
    (step (omega arith) (tiled_through w.tiled t.tiled) (omega arith) (omega arith) (omega arith) (omega arith))

-- A part that does not end within the bytes: they are not tiled.
pub stepped_broken : {s : List ℕ} {first last p : ℕ} → Stepped s first last p → p < length s
    → (4 ≤ stated (drop p s) → stated (drop p s) ≤ length s - p → ⊥) → Tiled (drop first s) → ⊥
stepped_broken {s} {first} {last} {p} w h never u =
    let l = length-drop p s in
    let t = tiled_first (tiled_on w.tiled u) (omega arith) in
    let m = t.1 in
    never t.0 (omega arith)
