-- Rows that lie one after another: their places rise, and a step finds the row that begins at a place.
use mathlib.Core.Path.{◌≡◌, refl, sym, ap, ◌∙◌, subst}
use mathlib.Core.List.{List, [], ◌∷◌, map}
use mathlib.Core.Option.{some}
use Prim.Native.Nat.{ℕ, zero, suc, ◌+◌, ◌≤◌, ◌<◌}
use native.Mathlib.Omega.{arith}
use lib.Dec.{eqb}
use lib.ListN.{drop, get_elem?}
use borrow.Author.Tests.{eq-eqb, ne_eqb}
use Rattle.format.specs.Parts.{size}
use Rattle.format.specs.Table.{Placed}
use Rattle.format.specs.Views.{next_place, step_in}
use Rattle.format.specs.declared.Row.{Row}
use Rattle.format.specs.Answers.{Record, End, Stopped}
use Rattle.format.proofs.Unique.{size_pos}
use Rattle.format.proofs.Grouping.{is_true, is_false}
use Rattle.format.proofs.Elements.{some_inj}
use Rattle.format.specs.Claims.{Tiles}

-- ---- rows that lie one after another

-- The rows themselves.
abbrev pub rows_of : List Placed → List Row
rows_of xs = map (λ x. x.row) xs

-- Each row begins at the first one's place or after it, and its part ends within the end.
between : (at e : ℕ) (xs : List Placed) (k : ℕ) (x : Placed) → Tiles at xs e → get_elem? xs k ≡ some x
    → (at ≤ x.row.offset) × (x.row.offset + size x.part ≤ e)
between at e [] k x t g = absurd (let z : ◌≡◌ {A = ℕ} 0 1 = cc in omega arith)
between at e (y ∷ xs) zero x t g =
    let q : y ≡ x = some_inj g in
    let a : x.row.offset ≡ at = ap (λ (v : Placed). v.row.offset) (sym q) ∙ t.0 in
    let s : size x.part ≡ size y.part = ap (λ (v : Placed). size v.part) (sym q) in
    let n = ends (at + size y.part) e xs t.1 in
    (omega arith, omega arith)
  where
    ends : (at e : ℕ) (xs : List Placed) → Tiles at xs e → at ≤ e
    ends at e [] t = omega arith
    ends at e (y ∷ xs) t = let i = ends (at + size y.part) e xs t.1 in omega arith
between at e (y ∷ xs) (suc k) x t g = let i = between (at + size y.part) e xs k x t.1 g in (omega arith, i.1)

-- A later row begins where an earlier one's part ends, or after it.
pub rising : (at e : ℕ) (xs : List Placed) (j k : ℕ) (x y : Placed) → Tiles at xs e → j < k → get_elem? xs j ≡ some x
    → get_elem? xs k ≡ some y → x.row.offset + size x.part ≤ y.row.offset
rising at e [] j k x y t h f g = absurd (let z : ◌≡◌ {A = ℕ} 0 1 = cc in omega arith)
rising at e (v ∷ xs) j zero x y t h f g = absurd (omega arith)
rising at e (v ∷ xs) zero (suc k) x y t h f g =
    let q : v ≡ x = some_inj f in
    let a : x.row.offset ≡ at = ap (λ (u : Placed). u.row.offset) (sym q) ∙ t.0 in
    let s : size x.part ≡ size v.part = ap (λ (u : Placed). size u.part) (sym q) in
    let i = between (at + size v.part) e xs k y t.1 g in
    omega arith
rising at e (v ∷ xs) (suc j) (suc k) x y t h f g = rising (at + size v.part) e xs j k x y t.1 (omega arith) f g

-- The next row begins where a row's part ends.
pub next_tile : (at e : ℕ) (xs : List Placed) (k : ℕ) (x y : Placed) → Tiles at xs e → get_elem? xs k ≡ some x
    → get_elem? xs (suc k) ≡ some y → y.row.offset ≡ x.row.offset + size x.part
next_tile at e [] k x y t f g = absurd (let z : ◌≡◌ {A = ℕ} 0 1 = cc in omega arith)
next_tile at e (v ∷ []) k x y t f g = absurd (let z : ◌≡◌ {A = ℕ} 0 1 = cc in omega arith)
next_tile at e (v ∷ u ∷ xs) zero x y t f g =
    let p = ap (λ (w : Placed). w.row.offset) (some_inj f) in
    let s = ap (λ (w : Placed). size w.part) (some_inj f) in
    let q = ap (λ (w : Placed). w.row.offset) (some_inj g) in
    let a = t.0 in
    let b = t.1.0 in
    omega arith
next_tile at e (v ∷ u ∷ xs) (suc k) x y t f g = next_tile (at + size v.part) e (u ∷ xs) k x y t.1 f g

-- ---- a step over such rows

-- At the first row's place the step gives it, with the place of the next row or the end.
step_first : (e : ℕ) (r : Row) (rs : List Row) (at : ℕ) → at ≡ r.offset
    → step_in e (r ∷ rs) at ≡ Record r (next_place e rs)
step_first e r rs at h =
    is_true (eqb at r.offset) (Record r (next_place e rs)) (step_in e rs at) (eq-eqb at r.offset h)

-- At another place the step goes on to the rows after.
step_later : (e : ℕ) (r : Row) (rs : List Row) (at : ℕ) → (at ≡ r.offset → ⊥) → step_in e (r ∷ rs) at ≡ step_in e rs at
step_later e r rs at h =
    is_false (eqb at r.offset) (Record r (next_place e rs)) (step_in e rs at) (ne_eqb at r.offset h)

-- The first of the rows from place `at` on begins there, or else they end there.
next_from : (at e : ℕ) (xs : List Placed) → Tiles at xs e → next_place e (rows_of xs) ≡ at
next_from at e [] t = sym t
next_from at e (x ∷ xs) t = t.0

-- After a row the next one, or the end, is where its part ends.
pub next_after : (at e : ℕ) (xs : List Placed) (k : ℕ) (x : Placed) → Tiles at xs e → get_elem? xs k ≡ some x
    → next_place e (drop (suc k) (rows_of xs)) ≡ x.row.offset + size x.part
next_after at e [] k x t g = absurd (let z : ◌≡◌ {A = ℕ} 0 1 = cc in omega arith)
next_after at e (y ∷ xs) zero x t g =
    let a = t.0 in
    let p = ap (λ (v : Placed). v.row.offset + size v.part) (some_inj g) in
    next_from _ e xs t.1 ∙ omega arith
next_after at e (y ∷ xs) (suc k) x t g = next_after (at + size y.part) e xs k x t.1 g

-- At a row's place the step gives the row and the place where its part ends.
pub step_row : (at e : ℕ) (xs : List Placed) (k : ℕ) (x : Placed) → Tiles at xs e → get_elem? xs k ≡ some x
    → step_in e (rows_of xs) x.row.offset ≡ Record x.row (x.row.offset + size x.part)
step_row at e [] k x t g = absurd (let z : ◌≡◌ {A = ℕ} 0 1 = cc in omega arith)
step_row at e (y ∷ xs) zero x t g =
    let q : y ≡ x = some_inj g in
    let a = t.0 in
    let n : next_place e (rows_of xs) ≡ y.row.offset + size y.part = next_from _ e xs t.1 ∙ omega arith in
    subst
    (λ (v : Placed). step_in e (rows_of (y ∷ xs)) v.row.offset ≡ Record v.row (v.row.offset + size v.part))
    q
    (step_first e y.row (rows_of xs) y.row.offset refl ∙ ap (λ (m : ℕ). Record y.row m) n)
step_row at e (y ∷ xs) (suc k) x t g =
    let i = between (at + size y.part) e xs k x t.1 g in
    let a = t.0 in
    let s = size_pos y.part in
    step_later e y.row (rows_of xs) x.row.offset (λ q. omega arith)
    ∙ step_row (at + size y.part) e xs k x t.1 g

-- At the end the step gives the end.
pub step_end : (at e : ℕ) (xs : List Placed) → Tiles at xs e → step_in e (rows_of xs) e ≡ End
step_end at e [] t = is_true (eqb e e) End (Stopped 22 0) (eq-eqb e e refl)
step_end at e (y ∷ xs) t =
    let i = between at e (y ∷ xs) 0 y t refl in
    let s = size_pos y.part in
    step_later e y.row (rows_of xs) e (λ q. omega arith) ∙ step_end (at + size y.part) e xs t.1

-- At a place that is no row's and not the end the step gives 22.
pub step_elsewhere : (e : ℕ) (xs : List Placed) (at : ℕ)
    → ((k : ℕ) (x : Placed) → get_elem? xs k ≡ some x → at ≡ x.row.offset → ⊥)
    → (at ≡ e → ⊥) → step_in e (rows_of xs) at ≡ Stopped 22 0
step_elsewhere e [] at h n = is_false (eqb at e) End (Stopped 22 0) (ne_eqb at e n)
step_elsewhere e (y ∷ xs) at h n =
    step_later e y.row (rows_of xs) at (h 0 y refl) ∙ step_elsewhere e xs at (λ k. h (suc k)) n
