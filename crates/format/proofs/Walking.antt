-- The walk over a legal token: from byte 8 its records are the rows in order, then comes the end; 22 at any other
-- place.
use mathlib.Core.Path.{◌≡◌, refl, sym, ap, ◌∙◌, subst}
use mathlib.Core.Bool.{Bool, true, false}
use mathlib.Core.List.{List, [], ◌∷◌, ◌++◌, map}
use mathlib.Core.Logic.{◌↔◌, inl, inr}
use mathlib.Core.Option.{some}
use Prim.Native.Nat.{ℕ, zero, suc, ◌+◌, ◌≤◌, ◌<◌}
use native.Mathlib.Omega.{arith}
use lib.Dec.{eqb}
use lib.ListN.{length, drop, get_elem?, replicate}
use borrow.Author.Tests.{eqb-true}
use Rattle.format.specs.Bytes.{Bytes}
use Rattle.format.specs.Parts.{Part, size}
use Rattle.format.specs.Legal.{Legal}
use Rattle.format.specs.Reading.{Fault, refused, reading, answer}
use Rattle.format.specs.Table.{Placed, Before, after_header, after, placed, rows, row_numbers}
use Rattle.format.specs.Views.{next_place, step_in, step_at, place_after}
use Rattle.format.specs.GivenNumbers.{step_number, step_second, row_kind, row_offset, row_length, row_owner, row_rule, next_of}
use Rattle.format.specs.declared.Row.{Row}
use Rattle.format.specs.Answers.{Step, Record, End, Stopped}
use Rattle.format.proofs.Finding.{section_id_pos}
use Rattle.format.proofs.Accepted.{legal_read}
use Rattle.format.proofs.Numbering.{fault_number}
use Rattle.format.proofs.GivenNumbers.{refused_told, Judged, judged, own_answer, illegal}
use Rattle.format.proofs.Rows.{placed_count}
use Rattle.format.proofs.Tiling.{rows_tile, row_of}
use Rattle.format.proofs.Stepping.{next_tile, next_after, rows_of, step_row, step_end}
use Rattle.format.proofs.Stepping.{step_elsewhere}
use Rattle.format.proofs.Viewing.{legal_parts}
use Rattle.format.specs.Claims.{answer_numbers, step_numbers, Tiles, IsRow, walk, walk_place}

-- ---- one step

-- A step over a legal token is one over the rows of its parts.
step_legal : (bs : List ℕ) (l : Legal bs) (at : ℕ) → step_at bs at ≡ step_in (length bs) (rows l.parts) at
unfolding step_at
step_legal bs l at =
    rw (legal_read bs l, step_at) (ap (λ (ps : List Part). step_in (length bs) (rows ps) at) (legal_parts bs l))

-- At a row's place the step gives the row, and the place where its part's own bytes end.
pub step_at_row : (bs : List ℕ) (l : Legal bs) (k : ℕ) (x : Placed) → IsRow bs l k x
    → step_at bs x.row.offset ≡ Record x.row (x.row.offset + size x.part)
step_at_row bs l k x e =
    step_legal bs l x.row.offset ∙ step_row 8 (length bs) (placed after_header l.parts) k x (rows_tile bs l) e

-- That place is the next row's, and after the last row the token's length.
pub step_after_row : (bs : List ℕ) (l : Legal bs) (k : ℕ) (x : Placed) → IsRow bs l k x
    → step_at bs x.row.offset ≡ Record x.row (next_place (length bs) (drop (suc k) (rows l.parts)))
step_after_row bs l k x e =
    step_at_row bs l k x e
    ∙ ap (Record x.row) (sym (next_after 8 (length bs) (placed after_header l.parts) k x (rows_tile bs l) e))

-- The first row begins at byte 8.
pub first_place : (bs : List ℕ) (l : Legal bs) (x : Placed) → IsRow bs l 0 x → x.row.offset ≡ 8
first_place bs l x e = let p = (row_of bs l 0 x e).place in omega arith

-- The next row begins where a row's part ends, so the step at a row gives it and the next row's place.
pub step_next : (bs : List ℕ) (l : Legal bs) (k : ℕ) (x y : Placed) → IsRow bs l k x → IsRow bs l (suc k) y
    → step_at bs x.row.offset ≡ Record x.row y.row.offset
step_next bs l k x y e f =
    let n = next_tile 8 (length bs) (placed after_header l.parts) k x y (rows_tile bs l) e f in
    step_at_row bs l k x e ∙ ap (λ (m : ℕ). Record x.row m) (sym n)

-- At the token's length the step gives the end.
pub step_at_end : (bs : List ℕ) (l : Legal bs) → step_at bs (length bs) ≡ End
step_at_end bs l = step_legal bs l (length bs) ∙ step_end 8 (length bs) (placed after_header l.parts) (rows_tile bs l)

-- At any other place the step gives 22.
pub step_nowhere : (bs : List ℕ) (l : Legal bs) (at : ℕ)
    → ((k : ℕ) (x : Placed) → IsRow bs l k x → at ≡ x.row.offset → ⊥) → (at ≡ length bs → ⊥)
    → step_at bs at ≡ Stopped 22 0
step_nowhere bs l at h n = step_legal bs l at ∙ step_elsewhere (length bs) (placed after_header l.parts) at h n

-- In an illegal token every step gives the reading's refusal.
pub step_refused : (bs : List ℕ) (f : Fault) (at : ℕ) → reading true bs ≡ refused f
    → step_at bs at ≡ Stopped f.number f.place
unfolding step_at
step_refused bs f at e = rw (e, step_at)

-- ---- the walk

-- The steps at these rows give them, with the places where their parts end.
abbrev Steps : List ℕ → List Placed → Type 0
Steps bs xs = (k : ℕ) (x : Placed) → get_elem? xs k ≡ some x
    → step_at bs x.row.offset ≡ Record x.row (x.row.offset + size x.part)

-- A turn of the walk that gives a record.
walk_record : (d : ℕ) (bs : List ℕ) (at : ℕ) (r : Row) (next : ℕ) → step_at bs at ≡ Record r next
    → (walk (suc d) bs at ≡ r ∷ walk d bs next) × (walk_place (suc d) bs at ≡ walk_place d bs next)
walk_record d bs at r next e = (rw (e, walk), ap (λ (s : Step). walk_place d bs (place_after at s)) e)

-- At the end the walk stays.
walk_end : (d : ℕ) (bs : List ℕ) → step_at bs (length bs) ≡ End
    → (walk d bs (length bs) ≡ []) × (walk_place d bs (length bs) ≡ length bs)
walk_end zero bs e = (refl, refl)
walk_end (suc d) bs e =
    (rw (e, walk), ap (λ (s : Step). walk_place d bs (place_after (length bs) s)) e ∙ (walk_end d bs e).1)

-- The walk over rows that lie one after another up to the token's end gives them, and ends there.
walk_rows : (bs : List ℕ) (d at : ℕ) (xs : List Placed) → Tiles at xs (length bs) → Steps bs xs
    → step_at bs (length bs) ≡ End → length xs ≤ d → (walk d bs at ≡ rows_of xs) × (walk_place d bs at ≡ length bs)
walk_rows bs d at [] t s e h =
    subst (λ (a : ℕ). (walk d bs a ≡ []) × (walk_place d bs a ≡ length bs)) (sym t) (walk_end d bs e)
walk_rows bs zero at (x ∷ xs) t s e h = absurd (omega arith)
walk_rows bs (suc d) at (x ∷ xs) t s e h =
    let n : ℕ = at + size x.part in
    let f : step_at bs at ≡ Record x.row n =
    subst (λ (a : ℕ). step_at bs a ≡ Record x.row (a + size x.part)) t.0 (s 0 x refl) in
    let w = walk_record d bs at x.row n f in
    let i = walk_rows bs d n xs t.1 (λ k. s (suc k)) e (omega arith) in
    (w.0 ∙ ap (λ (rs : List Row). x.row ∷ rs) i.0, w.1 ∙ i.1)

-- The walk of a legal token from byte 8, in as many turns as it has rows or more, gives its rows in order, and leads to
-- the token's length.
pub walk_legal : (bs : List ℕ) (l : Legal bs) (d : ℕ) → length l.parts ≤ d
    → (walk d bs 8 ≡ rows l.parts) × (walk_place d bs 8 ≡ length bs)
walk_legal bs l d h =
    let n = placed_count after_header l.parts in
    walk_rows bs d 8 (placed after_header l.parts) (rows_tile bs l) (step_at_row bs l) (step_at_end bs l) (omega arith)

-- One turn more than there are rows: the walk gives the rows in order, and then the end.
pub walk_all : (bs : List ℕ) (l : Legal bs)
    → (walk (suc (length l.parts)) bs 8 ≡ rows l.parts) × (step_at bs (walk_place (length l.parts) bs 8) ≡ End)
walk_all bs l = (
  (walk_legal bs l (suc (length l.parts)) (omega arith)).0,
  ap (step_at bs) (walk_legal bs l (length l.parts) (omega arith)).1 ∙ step_at_end bs l,
)

-- ---- the numbers of a step

pub step_numbers_is : (bs : List ℕ) → Bytes bs
    → ((l : Legal bs) (k : ℕ) (x : Placed) → IsRow bs l k x
    → step_numbers (step_at bs x.row.offset)
    ≡ 0 ∷ 0 ∷ row_numbers x.row ++ (next_place (length bs) (drop (suc k) (rows l.parts)) ∷ []))
    × (Legal bs → step_numbers (step_at bs (length bs)) ≡ replicate 8 0)
    × ((l : Legal bs) (at : ℕ) → ((k : ℕ) (x : Placed) → IsRow bs l k x → at ≡ x.row.offset → ⊥) → (at ≡ length bs → ⊥)
    → step_numbers (step_at bs at) ≡ 22 ∷ replicate 7 0)
    × ((at : ℕ) → (Legal bs → ⊥) → step_numbers (step_at bs at) ≡ answer_numbers (answer bs) ++ replicate 6 0)
unfolding step_number step_second row_kind row_offset row_length row_owner row_rule next_of
step_numbers_is bs b = (
  (λ l k x r. ap step_numbers (step_after_row bs l k x r)),
  (λ l. ap step_numbers (step_at_end bs l)),
  (λ l at h n. ap step_numbers (step_nowhere bs l at h n)),
  λ at h.
      let u = illegal bs b h in
      ap step_numbers (step_refused bs u.0 at u.1)
      ∙ ap (λ (y : List ℕ). y ++ replicate 6 0) (sym (refused_told (own_answer bs u.0 u.1))),
)

-- The step with number 0 and kind 0 is that at the end, since no row has kind 0.
end_last : (v : Bool) (e at : ℕ) → eqb at e ≡ v → step_number (elim v as (λ y. Step) [ true ↦ End | false ↦ Stopped 22 0 ]) ≡ 0 → at ≡ e
unfolding step_number
end_last true e at w p = eqb-true at e w
end_last false e at w p = absurd (omega arith)

end_later : (v : Bool) (r : Row) (next : ℕ) (rest : Step) (e at : ℕ) → 0 < r.kind → (step_number rest ≡ 0 → row_kind rest ≡ 0 → at ≡ e)
    → step_number (elim v as (λ y. Step) [ true ↦ Record r next | false ↦ rest ]) ≡ 0
    → row_kind (elim v as (λ y. Step) [ true ↦ Record r next | false ↦ rest ]) ≡ 0 → at ≡ e
unfolding row_kind
end_later true r next rest e at h i p q = absurd (omega arith)
end_later false r next rest e at h i p q = i p q

end_told : (e : ℕ) (b : Before) (ps : List Part) (at : ℕ) → step_number (step_in e (map (λ x. x.row) (placed b ps)) at) ≡ 0
    → row_kind (step_in e (map (λ x. x.row) (placed b ps)) at) ≡ 0 → at ≡ e
end_told e b [] at p q = end_last (eqb at e) e at refl p
end_told e b (c ∷ ps) at p q =
    let h = section_id_pos c.kind in
    end_later (eqb at b.place) _ _ _ e at (omega arith) (end_told e (after b c) ps at) p q

pub step_exactly : (bs : List ℕ) (at : ℕ) → Bytes bs
    → (((step_number (step_at bs at) ≡ 0) × (row_kind (step_at bs at) ≡ 0)) ↔ (Legal bs × (at ≡ length bs)))
    × ((step_number (step_at bs at) ≡ 22)
    ↔ ((l : Legal bs) × ((k : ℕ) (x : Placed) → IsRow bs l k x → at ≡ x.row.offset → ⊥) × (at ≡ length bs → ⊥)))
unfolding step_number row_kind
step_exactly bs at b = (
  ((λ w. ended w.0 w.1 (judged bs b)), λ w. (ap step_number (at_end w), ap row_kind (at_end w))),
  ((λ e. nowhere e (judged bs b)), λ w. ap step_number (step_nowhere bs w.0 at w.1 w.2)),
)
  where
    at_end : Legal bs × (at ≡ length bs) → step_at bs at ≡ End
    at_end w = ap (step_at bs) w.1 ∙ step_at_end bs w.0

    ended : step_number (step_at bs at) ≡ 0 → row_kind (step_at bs at) ≡ 0 → Judged bs
        → Legal bs × (at ≡ length bs)
    ended p q (inl l) =
        let s = step_legal bs l at in
        (l, end_told (length bs) after_header l.parts at (sym (ap step_number s) ∙ p) (sym (ap row_kind s) ∙ q))
    ended p q (inr w) =
        absurd (let n : w.0.number ≡ 0 = sym (ap step_number (step_refused bs w.0 at w.1)) ∙ p in let r = fault_number true bs w.0 w.1 in omega (arith, r))

    nowhere : step_number (step_at bs at) ≡ 22 → Judged bs
        → (l : Legal bs) × ((k : ℕ) (x : Placed) → IsRow bs l k x → at ≡ x.row.offset → ⊥) × (at ≡ length bs → ⊥)
    nowhere p (inl l) = (
      l,
      (λ k x r q.
          let n : ◌≡◌ {A = ℕ} 0 22 = sym (ap step_number (ap (step_at bs) q ∙ step_at_row bs l k x r)) ∙ p in
          omega arith),
      λ q. let n : ◌≡◌ {A = ℕ} 0 22 = sym (ap step_number (at_end (l, q))) ∙ p in omega arith,
    )
    nowhere p (inr w) =
        absurd (let n : w.0.number ≡ 22 = sym (ap step_number (step_refused bs w.0 at w.1)) ∙ p in let r = fault_number true bs w.0 w.1 in omega (arith, r))
