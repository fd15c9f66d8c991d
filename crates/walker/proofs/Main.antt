-- What a reader of held bytes gives, followed from its start by the contracts of `start` and `next`: the steps of the
-- walk, which over a legal token are its rows in order and then the end. Assumes nothing.
use mathlib.Core.Path.{◌≡◌, refl, sym, ap, ◌∙◌}
use mathlib.Core.List.{List, [], ◌∷◌}
use mathlib.Core.Logic.{◌↔◌, inl, inr}
use mathlib.Core.Option.{some}
use mathlib.Core.Bool.{Bool, true, false}
use Prim.Native.Nat.{ℕ, zero, suc, ◌+◌, ◌≤◌}
use lib.Dec.{leb}
use lib.ListN.{length, get_elem?}
use borrow.Author.Tests.{leb-true, leb-false}
use native.Mathlib.Omega.{arith}
use denote.Ref.{Bor}
use Rattle.format.specs.Bytes.{Bytes}
use Rattle.format.specs.Legal.{Legal}
use Rattle.format.specs.Parts.{size}
use Rattle.format.specs.Reading.{Fault, refused, reading, answer}
use Rattle.format.specs.Table.{Placed, after_header, placed}
use Rattle.format.specs.Views.{step_at, place_after}
use Rattle.format.specs.GivenNumbers.{number_of, row_answer}
use Rattle.format.specs.Answers.{Step, Record, End, Stopped}
use Rattle.format.proofs.Elements.{there}
use Rattle.format.proofs.Rows.{placed_count}
use Rattle.format.proofs.Numbering.{fault_number}
use Rattle.format.proofs.GivenNumbers.{refused_told, first, Judged, judged, own_answer, illegal}
use Rattle.format.proofs.Walking.{walk_legal, first_place, step_next, step_at_row, step_at_end, step_refused}
use Rattle.walker.specs.Walking.{step_after, Followed}
use Rattle.walker.specs.declared.Walker.{Walker}
use Rattle.walker.proofs.Laws.{behind_at, place_last}
use Rattle.format.specs.Claims.{IsRow, walk_place}

-- ---- the places that the steps lead to

-- Before an element of a list comes another.
one_before : (xs : List Placed) (k : ℕ) (y : Placed) → get_elem? xs (suc k) ≡ some y → (x : Placed) × (get_elem? xs k ≡ some x)
one_before [] k y e = absurd (let z : ◌≡◌ {A = ℕ} 0 1 = cc in omega arith)
one_before (x ∷ xs) zero y e = (x, refl)
one_before (x ∷ xs) (suc k) y e = one_before xs k y e

-- As many steps as there are rows before a row lead to its place.
place_of_row : (bs : List ℕ) (l : Legal bs) (k : ℕ) (x : Placed) → IsRow bs l k x → walk_place k bs 8 ≡ x.row.offset
place_of_row bs l zero x e = sym (first_place bs l x e)
place_of_row bs l (suc k) y f =
    let b = one_before (placed after_header l.parts) k y f in
    let p = place_of_row bs l k b.0 b.1 in
    place_last bs 8 k
    ∙ ap (λ (a : ℕ). place_after a (step_at bs a)) p
    ∙ ap (place_after b.0.row.offset) (step_next bs l k b.0 y b.1 f)

-- ---- the steps after one another

-- After as many steps as there are rows before it comes each row of a legal token, with the place where its part ends.
pub behind_row : (bs : List ℕ) (l : Legal bs) (k : ℕ) (x : Placed) → IsRow bs l k x
    → step_after bs 8 k ≡ Record x.row (x.row.offset + size x.part)
behind_row bs l k x e = behind_at bs 8 k ∙ ap (step_at bs) (place_of_row bs l k x e) ∙ step_at_row bs l k x e

-- After all rows comes the end, and it stays.
pub behind_all : (bs : List ℕ) (l : Legal bs) (k : ℕ) → length l.parts ≤ k → step_after bs 8 k ≡ End
behind_all bs l k h = behind_at bs 8 k ∙ ap (step_at bs) (walk_legal bs l k h).1 ∙ step_at_end bs l

-- An illegal token gives the reading's refusal at once, and it stays.
pub behind_refused : (bs : List ℕ) (f : Fault) (k : ℕ) → reading true bs ≡ refused f
    → step_after bs 8 k ≡ Stopped f.number f.place
behind_refused bs f k e = behind_at bs 8 k ∙ step_refused bs f (walk_place k bs 8) e

-- In the paper's numbers, for a row asked for by its number: 0 exactly where a legal token has it, 22 exactly after its last
-- row, and for an illegal token the number of reading it.
pub row_in_numbers : (bs : List ℕ) (k : ℕ) → Bytes bs
    → ((row_answer (step_after bs 8 k) ≡ 0) ↔ ((l : Legal bs) × ((x : Placed) × IsRow bs l k x)))
    × ((row_answer (step_after bs 8 k) ≡ 22) ↔ ((l : Legal bs) × (length l.parts ≤ k)))
    × ((Legal bs → ⊥) → row_answer (step_after bs 8 k) ≡ number_of (answer bs))
unfolding row_answer
row_in_numbers bs k b = (
  ((λ e. there_at e (judged bs b)), λ w. ap row_answer (behind_row bs w.0 k w.1.0 w.1.1)),
  ((λ e. past e (judged bs b)), λ w. ap row_answer (behind_all bs w.0 k w.1)),
  λ h. let u = illegal bs b h in ap row_answer (behind_refused bs u.0 k u.1) ∙ sym (first (refused_told (own_answer bs u.0 u.1))),
)
  where
    of : (l : Legal bs) (v : Bool) → leb (length l.parts) k ≡ v
        → (row_answer (step_after bs 8 k) ≡ 0 → (x : Placed) × IsRow bs l k x) × (row_answer (step_after bs 8 k) ≡ 22 → length l.parts ≤ k)
    of l true q =
        let h = leb-true (length l.parts) k q in
        let r = ap row_answer (behind_all bs l k h) in
        ((λ e. absurd (omega arith)), λ e. h)
    of l false q =
        let h = leb-false (length l.parts) k q in
        let n = placed_count after_header l.parts in
        let t = there (placed after_header l.parts) k (omega arith) in
        let r = ap row_answer (behind_row bs l k t.0 t.1) in
        ((λ e. (t.0, t.1)), λ e. absurd (omega arith))

    low : (f : Fault) → reading true bs ≡ refused f → (1 ≤ row_answer (step_after bs 8 k)) × (row_answer (step_after bs 8 k) ≤ 21)
    low f e =
        let n = ap row_answer (behind_refused bs f k e) in
        let r = fault_number true bs f e in
        (omega (arith, r), omega (arith, r))

    there_at : row_answer (step_after bs 8 k) ≡ 0 → Judged bs → (l : Legal bs) × ((x : Placed) × IsRow bs l k x)
    there_at e (inl l) = (l, (of l (leb (length l.parts) k) refl).0 e)
    there_at e (inr w) = absurd (let r = low w.0 w.1 in omega (arith, r))

    past : row_answer (step_after bs 8 k) ≡ 22 → Judged bs → (l : Legal bs) × (length l.parts ≤ k)
    past e (inl l) = (l, (of l (leb (length l.parts) k) refl).1 e)
    past e (inr w) = absurd (let r = low w.0 w.1 in omega (arith, r))

-- ---- the reader of held bytes

-- The reader keeps the token, and its place is the one that the steps lead to.
kept : (token : Bor (List ℕ)) (w : ℕ → Walker) (s : ℕ → Step) → Followed token w s → (k : ℕ)
    → ((w k).token ≡ token) × ((w k).place ≡ walk_place k token.now 8)
kept token w s f zero = f.0
kept token w s f (suc k) =
    let i = kept token w s f k in
    let n = f.1 k in
    let e : s k ≡ step_at token.now (walk_place k token.now 8) =
    n.0 ∙ ap (λ (t : Bor (List ℕ)). step_at t.now (w k).place) i.0 ∙ ap (step_at token.now) i.1 in
    (n.1.0 ∙ i.0, n.1.1 ∙ ap (λ (a : ℕ). place_after a (s k)) i.1 ∙ ap (place_after (walk_place k token.now 8)) e ∙ sym (place_last token.now 8 k))

-- "The same records in the same order": the reader's step k is the walk's, which is what `nth_step` gives.
pub same_steps : (token : Bor (List ℕ)) (w : ℕ → Walker) (s : ℕ → Step) → Followed token w s → (k : ℕ)
    → s k ≡ step_after token.now 8 k
same_steps token w s f k =
    let i = kept token w s f k in
    (f.1 k).0
    ∙ ap (λ (t : Bor (List ℕ)). step_at t.now (w k).place) i.0
    ∙ ap (step_at token.now) i.1
    ∙ sym (behind_at token.now 8 k)

-- Over a legal token the reader gives its rows in order, and then the end.
pub same_rows : (token : Bor (List ℕ)) (w : ℕ → Walker) (s : ℕ → Step) → Followed token w s → (l : Legal token.now)
    → ((k : ℕ) (x : Placed) → IsRow token.now l k x → s k ≡ Record x.row (x.row.offset + size x.part))
    × ((k : ℕ) → length l.parts ≤ k → s k ≡ End)
same_rows token w s f l = (
  λ k x e. same_steps token w s f k ∙ behind_row token.now l k x e,
  λ k h. same_steps token w s f k ∙ behind_all token.now l k h,
)

-- Over an illegal token each of its steps is the reading's refusal.
pub same_refusal : (token : Bor (List ℕ)) (w : ℕ → Walker) (s : ℕ → Step) → Followed token w s → (g : Fault) (k : ℕ)
    → reading true token.now ≡ refused g → s k ≡ Stopped g.number g.place
same_refusal token w s f g k e = same_steps token w s f k ∙ behind_refused token.now g k e
