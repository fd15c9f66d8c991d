-- The step at a place of the token: among the rows from a place on it is the same as among all.
use mathlib.Core.Path.{◌≡◌, refl, sym, ap, ap₂, ◌∙◌}
use mathlib.Core.List.{List, [], ◌∷◌, map}
use Prim.Native.Nat.{ℕ, ◌+◌, ◌<◌, ◌≤◌}
use native.Mathlib.Omega.{arith}
use lib.Dec.{eqb}
use lib.ListN.{length, length-append}
use borrow.Author.Tests.{eq-eqb, ne_eqb}
use Rattle.format.specs.Layout.{write}
use Rattle.format.specs.Parts.{Part, layout, span, write_parts}
use Rattle.format.specs.Reading.{parts_of}
use Rattle.format.specs.Table.{Placed, Before, after_header, part_row, after, placed, rows}
use Rattle.format.specs.Views.{next_place, step_in, step_at}
use Rattle.format.specs.declared.Row.{Row}
use Rattle.format.specs.Answers.{Record, End, Stopped}
use Rattle.format.proofs.Grouping.{is_true, is_false}
use Rattle.format.proofs.Unique.{size_any}
use Rattle.read_rows.proofs.Places as Places
use Rattle.read_rows.proofs.Places.{left_length, begins, there}
use Rattle.view_rows.specs.Walk.{Whole, before, LeftAt, BeginsAt, Starts, RowAt, Behind, SameStep, Stepping}
use Rattle.view_rows.proofs.Places.{starts}
use Rattle.view_rows.specs.declared.Place.{Place}

abbrev rows_of : List Placed → List Row
rows_of xs = map (λ x. x.row) xs

step_found : (s : List ℕ) (w : Whole s) (at : ℕ) → step_at s at ≡ step_in (length s) (rows (parts_of w.sections)) at
unfolding step_at
step_found s w at = rw (w.read, step_at)

-- ---- no row begins there

nowhere : (e at : ℕ) → (at ≡ e → ⊥) → step_in e [] at ≡ Stopped 22 0
nowhere e at h = is_false (eqb at e) End (Stopped 22 0) (ne_eqb at e h)

elsewhere : (e at : ℕ) (r : Row) (rs : List Row) → (at ≡ r.offset → ⊥) → step_in e (r ∷ rs) at ≡ step_in e rs at
elsewhere e at r rs h = is_false (eqb at r.offset) (Record r (next_place e rs)) (step_in e rs at) (ne_eqb at r.offset h)

-- Ahead of the first of the rows.
ahead : (e at : ℕ) (b : Before) (ps : List Part) → at < b.place → (at ≡ e → ⊥) → step_in e (rows_of (placed b ps)) at ≡ Stopped 22 0
ahead e at b [] h k = nowhere e at k
ahead e at b (q ∷ qs) h k =
    elsewhere e at (part_row b q qs) (rows_of (placed (after b q) qs)) (λ z. omega arith)
    ∙ ahead e at (after b q) qs (omega arith) k

-- Past the end of the token.
past : (e at : ℕ) (b : Before) (ps : List Part) → b.place + length (write_parts ps) ≤ e → e < at → step_in e (rows_of (placed b ps)) at ≡ Stopped 22 0
past e at b [] h k = nowhere e at (λ z. omega arith)
past e at b (q ∷ qs) h k =
    let l = length-append (write (span q qs) (layout q.kind) q.fields) (write_parts qs) in
    let m = size_any (layout q.kind) (span q qs) 0 q.fields in
    elsewhere e at (part_row b q qs) (rows_of (placed (after b q) qs)) (λ z. omega arith)
    ∙ past e at (after b q) qs (omega arith) k

pub step_past : {s : List ℕ} {at : ℕ} → Whole s → length s < at → Stopped 22 0 ≡ step_at s at
step_past {s} {at} w h =
    let m = left_length (Places.starts s w.sections w.bytes w.read) in
    sym (step_found s w at ∙ past (length s) at after_header (parts_of w.sections) (omega arith) h)

-- ---- the walk to the place

pub steps : {s : List ℕ} {p : Place} {at : ℕ} → Whole s → at ≤ length s → Starts p → Stepping s at p
steps {s} {p} {at} w h e = record {
  whole = w;
  within = h;
  parts = parts_of w.sections;
  left = starts w e;
  same = ap (λ (b : Before). step_in (length s) (rows_of (placed b (parts_of w.sections))) at) e.0;
}

module _ {s : List ℕ} {at : ℕ} {p : Place} where
  -- Before the place, and at it where it is not the token's end, a part begins.
  pub step_begins : Stepping s at p → p.at < at → BeginsAt s p
  step_begins w h = begins w.parts w.left (omega (arith, w.within))

  pub step_there : Stepping s at p → p.at ≡ at → (at ≡ length s → ⊥) → BeginsAt s p
  step_there w h k = begins w.parts w.left (omega (arith, w.within))

  -- After this part.
  pub step_on : {r : Place} → Stepping s at p → p.at < at → Behind s p r → Stepping s at r
  step_on {r} w h b = go w.parts w.left w.same
    where
      go : (ps : List Part) → LeftAt s p ps → SameStep (length s) w.whole.sections at p ps → Stepping s at r
      go [] l e = absurd (let n = left_length l in omega (arith, w.within))
      go (q ∷ qs) l e =
          let n = b q qs l in
          record {
            whole = w.whole;
            within = w.within;
            parts = qs;
            left = n.1;
            same =
                ap (λ (c : Before). step_in (length s) (rows_of (placed c qs)) at) n.0
                ∙ sym (elsewhere (length s) at (part_row (before p) q qs) (rows_of (placed (after (before p) q) qs)) (λ z. omega arith))
                ∙ e;
          }

  -- The place was passed.
  pub step_nowhere : Stepping s at p → at < p.at → Stopped 22 0 ≡ step_at s at
  step_nowhere w h =
      sym (ahead (length s) at (before p) w.parts h (λ z. omega (arith, w.left.front)))
      ∙ w.same
      ∙ sym (step_found s w.whole at)

  -- The end of the token.
  pub step_end : Stepping s at p → p.at ≡ at → at ≡ length s → End ≡ step_at s at
  step_end w h k = go w.parts w.left w.same
    where
      go : (ps : List Part) → LeftAt s p ps → SameStep (length s) w.whole.sections at p ps → End ≡ step_at s at
      go [] l e =
          sym (is_true (eqb at (length s)) End (Stopped 22 0) (eq-eqb at (length s) k)) ∙ e ∙ sym (step_found s w.whole at)
      go (q ∷ qs) l e = absurd (let a = there q qs l in omega (arith, a.ends, a.least))

  -- The row of this part, and the next place.
  pub step_row : {r : Place} {x : Row} → Stepping s at p → p.at ≡ at → (at ≡ length s → ⊥) → Behind s p r → RowAt s p x
      → Record x r.at ≡ step_at s at
  step_row {r} {x} w h k b y = go w.parts w.left w.same
    where
      next : (qs : List Part) → LeftAt s r qs → next_place (length s) (rows_of (placed (before r) qs)) ≡ r.at
      next [] l = let n = left_length l in omega arith
      next (q ∷ qs) l = refl

      go : (ps : List Part) → LeftAt s p ps → SameStep (length s) w.whole.sections at p ps → Record x r.at ≡ step_at s at
      go [] l e = absurd (k (let n = left_length l in omega arith))
      go (q ∷ qs) l e =
          let n = b q qs l in
          let rs : List Row = rows_of (placed (after (before p) q) qs) in
          let place = ap (λ (c : Before). next_place (length s) (rows_of (placed c qs))) n.0 in
          ap₂ Record (y q qs l) (sym (next qs n.1) ∙ place)
          ∙ sym
          (is_true (eqb at p.at) (Record (part_row (before p) q qs) (next_place (length s) rs)) (step_in (length s) rs at)
          (eq-eqb at p.at (sym h)))
          ∙ e
          ∙ sym (step_found s w.whole at)
