-- Looking for a row: what is looked for among the rows from a place on is what was looked for at first.
use mathlib.Core.Path.{◌≡◌, sym, ap, ap₂, ◌∙◌}
use mathlib.Core.List.{List, [], ◌∷◌}
use mathlib.Core.Option.{Option, none, some}
use Prim.Native.Nat.{ℕ, suc, ◌-◌, ◌<◌, ◌≤◌}
use native.Mathlib.Omega.{arith}
use lib.ListN.{length, get_elem?}
use Rattle.format.specs.Parts.{Part}
use Rattle.format.specs.Reading.{parts_of}
use Rattle.format.specs.Table.{Placed, Before, after_header, part_row, after, placed}
use Rattle.format.specs.Views.{slot_of, field_at}
use Rattle.format.specs.declared.Row.{Row}
use Rattle.format.specs.Answers.{Where, Missing}
use Rattle.view_layouts.specs.Widths.{Standing, InSlot}
use Rattle.view_layouts.proofs.Turns.{next_element}
use Rattle.read_rows.proofs.Places.{left_length, begins, there}
use Rattle.view_rows.specs.Walk.{Whole, before, LeftAt, BeginsAt, Starts, RowAt, Behind, SameRow, Seeking}
use Rattle.view_rows.proofs.Places.{starts, standing}
use Rattle.view_rows.specs.declared.Place.{Place}

-- ---- the row that is looked for

-- Where a field lies of a row that may be there.
abbrev of_row : List ℕ → ℕ → Option Placed → Where
of_row s field o = elim o as (λ y. Where) [ none ↦ Missing 22 0 | some x ↦ slot_of s x.row.offset x.part field ]

field_found : (s : List ℕ) (w : Whole s) (row field : ℕ)
    → field_at s row field ≡ of_row s field (get_elem? (placed after_header (parts_of w.sections)) row)
unfolding field_at
field_found s w row field = rw (w.read, field_at)

pub seeks : {s : List ℕ} {p : Place} {row : ℕ} → Whole s → Starts p → Seeking s row p
seeks {s} {p} {row} w e =
    let n : p.row ≡ 0 = ap (λ (b : Before). b.rows) e.0 in
    let m : row - p.row ≡ row = omega arith in
    record {
      whole = w;
      ahead = omega arith;
      parts = parts_of w.sections;
      left = starts w e;
      same = ap₂ (λ (b : Before) (j : ℕ). get_elem? (placed b (parts_of w.sections)) j) e.0 m;
    }

module _ {s : List ℕ} {row : ℕ} {p : Place} where
  pub seek_begins : Seeking s row p → p.at < length s → BeginsAt s p
  seek_begins w h = begins w.parts w.left h

  -- It stands after this part.
  pub seek_on : {r : Place} → Seeking s row p → p.at < length s → (p.row ≡ row → ⊥) → Behind s p r → Seeking s row r
  seek_on {r} w h k b = go w.parts w.left w.same
    where
      go : (ps : List Part) → LeftAt s p ps → SameRow w.whole.sections row p ps → Seeking s row r
      go [] l e = absurd (let n = left_length l in omega arith)
      go (q ∷ qs) l e =
          let n = b q qs l in
          let m : r.row ≡ suc p.row = ap (λ (c : Before). c.rows) n.0 in
          let a : p.row ≤ row = w.ahead in
          let j : row - r.row ≡ (row - p.row) - 1 = omega arith in
          record {
            whole = w.whole;
            ahead = omega arith;
            parts = qs;
            left = n.1;
            same =
                ap₂ (λ (c : Before) (i : ℕ). get_elem? (placed c qs) i) n.0 j
                ∙ next_element (record { row = part_row (before p) q qs; part = q }) (placed (after (before p) q) qs) (row - p.row) (λ z. k (omega arith)) e;
          }

  -- It is the row of this part.
  pub seek_stands : {x : Row} → Seeking s row p → p.at < length s → RowAt s p x → Standing s p.at x.kind
  seek_stands {x} w h e =
      let y = seek_begins w h in
      standing y.part y.behind y.left (ap (λ (r : Row). r.kind) (e y.part y.behind y.left))

  pub seek_found : {x : Row} {field : ℕ} {v : Where} → Seeking s row p → p.at < length s → p.row ≡ row → RowAt s p x
      → InSlot s p.at x.kind field v → v ≡ field_at s row field
  seek_found {x} {field} {v} w h k e b = go w.parts w.left w.same
    where
      go : (ps : List Part) → LeftAt s p ps → SameRow w.whole.sections row p ps → v ≡ field_at s row field
      go [] l f = absurd (let n = left_length l in omega arith)
      go (q ∷ qs) l f =
          b q (ap (λ (r : Row). r.kind) (e q qs l))
          ∙ ap (of_row s field) (ap (get_elem? (placed (before p) (q ∷ qs))) (let z : 0 ≡ row - p.row = omega arith in z) ∙ f)
          ∙ sym (field_found s w.whole row field)

  -- It is not there.
  pub seek_none : (field : ℕ) → Seeking s row p → length s ≤ p.at → Missing 22 0 ≡ field_at s row field
  seek_none field w h = go w.parts w.left w.same
    where
      go : (ps : List Part) → LeftAt s p ps → SameRow w.whole.sections row p ps → Missing 22 0 ≡ field_at s row field
      go [] l f = ap (of_row s field) f ∙ sym (field_found s w.whole row field)
      go (q ∷ qs) l f = absurd (let a = there q qs l in omega (arith, a.ends, a.least))
