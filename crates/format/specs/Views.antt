-- Views of single fields, and the walk over the rows. Here an illegal token refuses first, with its own number.
-- Beside 01: "Table, views, walk" and 22.
use Rattle.std.specs.Prelude.{true, false, List, [], ◌∷◌, ℕ, ◌+◌, eqb, length, drop, Ok, Err, Some, None}
use Rattle.std.proofs.Math.Option.{none, some}
use Rattle.std.proofs.Math.ListN.{get_elem?}
use Rattle.format.specs.Bytes.{bytes_at}
use Rattle.format.specs.Slots.{slots}
use Rattle.format.specs.Parts.{Part, layout}
use Rattle.format.specs.Reading.{refused, found, reading, parts_of}
use Rattle.format.specs.Table.{after_header, placed, rows}
use Rattle.format.specs.Answers.{Answer, Accepted, Refused, Where, At, Missing, Step, Record, End, Stopped}
use Rattle.format.specs.declared.Row.{Row}

-- ---- views

-- where field number `field` of the part p lies, p beginning at place `at` of the token; 22 where p has no such field
abbrev pub slot_of : List ℕ → ℕ → Part → ℕ → Where
slot_of bs at p field =
    elim (get_elem? (slots [] (layout p.kind) (drop at bs) 0) field) [
      | none ↦ Missing 22 0
      | some s ↦ At (at + s.offset) s.width
    ]

-- where the field of a row lies; 22 where there is no such row or field
unfoldable pub field_at : List ℕ → ℕ → ℕ → Where
field_at bs row field =
    elim (reading true bs) [
      | refused f ↦ Missing f.number f.place
      | found ss ↦
          elim (get_elem? (placed after_header (parts_of ss)) row) [
            | none ↦ Missing 22 0
            | some x ↦ slot_of bs x.row.offset x.part field
          ]
    ]

-- the bytes that lie there, none on refusal
abbrev pub bytes_there : List ℕ → Where → List ℕ
bytes_there bs (Ok w) = bytes_at bs w.offset w.length
bytes_there bs (Err r) = []

-- the view: the part of the bytes that the field occupies
unfoldable pub view : List ℕ → ℕ → ℕ → List ℕ
view bs row field = bytes_there bs (field_at bs row field)

-- 0, or the refusal
abbrev pub whether_there : Where → Answer
whether_there (Ok w) = Accepted 0
whether_there (Err r) = Refused r.number r.place

-- the view's partner question
unfoldable pub view_answer : List ℕ → ℕ → ℕ → Answer
view_answer bs row field = whether_there (field_at bs row field)

-- ---- the walk

-- the place of the first of these rows, or the end of the token
abbrev pub next_place : ℕ → List Row → ℕ
next_place e [] = e
next_place e (r ∷ rs) = r.offset

-- the row that begins at this place, with the next row's; the end at the token's length; 22 at any other place
abbrev pub step_in : ℕ → List Row → ℕ → Step
step_in e [] at = elim (eqb at e) [ true ↦ End | false ↦ Stopped 22 0 ]
step_in e (r ∷ rs) at = elim (eqb at r.offset) [ true ↦ Record r (next_place e rs) | false ↦ step_in e rs at ]

-- the step of the walk at a place
unfoldable pub step_at : List ℕ → ℕ → Step
step_at bs at =
    elim (reading true bs) [
      | refused f ↦ Stopped f.number f.place
      | found ss ↦ step_in (length bs) (rows (parts_of ss)) at
    ]

-- the place that the reader of held bytes goes to after a step: the next row's, and at the end or a refusal its own
abbrev pub place_after : ℕ → Step → ℕ
place_after at (Ok (Some s)) = s.next
place_after at (Ok None) = at
place_after at (Err r) = at
