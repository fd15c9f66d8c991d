-- Internal: what going over the parts of an accepted token starts from and keeps.
use Rattle.std.specs.Prelude.{◌≡◌, true, List, ◌∷◌, map, ℕ, ◌-◌, ◌≤◌, length}
use Rattle.std.proofs.Math.ListN.{get_elem?}
use Rattle.format.specs.Bytes.{Bytes}
use Rattle.format.specs.Parts.{Part}
use Rattle.format.specs.Rules.{Section}
use Rattle.format.specs.Reading.{found, reading, parts_of}
use Rattle.format.specs.Table.{Before, after_header, part_row, after, placed, rows}
use Rattle.format.specs.Views.{step_in}
use Rattle.format.specs.declared.Row.{Row}
use Rattle.read_rows.specs.Places.{Left, Begins}
use Rattle.view_rows.specs.declared.Place.{Place}

-- the token is accepted
pub record Whole (s : List ℕ) : Type 0 where
  pub sections : List Section
  pub bytes : Bytes s
  pub read : reading true s ≡ found sections

-- where a part at the place stands
abbrev pub before : Place → Before
before p = record { place = p.at; rows = p.row; section = p.owner; rules = p.rules }

-- the parts from the place on
abbrev pub LeftAt : List ℕ → Place → List Part → Type 0
LeftAt s p ps = Left s (before p) p.end p.id ps

-- a part begins at the place
abbrev pub BeginsAt : List ℕ → Place → Type 0
BeginsAt s p = Begins s (before p) p.end p.id

-- the first place
abbrev pub Starts : Place → Type 0
Starts p = (before p ≡ after_header) × (p.end ≡ 8) × (p.id ≡ 0)

-- the row of the part at the place
abbrev pub RowAt : List ℕ → Place → Row → Type 0
RowAt s p r = (q : Part) (qs : List Part) → LeftAt s p (q ∷ qs) → r ≡ part_row (before p) q qs

-- the place after the part at the place
abbrev pub Behind : List ℕ → Place → Place → Type 0
Behind s p r = (q : Part) (qs : List Part) → LeftAt s p (q ∷ qs) → (before r ≡ after (before p) q) × LeftAt s r qs

-- of these parts from the place on the row that is looked for is as far behind as it is of all the sections'
abbrev pub SameRow : List Section → ℕ → Place → List Part → Type 0
SameRow ss row p ps = get_elem? (placed (before p) ps) (row - p.row) ≡ get_elem? (placed after_header (parts_of ss)) row

-- the row that is looked for is not before the place
pub record Seeking (s : List ℕ) (row : ℕ) (p : Place) : Type 0 where
  pub whole : Whole s
  pub ahead : p.row ≤ row
  pub parts : List Part
  pub left : LeftAt s p parts
  pub same : SameRow whole.sections row p parts

-- a step among the rows of these parts from the place on is the step among those of the sections
abbrev pub SameStep : ℕ → List Section → ℕ → Place → List Part → Type 0
SameStep e ss at p ps = step_in e (map (λ x. x.row) (placed (before p) ps)) at ≡ step_in e (rows (parts_of ss)) at

-- the step within the token is one among the rows from the place on
pub record Stepping (s : List ℕ) (at : ℕ) (p : Place) : Type 0 where
  pub whole : Whole s
  pub within : at ≤ length s
  pub parts : List Part
  pub left : LeftAt s p parts
  pub same : SameStep (length s) whole.sections at p parts
