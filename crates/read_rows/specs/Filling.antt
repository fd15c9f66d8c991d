-- Internal: what the second pass starts from, keeps and ends with.
use Rattle.std.specs.Prelude.{◌≡◌, Bool, true, ◌&&◌, List, map, ℕ, ◌+◌, ◌*◌, ◌≤◌, eqb, length}
use Rattle.std.proofs.lemmas.List.Edits.{sets}
use Rattle.format.specs.Bytes.{Bytes}
use Rattle.format.specs.Parts.{Part}
use Rattle.format.specs.Rules.{Section}
use Rattle.format.specs.Reading.{found, reading, parts_of, row_count}
use Rattle.format.specs.Table.{Before, placed, rows, columns, table_of}
use Rattle.format.specs.declared.Row.{Row}
use Rattle.read_rows.specs.Places.{rule_in, Left}

-- the token is accepted and its rows have room
pub record Fillable (s t : List ℕ) : Type 0 where
  pub sections : List Section
  pub bytes : Bytes s
  pub read : reading true s ≡ found sections
  pub room : columns * row_count sections ≤ length t

-- the table then holds the rows, and after them what it held
abbrev pub IsFilled : List ℕ → List ℕ → List ℕ → Type 0
IsFilled s t u = (ss : List Section) → reading true s ≡ found ss → u ≡ sets t 0 (table_of (rows (parts_of ss)))

-- The rows before a place are stored. Those of the parts from there on make the whole table of what it held at first, t₀.
pub record Rest (s t₀ t : List ℕ) (b : Before) (ps : List Part) : Type 0 where
  pub sections : List Section
  pub read : reading true s ≡ found sections
  pub long : length t ≡ length t₀
  pub room : columns * (b.rows + length ps) ≤ length t₀
  pub stored : sets t (columns * b.rows) (table_of (map (λ x. x.row) (placed b ps))) ≡ sets t₀ 0 (table_of (rows (parts_of sections)))

-- the same for the parts that are left
pub record Filling (s t₀ t : List ℕ) (b : Before) (e i : ℕ) : Type 0 where
  pub parts : List Part
  pub left : Left s b e i parts
  pub rest : Rest s t₀ t b parts

-- where a part stands
abbrev pub standing : ℕ → ℕ → ℕ → ℕ → Before
standing p n owner rules = record { place = p; rows = n; section = owner; rules = rules }

-- the rows before a section at p are stored, n of them
pub record Sections (s t₀ t : List ℕ) (p rules n : ℕ) : Type 0 where
  pub owner : ℕ
  pub id : ℕ
  pub filling : Filling s t₀ t (standing p n owner rules) p id

-- where the section in this row ends
abbrev pub end_in : Row → ℕ
end_in r = r.offset + r.length

-- the rows before a subsection at p are stored, n of them; its section is in this row, has the id i, and the rules up to it are given
pub record InSection (s t₀ t : List ℕ) (n p : ℕ) (r : Row) (rules i : ℕ) : Type 0 where
  pub filling : Filling s t₀ t (standing p n r.owner rules) (end_in r) i
  pub kinds : r.kind ≡ i * 65536
  pub number : r.rule ≡ rule_in i rules

-- this is so for some table at first, some id and some rules
pub record Subsections (s t : List ℕ) (n p : ℕ) (r : Row) : Type 0 where
  pub first : List ℕ
  pub rules : ℕ
  pub id : ℕ
  pub within : InSection s first t n p r rules id

-- the rows of the subsections from p to the section's end are stored too, and there are n
abbrev pub SubsectionsFilled : List ℕ → List ℕ → List ℕ → ℕ → Row → ℕ → Type 0
SubsectionsFilled s t u p r n =
    (t₀ : List ℕ) (rules i : ℕ) → InSection s t₀ t (r.owner + 1) p r rules i → Filling s t₀ u (standing (end_in r) n r.owner rules) (end_in r) i

-- a rule that states only its own fields
unfoldable pub bare_rule : ℕ → ℕ → Bool
bare_rule i n = eqb i 0x12 && eqb n 20
