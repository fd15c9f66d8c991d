-- The table of an accepted token: a row for each section and subsection, once, in order.
-- Beside 01: "Table, views, walk" and 23. Beside 02: 108.
use Rattle.std.specs.Prelude.{Bool, true, false, List, [], ◌∷◌, ◌++◌, map, ℕ, suc, ◌+◌, ◌*◌, eqb, leb, length, drop}
use Rattle.format.specs.Parts.{rule, section_id, is_subsection, kind_number, same_kind, Part, size, span}
use Rattle.format.specs.Rules.{Section}
use Rattle.format.specs.Reading.{Outcome, refused, found, fault, need, and_then, reading, parts_of, row_count, as_answer}
use Rattle.format.specs.Answers.{Answer}
use Rattle.format.specs.declared.Row.{Row}

-- a row with the part that it stands for
pub record Placed : Type 0 where
  pub row : Row
  pub part : Part

-- where a part stands: its place, and of what comes before it how many rows, the row of the last section, how many rules
pub record Before : Type 0 where
  pub place : ℕ
  pub rows : ℕ
  pub section : ℕ
  pub rules : ℕ

-- a token's first part stands after the header
abbrev pub after_header : Before
after_header = record { place = 8; rows = 0; section = 0; rules = 0 }

-- the row of the section that the part belongs to, its own for a section
abbrev pub owner_of : Before → Part → ℕ
owner_of b p = elim (is_subsection p.kind) [ true ↦ b.section | false ↦ b.rows ]

-- the rules up to the part, itself among them
abbrev pub rules_to : Before → Part → ℕ
rules_to b p = elim (same_kind rule p.kind) [ true ↦ suc b.rules | false ↦ b.rules ]

-- for a rule and its subsections the rule's place among the rules, from 1; elsewhere 0
abbrev pub rule_of : Before → Part → ℕ
rule_of b p = elim (eqb (section_id p.kind) (section_id rule)) [ true ↦ rules_to b p | false ↦ 0 ]

-- the row of the part, the parts after it given
abbrev pub part_row : Before → Part → List Part → Row
part_row b p ps = record {
  kind = kind_number p.kind;
  offset = b.place;
  length = span p ps;
  owner = owner_of b p;
  rule = rule_of b p;
}

-- where the next part stands
abbrev pub after : Before → Part → Before
after b p = record { place = b.place + size p; rows = suc b.rows; section = owner_of b p; rules = rules_to b p }

-- the rows of parts, the first of which stands there
abbrev pub placed : Before → List Part → List Placed
placed b [] = []
placed b (p ∷ ps) = record { row = part_row b p ps; part = p } ∷ placed (after b p) ps

-- the rows of a token's parts
abbrev pub rows : List Part → List Row
rows ps = map (λ x. x.row) (placed after_header ps)

-- the numbers of a row in the table's columns
abbrev pub row_numbers : Row → List ℕ
row_numbers r = r.kind ∷ r.offset ∷ r.length ∷ r.owner ∷ r.rule ∷ []

-- a row of zeros, where there is none
abbrev pub no_row : Row
no_row = record { kind = 0; offset = 0; length = 0; owner = 0; rule = 0 }

-- how many numbers a row has
abbrev pub columns : ℕ
columns = length (row_numbers no_row)

-- the rows laid end to end
abbrev pub table_of : List Row → List ℕ
table_of [] = []
table_of (r ∷ rs) = row_numbers r ++ table_of rs

-- the rows have room in a lent table
abbrev pub room_for : List Part → List ℕ → Bool
room_for ps t = leb (columns * length ps) (length t)

-- reading into a lent table: the reading's own refusal; 23 with the rows needed where they have no room; else what was read
unfoldable pub table_reading : List ℕ → List ℕ → Outcome (List Section)
table_reading bs t =
    and_then (reading true bs) (λ ss. need (room_for (parts_of ss) t) (fault 23 (row_count ss) (row_count ss)) (found ss))

-- its answer
unfoldable pub table_answer : List ℕ → List ℕ → Answer
table_answer bs t = as_answer row_count (table_reading bs t)

-- what the lent table then holds: the rows and after them what it held, or on refusal what it held
unfoldable pub table_after : List ℕ → List ℕ → List ℕ
table_after bs t =
    elim (table_reading bs t) [
      | refused f ↦ t
      | found ss ↦ table_of (rows (parts_of ss)) ++ drop (columns * row_count ss) t
    ]
