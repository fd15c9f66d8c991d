-- Internal: going over the parts of an accepted token, what is known at each place, and what a section's id tells.
use Rattle.std.specs.Prelude.{◌≡◌, true, false, List, [], ◌∷◌, ℕ, ◌+◌, ◌<◌, ◌≤◌, eqb, length, drop}
use Rattle.format.specs.Bytes.{All}
use Rattle.format.specs.Layout.{fits}
use Rattle.format.specs.Parts.{Part, layout, joins, write_parts, subsections_length}
use Rattle.format.specs.Rules.{longest}
use Rattle.format.specs.Table.{Before}

-- the bytes of a section's own fields, where it states that length
unfoldable pub own_length : ℕ → ℕ → ℕ
own_length i n = elim (eqb i 0x12) [ true ↦ 20 | false ↦ elim (eqb i 0x14) [ true ↦ 10 | false ↦ n ] ]

-- the rules up to a section with this id, n being those before it
unfoldable pub rules_with : ℕ → ℕ → ℕ
rules_with i n = elim (eqb i 0x12) [ true ↦ n + 1 | false ↦ n ]

-- the number of the rule that a section with this id is, n being the rules up to it; 0 for another section
unfoldable pub rule_in : ℕ → ℕ → ℕ
rule_in i n = elim (eqb i 0x12) [ true ↦ n | false ↦ 0 ]

-- The parts from a place on. The section before it has the id i and ends at e.
pub record Left (s : List ℕ) (b : Before) (e i : ℕ) (ps : List Part) : Type 0 where
  pub front : b.place ≤ length s
  pub short : length s ≤ longest
  pub bytes : drop b.place s ≡ write_parts ps
  pub ends : b.place + subsections_length ps ≡ e
  pub owned : joins i ps ≡ true
  pub byte : i < 256
  pub owners : b.section ≤ b.rows
  pub few : b.rows ≤ b.place
  pub ruled : b.rules ≤ b.rows
  pub fit : All (λ (q : Part). fits [] (layout q.kind) q.fields ≡ true) ps

-- a part begins there
pub record Begins (s : List ℕ) (b : Before) (e i : ℕ) : Type 0 where
  pub part : Part
  pub behind : List Part
  pub left : Left s b e i (part ∷ behind)
