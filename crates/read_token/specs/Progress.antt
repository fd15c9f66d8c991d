-- Internal: what the loops over sections have read so far.
use Rattle.std.specs.Prelude.{◌≡◌, Bool, true, false, List, [], ◌∷◌, ◌++◌, ℕ, ◌+◌, ◌*◌, ◌<◌, ◌≤◌, length, get_or, drop, Result, Ok, Err}
use Rattle.std.proofs.Math.Option.{some}
use Rattle.format.specs.Slots.{least}
use Rattle.format.specs.Forms.{rule_id_form}
use Rattle.format.specs.Parts.{Kind, rule, is_subsection, section_id, same_kind, layout}
use Rattle.format.specs.Reading.{section_kind, id_of, stated, part_in, kind_before, row_count, as_answer}
use Rattle.format.specs.Rules.{longest, Section}
use Rattle.format.proofs.Turns.{sections_from}
use Rattle.format.specs.Answers.{Answer}
use Rattle.format.specs.declared.Refusal.{Refusal}
use Rattle.read_sections.specs.Refusals.{section_rows}
use Rattle.read_rules.specs.Ids.{first_field, is_rule, Held}
use Rattle.read_token.specs.declared.runs.Run.{Run}

-- the section begins the bytes r
pub record Stands (r : List ℕ) (c : Section) : Type 0 where
  pub kind : section_kind (id_of r) ≡ some c.head.kind
  pub head : c.head ≡ part_in c.head.kind r
  pub least : least (layout c.head.kind) ≤ stated r
  pub four : 4 ≤ stated r
  pub ends : stated r ≤ length r
  pub few : section_rows c ≤ 2 * stated r
  pub rule_id : is_rule c ≡ true → rule_id_form (first_field c) ≡ true

-- the sections stand one after another from q to p
abbrev pub Ahead : List ℕ → ℕ → List Section → ℕ → Type 0
Ahead s q [] p = q ≡ p
Ahead s q (c ∷ cs) p = Stands (drop q s) c × Ahead s (q + stated (drop q s)) cs p

-- the list says, at the ids of the four kinds that stand once, which kinds stand among the sections
abbrev pub Marked : List Bool → List Section → Type 0
Marked seen before = (k : Kind) → is_subsection k ≡ false → same_kind rule k ≡ false → kind_before k before ≡ get_or seen (section_id k) false

-- The sections of s up to p are read, n rows, with the kinds seen. What is read from here is what is read from place 8 on.
pub record SectionsRead (s : List ℕ) (full x : Bool) (p n : ℕ) (seen : List Bool) : Type 0 where
  pub before : List Section
  pub ahead : Ahead s 8 before p
  pub front : 8 ≤ p
  pub ends : p ≤ length s
  pub rows : n ≡ row_count before
  pub few : n ≤ 2 * p
  pub marked : Marked seen before
  pub same : sections_from full x before p (drop p s) ≡ sections_from full x [] 8 (drop 8 s)

-- the answer of reading the sections of s
abbrev pub sections_answer : List ℕ → Bool → Bool → Answer
sections_answer s full x = as_answer row_count (sections_from full x [] 8 (drop 8 s))

-- the same for some kind of token and some marks
abbrev pub SomeRead : List ℕ → Bool → ℕ → ℕ → Type 0
SomeRead s full p n = (x : Bool) × ((seen : List Bool) × SectionsRead s full x p n seen)

-- a run of rules from p on: it ends after p with the rows so far, or its refusal is the answer
abbrev pub Ran : List ℕ → Bool → Bool → List Bool → ℕ → Result Run Refusal → Type 0
Ran s full x seen p (Ok run) = SectionsRead s full x run.end run.rows seen × (p < run.end)
Ran s full x seen p (Err r) = Err r ≡ sections_answer s full x

-- ---- the Rule IDs before a run

-- some section begins at q, and the set holds the Rule IDs of those before it
pub record Noting (s : List ℕ) (q : ℕ) (ids : List ℕ) : Type 0 where
  pub before : List Section
  pub section : Section
  pub stands : Stands (drop q s) section
  pub inside : q + stated (drop q s) ≤ length s
  pub short : length s ≤ longest
  pub held : Held before q ids

-- of the sections before p, those up to q are noted
pub record Noted (s : List ℕ) (before : List Section) (p q : ℕ) (ids : List ℕ) : Type 0 where
  pub done : List Section
  pub rest : List Section
  pub whole : before ≡ done ++ rest
  pub ahead : Ahead s q rest p
  pub held : Held done q ids

-- ---- a run

-- the sections up to p are read, and the set holds their Rule IDs
pub record Running (s : List ℕ) (full x : Bool) (seen : List Bool) (p n : ℕ) (ids : List ℕ) : Type 0 where
  pub read : SectionsRead s full x p n seen
  pub held : Held read.before p ids
