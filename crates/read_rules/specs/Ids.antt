-- Internal: the Rule IDs of the rules that came before, as the numbers in the set that the code keeps, and what a rule's
-- reading says of them.
use Rattle.std.specs.Prelude.{◌≡◌, Bool, true, false, ◌&&◌, ◌||◌, List, [], ◌∷◌, ◌++◌, ℕ, ◌+◌, ◌*◌, ◌≤◌, ◌<◌, eqb, length, get_or}
use Rattle.format.specs.Bytes.{All, Bytes, number}
use Rattle.format.specs.Parts.{rule, same_kind}
use Rattle.format.specs.Rules.{Section}
use Rattle.format.specs.Reading.{found, stated, section, as_answer}
use Rattle.format.specs.Answers.{Answer}
use Rattle.read_rule_ids.specs.Keys.{among, Below, Kept}
use Rattle.read_sections.specs.Refusals.{section_rows}

-- the first field of a section's head: the Rule ID, where it is a rule
abbrev pub first_field : Section → List ℕ
first_field s = get_or s.head.fields 0 []

-- the section is a rule
abbrev pub is_rule : Section → Bool
is_rule s = same_kind rule s.head.kind

-- a rule whose Rule ID states this number is among the sections
abbrev pub key_before : ℕ → List Section → Bool
key_before key [] = false
key_before key (s ∷ ss) = (is_rule s && eqb (number (first_field s)) key) || key_before key ss

-- eight bytes, as every Rule ID is
pub record EightBytes (f : List ℕ) : Type 0 where
  pub long : length f ≡ 8
  pub bytes : Bytes f

-- the set holds the Rule IDs of the rules among the sections, which end at place p
pub record Held (before : List Section) (p : ℕ) (ids : List ℕ) : Type 0 where
  pub kept : Kept ids
  pub count : ℕ
  pub few : 20 * count + 8 ≤ p
  pub below : Below (512 + count) ids
  pub eight : All (λ (s : Section). is_rule s ≡ true → EightBytes (first_field s)) before
  pub holds : (key : ℕ) → 0 < key → among key ids ≡ key_before key before

-- The rule with the bytes r at p, with the sections before, is answered by a; where it is found, the set that is left holds its
-- Rule ID too.
pub record RuleAnswered (full x : Bool) (before : List Section) (r : List ℕ) (p : ℕ) (ids : List ℕ) (a : Answer) : Type 0 where
  pub same : a ≡ as_answer section_rows (section full x before p r)
  pub held : (t : Section) → section full x before p r ≡ found t → Held (before ++ t ∷ []) (p + stated r) ids
