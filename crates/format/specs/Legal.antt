-- The legal tokens: the written forms of the choices that keep every rule.
-- Beside 01: "Rules beyond the layout".
use Rattle.std.specs.Prelude.{◌≡◌, Bool, true, List, [], ◌∷◌, ◌++◌, ℕ, ◌+◌, ◌≤◌, length}
use Rattle.format.specs.Bytes.{All, how_many}
use Rattle.format.specs.Parts.{rule, information, external, known_id, same_kind, Part, WrittenForm}
use Rattle.format.specs.Rules.{longest, Check, checks, Section, sections_of, may_both_stand, other_kind, mask_covers, has, has_required}

-- any two elements of the list, the earlier first, pass the test
abbrev pub Pairwise : {A : Type 0} → (A → A → Bool) → List A → Type 0
Pairwise f [] = Unit {0}
Pairwise f (x ∷ xs) = All (λ y. f x y ≡ true) xs × Pairwise f xs

-- the choice keeps the rules on fields and between parts, but those of refusal 20; the 80 to 3,500 bytes stand in `Legal`
pub record Lawful (i : ℕ) (ps : List Part) : Type 0 where
  pub identifier : known_id i ≡ true  -- 1E or 1F
  -- every check of every part
  pub fields : All (λ (p : Part). All (λ (c : Check). c.holds ≡ true) (checks (external i) p.kind p.fields)) ps
  pub sections : Pairwise may_both_stand (sections_of ps)  -- only 12 repeats, with other Rule IDs
  pub tags : All (λ (s : Section). Pairwise other_kind s.subs) (sections_of ps)  -- each tag at most once in its section
  pub masks : All (λ (s : Section). mask_covers s.subs ≡ true) (sections_of ps)  -- 0005 against 0003

-- the parts that are required are there: the rules of refusal 20
pub record Complete (ps : List Part) : Type 0 where
  pub section14 : has information ps ≡ true
  pub within : All (λ (s : Section). has_required s ≡ true) (sections_of ps)

-- 01's legal token, with the choice whose written form it is
pub record Legal (bs : List ℕ) : Type 0 where
  pub id : ℕ
  pub parts : List Part
  pub form : WrittenForm id parts bs
  pub at_least : 80 ≤ length bs
  pub at_most : length bs ≤ longest
  pub lawful : Lawful id parts
  pub complete : Complete parts

-- the count of rules: how many sections 12
abbrev pub rule_count : List Part → ℕ
rule_count ps = how_many (λ (p : Part). same_kind rule p.kind) ps

-- the count of rules of a list of legal tokens: the sum over its tokens
abbrev pub rules_of_all : (ts : List (List ℕ)) → All Legal ts → ℕ
rules_of_all [] ls = 0
rules_of_all (t ∷ ts) ls = rule_count ls.0.parts + rules_of_all ts ls.1

-- the tokens laid end to end
abbrev pub joined : List (List ℕ) → List ℕ
joined [] = []
joined (t ∷ ts) = t ++ joined ts
