-- Internal: what the loop over the subsections of a rule has read so far. The code keeps the offset of each tag that stands in
-- a list of six, at the tag's own index.
use Rattle.std.specs.Prelude.{◌≡◌, Bool, List, [], ◌∷◌, ℕ, suc, ◌+◌, ◌-◌, ◌≤◌, Option, Some, None, is_some, IfSome, unwrap_or, length, get_or, drop}
use Rattle.std.proofs.Math.Option.{some}
use Rattle.format.specs.Parts.{Kind, rule, tag, Part}
use Rattle.format.specs.Reading.{subsection_kind, made_length, part_in, place_of}
use Rattle.format.specs.Rules.{Section, has, of_kind}
use Rattle.format.proofs.Turns.{subsections_from}

-- the offset in its section at which a part stands, if it does
abbrev pub Place : Type 0
Place = Option ℕ

-- the kind is a subsection of a rule
abbrev pub OfRule : Kind → Type 0
OfRule k = subsection_kind rule (tag k) ≡ some k

-- the rule at the front of r, with these subsections
abbrev pub rule_of : List ℕ → List Part → Section
rule_of r us = record { head = part_in rule r; subs = us }

-- the places say which tags stand among the parts
abbrev pub Marked : List Part → List Place → Type 0
Marked before places = (k : Kind) → OfRule k → has k before ≡ is_some (get_or places (tag k) None)

-- the part of kind k at the place, if there is one
abbrev pub standing : List ℕ → Kind → Place → List Part
standing s k None = []
standing s k (Some i) = part_in k (drop i s) ∷ []

-- it lies within the bytes
abbrev pub Within : List ℕ → Kind → Place → Type 0
Within s k place = IfSome place (λ i. i + made_length k (drop i s) ≤ length s)

-- the parts from the first on, up to offset q of the rule at a place, have kind k at most once, at this offset
pub record Once (r : List ℕ) (at q : ℕ) (done : List Part) (k : Kind) (offset : Place) : Type 0 where
  pub parts : of_kind k done ≡ standing r k offset
  pub stands : place_of k (at + 20) done ≡ at + unwrap_or offset q
  pub within : Within r k offset

-- Of the rule with the bytes r, at a place and of length e, the subsections up to offset q are read: n rows with the rule's own.
-- What is read from here is what is read from the first one on.
pub record RuleRead (r : List ℕ) (at e q n : ℕ) (places : List Place) : Type 0 where
  pub done : List Part
  pub six : length places ≡ 0x0006
  pub once : (k : Kind) → OfRule k → Once r at q done k (get_or places (tag k) None)
  pub rows : n ≡ suc (length done)
  pub few : n + 19 ≤ q
  pub ends : q ≤ e
  pub same : (x : Bool) → subsections_from x rule done (at + q) (e - q) (drop q r) ≡ subsections_from x rule [] (at + 20) (e - 20) (drop 20 r)
