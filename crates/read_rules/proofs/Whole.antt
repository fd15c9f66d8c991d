-- A whole rule: its tests, its Rule ID, and what its subsections and its end make of it. Assumes nothing.
use Rattle.std.specs.Prelude.{⊤, Ok, Err}
use mathlib.Core.Path.{◌≡◌, refl, sym, ap, ◌∙◌, subst}
use mathlib.Core.Bool.{Bool, true, false, not, ◌||◌}
use mathlib.Core.List.{List, []}
use Prim.Native.Nat.{ℕ, ◌+◌, ◌≤◌, ◌<◌}
use native.Mathlib.Omega.{arith}
use lib.ListN.{length, get_or, drop, length-drop}
use Rattle.format.specs.Bytes.{Bytes, number, bytes_at}
use Rattle.format.specs.Parts.{Kind, rule}
use Rattle.format.specs.Rules.{Section, has_required}
use Rattle.format.specs.Reading.{id_of, section_kind, Outcome, found, as_answer, stated, part_in, field_checks, kind_before, rule_before, section_checks, after_subsections, section_rest, section}
use Rattle.format.specs.Answers.{Answer, Accepted, Refused}
use Rattle.format.specs.declared.Refusal.{Refusal}
use Rattle.format.proofs.Tests.{found_inj, needed, followed}
use Rattle.read_fields.proofs.Sizes.{bytes_small}
use Rattle.read_rule_ids.specs.Keys.{among, Put}
use Rattle.read_sections.specs.Refusals.{first_refusal, section_rows}
use Rattle.read_sections.proofs.Heads.{section_stops, section_goes}
use Rattle.read_sections.proofs.Laws.{all_hold, at_drop}
use Rattle.read_rules.specs.Loops.{rule_of}
use Rattle.read_rules.specs.Ids.{EightBytes, Held, RuleAnswered}
use Rattle.read_rule_subsections.proofs.Laws.{length_in}
use Rattle.read_rules.proofs.Turns.{rule_start}
use Rattle.read_rules.proofs.Ends.{ends_missing, ends_there}
use Rattle.read_rules.proofs.Ids.{id_some, rule_key, held_put}

-- ---- the Rule ID

-- A rule whose fields pass has a Rule ID whose number is not 0.
pub key_some : {u : ⊤} (r : List ℕ) (p : ℕ) {v : ℕ} → Ok u ≡ first_refusal p (field_checks false rule r) → v ≡ number (bytes_at r 4 8) → 0 < v
key_some r p e l =
    let form = (all_hold p (field_checks false rule r) e).0 in
    omega (arith, id_some (bytes_at r 4 8) form, l)

-- It is eight bytes.
pub eight_bytes : (r : List ℕ) → ((k : ℕ) → get_or r k 0 < 256) → 20 ≤ length r → EightBytes (bytes_at r 4 8)
eight_bytes r small h = record { long = length_in r 4 refl (omega arith); bytes = bytes_small r small 4 8 }

-- So it is of the rule at a place.
pub eight_bytes_at : (s : List ℕ) (p : ℕ) → ((k : ℕ) → get_or s k 0 < 256) → p + 20 ≤ length s → EightBytes (bytes_at (drop p s) 4 8)
eight_bytes_at s p small h =
    record {
      long = length_in (drop p s) 4 refl (omega (arith, length-drop p s));
      bytes = subst Bytes (sym (at_drop s p 4 8)) (bytes_small s small (p + 4) 8);
    }

-- It came before exactly when the set says so.
pub key_told : (r : List ℕ) {p : ℕ} {before : List Section} {old new : List ℕ} {v : ℕ} {seen b : Bool} → Held before p old → Put old v seen new
    → EightBytes (bytes_at r 4 8) → v ≡ number (bytes_at r 4 8) → 0 < v → seen ≡ b → rule_before (part_in rule r) before ≡ b
key_told r {p} {before} {old} {v = v} w put eight same pos e =
    rule_key (part_in rule r) before eight w.eight
    ∙ sym (w.holds (number (bytes_at r 4 8)) (omega arith))
    ∙ ap (λ (k : ℕ). among k old) (sym same)
    ∙ sym put.told
    ∙ e

-- ---- the answer

-- The head of a section that is found is the part that the bytes begin with.
rest_head : (full x : Bool) (k : Kind) (at : ℕ) (r : List ℕ) (t : Section) → section_rest full x k at r ≡ found t → t.head ≡ part_in k r
unfolding section_rest after_subsections
rest_head full x k at r t e =
    let f = followed _ _ t e in
    let m = needed _ _ _ t f.2 in
    let n = needed _ _ _ t m.1 in
    sym (ap (λ (s : Section). s.head) (found_inj n.1))

-- What is refused is not found.
not_found : {A : Type 0} {r : Refusal} (f : A → ℕ) (o : Outcome A) (a : A) → Err r ≡ as_answer f o → o ≡ found a → ⊥
unfolding as_answer
not_found f o a e g = cc (e ∙ ap (as_answer f) g)

module _ (full x : Bool) (before : List Section) (r : List ℕ) (p : ℕ) (four : 4 ≤ length r) (id : id_of r ≡ 0x12) where
  -- A rule that a test refuses is refused with it.
  pub rule_stops : {v : Refusal} {repeated : Bool} (ids : List ℕ) → rule_before (part_in rule r) before ≡ repeated
      → Err v ≡ first_refusal p (section_checks x rule (kind_before rule before) repeated r) → RuleAnswered full x before r p ids (Err v)
  rule_stops ids e f =
      let same = section_stops full x rule before r p four (ap section_kind id) refl e f in
      record { same = same; held = λ t g. absurd (not_found section_rows (section full x before p r) t same g) }

  -- One that none refuses is what its subsections and its end make of it, and its Rule ID is in the set.
  pub rule_goes : {old new : List ℕ} {u : ⊤} {v : ℕ} {seen : Bool} {a : Answer} → Held before p old → Put old v seen new
      → EightBytes (bytes_at r 4 8) → v ≡ number (bytes_at r 4 8) → 20 ≤ stated r
      → rule_before (part_in rule r) before ≡ false
      → Ok u ≡ first_refusal p (section_checks x rule (kind_before rule before) false r)
      → a ≡ as_answer section_rows (section_rest full x rule p r) → RuleAnswered full x before r p new a
  rule_goes {old} {new} {v = v} {seen = seen} w put eight same long e f a =
      let goes = section_goes full x rule before r p four (ap section_kind id) refl e f in
      record {
        same = a ∙ sym (ap (as_answer section_rows) goes);
        held = λ t g.
            let head : t.head ≡ part_in rule r = rest_head full x rule p r t (sym goes ∙ g) in
            held_put {seen = seen} t w (rw (head, sym same) put) (omega arith) (rw head) (rw head eight);
      }

-- ---- a rule without subsections

module _ (full x : Bool) (r : List ℕ) (p : ℕ) (l : 20 ≡ stated r) where
  -- It is accepted, with its own row.
  pub bare_there : (not full || has_required (rule_of r [])) ≡ true
      → Accepted 1 ≡ as_answer section_rows (section_rest full x rule p r)
  unfolding rule_start
  bare_there b = ends_there full x (rule_start r p 20 (omega arith)) (omega arith) l refl b

  -- It is refused with 20 where it requires a 0003.
  pub bare_missing : (not full || has_required (rule_of r [])) ≡ false
      → Refused 20 p ≡ as_answer section_rows (section_rest full x rule p r)
  unfolding rule_start
  bare_missing b = ends_missing full x (rule_start r p 20 (omega arith)) (omega arith) l refl b
