-- A rule: its head, its fields, its Rule ID, then its subsections and its end.
use mathlib.Core.List.{List, []}
use mathlib.Core.Bool.{Bool, true, false}
use mathlib.Core.Path.{◌≡◌, refl, sym, ◌∙◌, ap, subst}
use Prim.Native.Nat.{ℕ, ◌<◌, ◌≤◌}
use native.Mathlib.Omega.{arith}
use lib.ListN.{length, drop}
use Rattle.std.specs.Prelude.{⊤, Ok, Err}
use Rattle.format.specs.Bytes.{bytes_at}
use Rattle.format.specs.Parts.{rule}
use Rattle.format.specs.Rules.{Section}
use Rattle.format.specs.Reading.{as_answer, stated, part_in, rule_before, Test, field_checks, section_checks, section_rest}
use Rattle.format.specs.Answers.{Answer}
use Rattle.format.specs.declared.Refusal.{Refusal}
use Rattle.format.proofs.Answers.{passed_up}
use Rattle.read_sections.specs.Refusals.{first_refusal, section_rows, head_checks}
use Rattle.read_sections.proofs.Laws.{Left, passed, failed, none_left, section_head_is, made, head_room}
use Rattle.read_rules.specs.Ids.{EightBytes, Held, RuleAnswered}
use Rattle.read_sections.proofs.Subs.{at_start}
use Rattle.read_rules.proofs.Whole.{key_some, eight_bytes, key_told, rule_stops, rule_goes, bare_there, bare_missing}
use Rattle.read_rules.proofs.rule_at.Goals as goal
use Rattle.read_rules.proofs.rule_at.Goals.{After-put, Else-put}

-- the tests of the rule, its subsections apart; seen and repeated as the definition has them
abbrev Tests : List ℕ → Bool → Bool → Bool → List Test
Tests s x seen repeated = section_checks x rule seen repeated s

-- the first k of them have passed
abbrev Past : ℕ → ℕ → List ℕ → Type 0
Past k p s = (x seen repeated : Bool) → Left p (Tests s x seen repeated) (drop k (Tests s x seen repeated))

head_past : {u : ⊤} (p : ℕ) (s : List ℕ) → Ok u ≡ first_refusal p (head_checks 20 false s) → Past 4 p s
head_past p s e x seen repeated = passed ((section_head_is 20 false _ _).left e) refl

-- and its fields
fields_past : {u : ⊤} (p : ℕ) (s : List ℕ) → Past 4 p s → ((x : Bool) → Ok u ≡ first_refusal p (field_checks x rule s)) → Past 10 p s
fields_past p s l e x seen repeated = (made (field_checks x rule s) _ (l x seen repeated)).left (e x)

-- its head has passed: the rule is there
room : {u : ⊤} (p : ℕ) (s : List ℕ) → Ok u ≡ first_refusal p (head_checks 20 false s) → (20 ≤ stated s) × (stated s ≤ length s)
room p s e = head_room p 20 false s e

-- its Rule ID as the set has it
key : (c : After-put) → EightBytes (bytes_at c.args.part.bytes.now 4 8) × (0 < c.eight.result)
key c =
    let r = room c.args.part.place _ c.in_ok-section_head.ensures in
    (eight_bytes _ c.args.part.small (omega (arith, r)), key_some _ c.args.part.place (c.in_ok-rule_fields.ensures false) c.eight.ensures)

-- what is left of it is its subsections and its end
goes : (c : Else-put) {a : Answer} (x : Bool) (before : List Section) → EightBytes (bytes_at c.args.part.bytes.now 4 8) × (0 < c.eight.result)
    → Held before c.args.part.place c.args.ids.now → a ≡ as_answer section_rows (section_rest c.args.full x rule c.args.part.place c.args.part.bytes.now)
    → RuleAnswered c.args.full x before c.args.part.bytes.now c.args.part.place c.put.new.self a
goes c x before k w a =
    let l = fields_past _ _ (head_past _ _ c.in_ok-section_head.ensures) c.in_ok-rule_fields.ensures in
    rule_goes c.args.full x before _ _ (omega (arith, c.args.part.four, c.args.part.here)) c.requires.0 w c.put.ensures k.0 c.eight.ensures
    (room c.args.part.place _ c.in_ok-section_head.ensures).0
    (key_told _ w c.put.ensures k.0 c.eight.ensures k.1 c.if-put.false) (none_left (passed (l x false false) refl)) a

pub returns-in_err-section_head : goal.returns-in_err-section_head
returns-in_err-section_head c x before w =
    subst (RuleAnswered _ x before _ _ _) (sym (passed_up c.from_residual.ensures))
    (rule_stops _ x before _ _ (omega (arith, c.args.part.four, c.args.part.here)) c.requires.0 _ refl ((section_head_is 20 false _ _).stop c.in_err-section_head.ensures))

pub rule_fields-requires : goal.rule_fields-requires
rule_fields-requires c = let r = room c.args.part.place _ c.in_ok-section_head.ensures in omega (arith, r)

pub returns-in_err-rule_fields : goal.returns-in_err-rule_fields
returns-in_err-rule_fields c x before w =
    let l = head_past _ _ c.in_ok-section_head.ensures in
    let r = c.args.part.bytes.now in
    subst (RuleAnswered _ x before _ _ _) (sym (passed_up c.from_residual-in_err-rule_fields.ensures))
    (rule_stops _ x before _ _ (omega (arith, c.args.part.four, c.args.part.here)) c.requires.0 _ refl
    ((made (field_checks x rule r) _ (l x false (rule_before (part_in rule r) before))).stop (c.in_err-rule_fields.ensures x)))

pub eight-requires : goal.eight-requires
eight-requires c = let r = room c.args.part.place _ c.in_ok-section_head.ensures in omega (arith, r)

pub put-requires : goal.put-requires
put-requires c = (key_some _ c.args.part.place (c.in_ok-rule_fields.ensures false) c.eight.ensures, c.requires.1)

pub returns-then-put : goal.returns-then-put
returns-then-put c x before w =
    let k = key (goal.at.returns-then-put c).After-put in
    let l = fields_past _ _ (head_past _ _ c.in_ok-section_head.ensures) c.in_ok-rule_fields.ensures in
    rule_stops _ x before _ _ (omega (arith, c.args.part.four, c.args.part.here)) c.requires.0 _ (key_told _ w c.put.ensures k.0 c.eight.ensures k.1 c.if-put.true)
    (failed (l x false true) c.refused.ensures refl)

pub rule_subs-requires : goal.rule_subs-requires
rule_subs-requires c = room c.args.part.place _ c.in_ok-section_head.ensures

pub returns-then-two-ne-RULE_FIELDS : goal.returns-then-two-ne-RULE_FIELDS
returns-then-two-ne-RULE_FIELDS c x before w =
    let t = goal.at.returns-then-two-ne-RULE_FIELDS c in
    goes t.Else-put x before (key t.After-put) w (c.rule_subs.ensures x)

pub has_required-requires : goal.has_required-requires
has_required-requires c = let r = room c.args.part.place _ c.in_ok-section_head.ensures in omega (arith, r)

pub returns-then-not-has_required : goal.returns-then-not-has_required
returns-then-not-has_required c x before w =
    let t = goal.at.returns-then-not-has_required c in
    let bare = sym c.if-two-ne-RULE_FIELDS.false ∙ c.two.ensures.0 in
    goes t.Else-put x before (key t.After-put) w
    (ap (λ (r : Refusal). Err r) (at_start c.refused-then-not-has_required.ensures)
    ∙ bare_missing _ x _ _ bare (sym (c.has_required.ensures [] refl) ∙ c.if-not-has_required.true))

pub returns : goal.returns
returns c x before w =
    let t = goal.at.returns c in
    let bare = sym c.if-two-ne-RULE_FIELDS.false ∙ c.two.ensures.0 in
    goes t.Else-put x before (key t.After-put) w (bare_there _ x _ _ bare (sym (c.has_required.ensures [] refl) ∙ c.if-not-has_required.false))
