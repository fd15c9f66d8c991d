-- The first refusal of the fields of a rule is that of their tests.
use mathlib.Core.Path.{◌≡◌, sym, ◌∙◌, ap}
use mathlib.Core.Bool.{Bool, true}
use mathlib.Core.List.{List}
use Prim.Native.Nat.{ℕ, ◌<◌, ◌≤◌}
use native.Mathlib.Omega.{arith}
use lib.ListN.{length, get_or, drop}
use borrow.Author.Tests.{eq-eqb, ne_eqb}
use Rattle.format.specs.Forms.{key_length, rule_id_form}
use Rattle.format.specs.Bytes.{number, bytes_at}
use Rattle.format.specs.Parts.{rule}
use Rattle.format.specs.Rules.{generated_length_allowed}
use Rattle.format.specs.Reading.{field_checks}
use Rattle.read_sections.proofs.Laws.{Left, all_left, passed, failed, failed_at, none_left, at_most, above, byte_number}
use Rattle.read_rules.proofs.Laws.{generated_key, generated_any}
use Rattle.read_rules.proofs.rule_fields.Goals as goal
use Rattle.read_rules.proofs.rule_fields.Goals.{Joined-else-flags-eq0, Else-s-gt2, Else-from-flags, else-flags-eq0-via-then-flags-eq0+else-not-key_length, else-flags-eq0-via-else-flags-eq0}

-- the first k tests of the fields have passed
abbrev Past : ℕ → ℕ → List ℕ → Type 0
Past k p s = (x : Bool) → let cs = field_checks x rule s in Left p cs (drop k cs)

-- a byte of the rule
byte : (s : List ℕ) → 20 ≤ length s → (o : ℕ) → o < 20 → get_or s o 0 ≡ number (bytes_at s o 1)
byte s h o k = byte_number s o (omega arith)

-- the Rule ID and the flags
past_1 : (p : ℕ) (s : List ℕ) {b : Bool} → b ≡ rule_id_form (bytes_at s 4 8) → b ≡ true → Past 1 p s
past_1 p s e h x = passed (all_left _) (sym e ∙ h)

past_2 : (p : ℕ) (s : List ℕ) {v : ℕ} → Past 1 p s → v ≡ number (bytes_at s 12 4) → v ≤ 1 → Past 2 p s
past_2 p s l e h x = passed (l x) (at_most s 12 4 e 1 h)

-- the generated length of a generate rule, as the code tests it
generated : (s : List ℕ) {v : ℕ} {b : Bool} → 20 ≤ length s → v ≡ number (bytes_at s 12 4) → v ≡ 0 → b ≡ key_length (get_or s 16 0)
    → b ≡ generated_length_allowed (bytes_at s 12 4) (bytes_at s 16 1)
generated s h f z e = generated_key (bytes_at s 12 4) (bytes_at s 16 1) f z (e ∙ ap key_length (byte s h 16 (omega arith)))

past_3 : (c : Joined-else-flags-eq0) → Past 3 c.args.part.place c.args.part.bytes.now
past_3 c x =
    passed (past_2 _ _ (past_1 _ _ c.rule_id_form.ensures c.if-not-rule_id_form.false) c.four-flags.ensures c.if-flags-gt1.false x) (elim c.else-flags-eq0.branch [
      | else-flags-eq0-via-then-flags-eq0+else-not-key_length w ↦
          sym (generated _ c.requires c.four-flags.ensures w.if-flags-eq0.true w.key_length.ensures) ∙ w.if-not-key_length.false
      | else-flags-eq0-via-else-flags-eq0 w ↦
          generated_any (bytes_at c.args.part.bytes.now 12 4) (bytes_at c.args.part.bytes.now 16 1) c.four-flags.ensures c.if-flags-gt1.false w.if-flags-eq0.false
    ])

-- the format bytes
past_4 : (c : Else-s-gt2) → Past 3 c.args.part.place c.args.part.bytes.now → Past 4 c.args.part.place c.args.part.bytes.now
past_4 c l x = passed (l x) (at_most _ 17 1 (byte _ c.requires 17 (omega arith)) 2 c.if-s-gt2.false)

-- the symmetric one, as the code tests it
symmetric : (s : List ℕ) {b : ℕ} → 20 ≤ length s → b ≡ get_or s 18 0 → b ≡ number (bytes_at s 18 1)
symmetric s h e = e ∙ byte s h 18 (omega arith)

past_5 : (c : Else-from-flags) → Past 4 c.args.part.place c.args.part.bytes.now → Past 5 c.args.part.place c.args.part.bytes.now
past_5 c l x =
    let f = symmetric _ c.requires c.from.ensures in
    passed (l x) (eq-eqb _ _ (sym f ∙ c.if-from-flags.false ∙ c.four-flags.ensures))

pub returns-then-not-rule_id_form : goal.returns-then-not-rule_id_form
returns-then-not-rule_id_form c x =
    failed_at (all_left _) c.refused.ensures (omega (arith, c.rule_id_place.ensures.0)) (sym c.rule_id_form.ensures ∙ c.if-not-rule_id_form.true)

pub returns-then-flags-gt1 : goal.returns-then-flags-gt1
returns-then-flags-gt1 c x =
    failed (past_1 _ _ c.rule_id_form.ensures c.if-not-rule_id_form.false x) c.refused-then-flags-gt1.ensures (above _ 12 4 c.four-flags.ensures 1 c.if-flags-gt1.true)

pub returns-then-not-key_length : goal.returns-then-not-key_length
returns-then-not-key_length c x =
    failed (past_2 _ _ (past_1 _ _ c.rule_id_form.ensures c.if-not-rule_id_form.false) c.four-flags.ensures c.if-flags-gt1.false x) c.refused-then-not-key_length.ensures
    (sym (generated _ c.requires c.four-flags.ensures c.if-flags-eq0.true c.key_length.ensures) ∙ c.if-not-key_length.true)

pub returns-then-s-gt2 : goal.returns-then-s-gt2
returns-then-s-gt2 c x =
    let past = past_3 (goal.at.returns-then-s-gt2 c).Joined-else-flags-eq0 in
    failed (past x) c.refused-then-s-gt2.ensures (above _ 17 1 (byte _ c.requires 17 (omega arith)) 2 c.if-s-gt2.true)

pub returns-then-from-flags : goal.returns-then-from-flags
returns-then-from-flags c x =
    let t = goal.at.returns-then-from-flags c in
    let f = symmetric _ c.requires c.from.ensures in
    failed (past_4 t.Else-s-gt2 (past_3 t.Joined-else-flags-eq0) x) c.refused-then-from-flags.ensures (ne_eqb _ _ (λ e. c.if-from-flags.true (f ∙ e ∙ sym c.four-flags.ensures)))

pub returns-then-s-gt2-2 : goal.returns-then-s-gt2-2
returns-then-s-gt2-2 c x =
    let t = goal.at.returns-then-s-gt2-2 c in
    failed (past_5 t.Else-from-flags (past_4 t.Else-s-gt2 (past_3 t.Joined-else-flags-eq0)) x) c.refused-then-s-gt2-2.ensures
    (above _ 19 1 (byte _ c.requires 19 (omega arith)) 2 c.if-s-gt2-2.true)

pub returns : goal.returns
returns c x =
    let t = goal.at.returns c in
    none_left (passed (past_5 t.Else-from-flags (past_4 t.Else-s-gt2 (past_3 t.Joined-else-flags-eq0)) x) (at_most _ 19 1 (byte _ c.requires 19 (omega arith)) 2 c.if-s-gt2-2.false))
