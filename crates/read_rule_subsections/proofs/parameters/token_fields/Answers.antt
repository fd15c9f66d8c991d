-- The first refusal of the fields of a 0005 is that of their tests.
use mathlib.Core.Path.{◌≡◌, sym, ap, ◌∙◌}
use mathlib.Core.Bool.{Bool, true, ◌||◌}
use mathlib.Core.List.{List}
use Prim.Native.Nat.{ℕ, ◌+◌, ◌≤◌}
use native.Mathlib.Omega.{arith}
use lib.Dec.{eqb}
use lib.ListN.{length, get_or, drop}
use borrow.Author.Tests.{ne_eqb}
use Rattle.format.specs.Bytes.{number, bytes_at}
use Rattle.format.specs.Forms.{label_form, label_reach}
use Rattle.format.specs.Parts.{token_parameters}
use Rattle.format.specs.Rules.{control_length}
use Rattle.format.specs.Reading.{field_checks}
use Rattle.read_sections.proofs.Laws.{Left, all_left, passed, failed, failed_at, none_left, zero_yes, zero_not, byte_number}
use Rattle.read_rule_subsections.proofs.Laws.{length_in, label_at}
use Rattle.read_rule_subsections.proofs.parameters.token_fields.Goals as goal

module _ (x : Bool) (p : ℕ) (s : List ℕ) {m z : ℕ}
    (r : (10 + m + m + z ≤ length s) × (m ≡ number (bytes_at s 8 1)) × (z ≡ number (bytes_at s (9 + m + m) 1))) where
  -- the w bytes at offset o of the subsection
  abbrev At : ℕ → ℕ → List ℕ
  At o w = bytes_at s o w

  -- the lengths of the masks and of the label template, as they are stated, and the template
  abbrev M : ℕ
  M = number (At 8 1)

  abbrev Z : ℕ
  Z = number (At (9 + M + M) 1)

  abbrev Label : List ℕ
  Label = At (9 + M + M + 1) Z

  -- the first k tests of the fields have passed
  abbrev Past : ℕ → Type 0
  Past k = let cs = field_checks x token_parameters s in Left p cs (drop k cs)

  -- ---- the fields as the tests take them

  mask : {b : Bool} → ((f : List ℕ) → length f ≡ m → b ≡ control_length f) → control_length (At 9 M) ≡ b
  mask e = sym (e (At 9 M) (length_in s 9 r.1 (omega (arith, r.0))))

  stated_label : z ≡ Z
  stated_label = r.2 ∙ ap (λ (i : ℕ). number (At (9 + i + i) 1)) r.1

  label_length : length Label ≡ z
  label_length = length_in s (9 + M + M + 1) stated_label (omega (arith, r.0, r.1))

  module _ (k : z ≡ 64) where
    same : bytes_at s (10 + m + m) 64 ≡ Label
    same = sym (label_at s r.1 (sym stated_label ∙ k))

    label : {b : Bool} → b ≡ label_form (bytes_at s (10 + m + m) 64) → (eqb (length Label) 0 || label_form Label) ≡ b
    label e = rw (label_length ∙ k) (sym (e ∙ ap label_form same))

    place : {i : ℕ} → i ≡ label_reach (bytes_at s (10 + m + m) 64) → p + (10 + m + m + i) ≡ p + (9 + M + M + 1 + label_reach Label)
    place e = let t = ap label_reach same in omega (arith, r.1)

  -- ---- after each test

  module _ {f : ℕ} (e : f ≡ number (bytes_at s 5 2)) (h : f ≡ 0) where
    past_reserved : Past 1
    past_reserved = passed (all_left _) (zero_yes s 5 2 e h)

    module _ (g : get_or s 7 0 ≡ 0) where
      past_flag : Past 2
      past_flag = passed past_reserved (zero_yes s 7 1 (byte_number s 7 (omega (arith, r.0))) g)

      module _ (a : (f : List ℕ) → length f ≡ m → true ≡ control_length f) where
        past_mask : Past 3
        past_mask = passed past_flag (mask a)

        past_length : z ≡ 64 → Past 4
        past_length k = passed past_mask (rw (label_length ∙ k))

pub returns-then-two-ne0 : goal.returns-then-two-ne0
returns-then-two-ne0 c x = failed (all_left _) c.refused.ensures (zero_not _ 5 2 c.two.ensures.0 c.if-two-ne0.true)

pub returns-then-part-ne0 : goal.returns-then-part-ne0
returns-then-part-ne0 c x =
    failed (past_reserved x c.args.part.place _ c.requires c.two.ensures.0 c.if-two-ne0.false) c.refused-then-part-ne0.ensures
    (zero_not _ 7 1 (byte_number c.args.part.bytes.now 7 (omega (arith, c.requires.0))) c.if-part-ne0.true)

pub returns-then-not-control_length : goal.returns-then-not-control_length
returns-then-not-control_length c x =
    failed (past_flag x c.args.part.place _ c.requires c.two.ensures.0 c.if-two-ne0.false c.if-part-ne0.false) c.refused-then-not-control_length.ensures
    (mask x c.args.part.place _ c.requires c.if-not-control_length.ensures)

pub returns-then-z-eq0 : goal.returns-then-z-eq0
returns-then-z-eq0 c x =
    let e = label_length x c.args.part.place _ c.requires ∙ c.if-z-eq0.true in
    none_left (passed (passed (past_mask x c.args.part.place _ c.requires c.two.ensures.0 c.if-two-ne0.false c.if-part-ne0.false c.if-not-control_length.ensures) (rw e)) (rw e))

pub returns-then-z-ne64 : goal.returns-then-z-ne64
returns-then-z-ne64 c x =
    failed_at (past_mask x c.args.part.place _ c.requires c.two.ensures.0 c.if-two-ne0.false c.if-part-ne0.false c.if-not-control_length.ensures) c.refused-then-z-ne64.ensures
    (omega (arith, c.requires.1)) (rw (label_length x c.args.part.place _ c.requires, ne_eqb c.args.z 0 c.if-z-eq0.false, ne_eqb c.args.z 64 c.if-z-ne64.true))

pub label_form-requires : goal.label_form-requires
label_form-requires c = omega (arith, c.requires.0, c.if-z-ne64.false)

pub label_place-requires : goal.label_place-requires
label_place-requires c = omega (arith, c.requires.0, c.if-z-ne64.false)

pub overflow_add-label-then-not-label_form : goal.overflow_add-label-then-not-label_form
overflow_add-label-then-not-label_form c = omega (arith, c.requires, c.label_place.ensures.1)

pub returns-then-not-label_form : goal.returns-then-not-label_form
returns-then-not-label_form c x =
    let r = c.requires in
    let k = c.if-z-ne64.false in
    failed_at (past_length x c.args.part.place _ r c.two.ensures.0 c.if-two-ne0.false c.if-part-ne0.false c.if-not-control_length.ensures k) c.refused-then-not-label_form.ensures
    (place x c.args.part.place _ r k c.label_place.ensures.0) (label x c.args.part.place _ r k c.if-not-label_form.ensures)

pub returns : goal.returns
returns c x =
    let r = c.requires in
    let k = c.if-z-ne64.false in
    none_left
    (passed (past_length x c.args.part.place _ r c.two.ensures.0 c.if-two-ne0.false c.if-part-ne0.false c.if-not-control_length.ensures k) (label x c.args.part.place _ r k c.if-not-label_form.ensures))
