-- The first refusal of the fields of a 0003 is that of their tests.
use mathlib.Core.Path.{◌≡◌, sym, ◌∙◌, ap, ap₂}
use mathlib.Core.Bool.{Bool, true}
use mathlib.Core.List.{List}
use Prim.Native.Nat.{ℕ, ◌+◌, ◌<◌, ◌≤◌}
use native.Mathlib.Omega.{arith}
use lib.Dec.{leb}
use lib.ListN.{length, get_or, drop}
use borrow.Author.Tests.{le-leb, lt-leb}
use Rattle.format.specs.Forms.{key_length}
use Rattle.format.specs.Bytes.{number, bytes_at}
use Rattle.format.specs.Parts.{export_parameters}
use Rattle.format.specs.Rules.{variant_length, control_length}
use Rattle.format.specs.Reading.{field_checks}
use Rattle.read_sections.proofs.Laws.{Left, all_left, passed, failed, failed_at, none_left, zero_yes, zero_not, byte_number}
use Rattle.read_rule_subsections.proofs.Laws.{length_in}
use Rattle.read_rule_subsections.proofs.parameters.export_fields.Goals as goal
use Rattle.read_rule_subsections.proofs.parameters.export_fields.Goals.{then-not-key_length-2-via-then-not-key_length-2, then-not-key_length-2-via-else-not-key_length-2+then-maximum-minimum}

module _ (y : Bool) (p : ℕ) (s : List ℕ) {x v : ℕ}
    (r : (12 + x + v ≤ length s) × (x < 256) × (x ≡ number (bytes_at s 10 1)) × (v ≡ number (bytes_at s (11 + x) 1))) where
  -- the w bytes at offset o of the subsection
  abbrev At : ℕ → ℕ → List ℕ
  At o w = bytes_at s o w

  -- the lengths of the variant and of the control vector, as they are stated
  abbrev X : ℕ
  X = number (At 10 1)

  abbrev C : ℕ
  C = number (At (11 + X) 1)

  -- the first k tests of the fields have passed
  abbrev Past : ℕ → Type 0
  Past k = let cs = field_checks y export_parameters s in Left p cs (drop k cs)

  -- ---- the fields as the tests take them

  byte : (o : ℕ) → o < 12 → get_or s o 0 ≡ number (At o 1)
  byte o h = byte_number s o (omega (arith, r.0, h))

  key : {b : Bool} (o : ℕ) → o < 12 → b ≡ key_length (get_or s o 0) → key_length (number (At o 1)) ≡ b
  key o h e = sym (e ∙ ap key_length (byte o h))

  order : {b : Bool} → leb (get_or s 8 0) (get_or s 9 0) ≡ b → leb (number (At 8 1)) (number (At 9 1)) ≡ b
  order e = ap₂ leb (sym (byte 8 (omega arith))) (sym (byte 9 (omega arith))) ∙ e

  variant : {b : Bool} → ((f g : List ℕ) → number f ≡ get_or s 9 0 → length g ≡ x → b ≡ variant_length f g) → variant_length (At 9 1) (At 11 X) ≡ b
  variant e = sym (e (At 9 1) (At 11 X) (sym (byte 9 (omega arith))) (length_in s 11 r.2 (omega (arith, r.0))))

  stated_vector : v ≡ C
  stated_vector = r.3 ∙ ap (λ (i : ℕ). number (At (11 + i) 1)) r.2

  vector : {b : Bool} → ((f : List ℕ) → length f ≡ v → b ≡ control_length f) → control_length (At (11 + X + 1) C) ≡ b
  vector e = sym (e (At (11 + X + 1) C) (length_in s (11 + X + 1) stated_vector (omega (arith, r.0, r.2))))

  -- ---- after each test

  module _ {f : ℕ} (e : f ≡ number (bytes_at s 5 2)) (h : f ≡ 0) where
    past_reserved : Past 1
    past_reserved = passed (all_left _) (zero_yes s 5 2 e h)

    module _ (g : get_or s 7 0 ≡ 0) where
      past_flag : Past 2
      past_flag = passed past_reserved (zero_yes s 7 1 (byte_number s 7 (omega (arith, r.0))) g)

      module _ (a : true ≡ key_length (get_or s 8 0)) where
        past_minimum : Past 3
        past_minimum = passed past_flag (key 8 (omega arith) a)

        module _ (b : true ≡ key_length (get_or s 9 0)) where
          past_maximum : Past 4
          past_maximum = passed past_minimum (key 9 (omega arith) b)

          past_order : get_or s 8 0 ≤ get_or s 9 0 → Past 5
          past_order w = passed past_maximum (order (le-leb _ _ w))

pub returns-then-two-ne0 : goal.returns-then-two-ne0
returns-then-two-ne0 c y = failed (all_left _) c.refused.ensures (zero_not _ 5 2 c.two.ensures.0 c.if-two-ne0.true)

pub returns-then-part-ne0 : goal.returns-then-part-ne0
returns-then-part-ne0 c y =
    failed (past_reserved y c.args.part.place _ c.requires c.two.ensures.0 c.if-two-ne0.false) c.refused-then-part-ne0.ensures
    (zero_not _ 7 1 (byte_number c.args.part.bytes.now 7 (omega (arith, c.requires.0))) c.if-part-ne0.true)

pub returns-then-not-key_length : goal.returns-then-not-key_length
returns-then-not-key_length c y =
    failed (past_flag y c.args.part.place _ c.requires c.two.ensures.0 c.if-two-ne0.false c.if-part-ne0.false) c.refused-then-not-key_length.ensures
    (key y c.args.part.place _ c.requires 8 (omega arith) c.if-not-key_length.ensures)

-- the maximum is no length of a key, or it is less than the minimum
pub returns-then-not-key_length-2 : goal.returns-then-not-key_length-2
returns-then-not-key_length-2 c y =
    elim c.then-not-key_length-2.branch [
      | then-not-key_length-2-via-then-not-key_length-2 w ↦ failed (past_minimum y c.args.part.place _ c.requires c.two.ensures.0 c.if-two-ne0.false c.if-part-ne0.false c.if-not-key_length.ensures) c.refused-then-not-key_length-2.ensures
          (key y c.args.part.place _ c.requires 9 (omega arith) w.if-not-key_length-2.ensures)
      | then-not-key_length-2-via-else-not-key_length-2+then-maximum-minimum w ↦ failed (past_maximum y c.args.part.place _ c.requires c.two.ensures.0 c.if-two-ne0.false c.if-part-ne0.false c.if-not-key_length.ensures w.if-not-key_length-2.ensures) c.refused-then-not-key_length-2.ensures
          (order y c.args.part.place _ c.requires (lt-leb _ _ w.if-maximum-minimum.true))
    ]

pub returns-then-not-variant_length : goal.returns-then-not-variant_length
returns-then-not-variant_length c y =
    failed (past_order y c.args.part.place _ c.requires c.two.ensures.0 c.if-two-ne0.false c.if-part-ne0.false c.if-not-key_length.ensures c.if-not-key_length-2.ensures c.if-maximum-minimum.false)
    c.refused-then-not-variant_length.ensures
    (variant y c.args.part.place _ c.requires c.if-not-variant_length.ensures)

pub returns-then-not-control_length : goal.returns-then-not-control_length
returns-then-not-control_length c y =
    let r = c.requires in
    failed_at
    (passed (past_order y c.args.part.place _ r c.two.ensures.0 c.if-two-ne0.false c.if-part-ne0.false c.if-not-key_length.ensures c.if-not-key_length-2.ensures c.if-maximum-minimum.false)
    (variant y c.args.part.place _ r c.if-not-variant_length.ensures))
    c.refused-then-not-control_length.ensures (omega (arith, r.2)) (vector y c.args.part.place _ r c.if-not-control_length.ensures)

pub returns : goal.returns
returns c y =
    let r = c.requires in
    none_left
    (passed
    (passed (past_order y c.args.part.place _ r c.two.ensures.0 c.if-two-ne0.false c.if-part-ne0.false c.if-not-key_length.ensures c.if-not-key_length-2.ensures c.if-maximum-minimum.false)
    (variant y c.args.part.place _ r c.if-not-variant_length.ensures))
    (vector y c.args.part.place _ r c.if-not-control_length.ensures))
