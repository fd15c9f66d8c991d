-- Section 11: its head, its inner lengths, its fields.
use Rattle.std.specs.Prelude.{⊤, Ok}
use mathlib.Core.Path.{◌≡◌, refl, ap₂, ◌∙◌}
use mathlib.Core.Bool.{Bool, false}
use mathlib.Core.List.{List, [], ◌∷◌}
use Prim.Native.Nat.{ℕ, ◌+◌, ◌≤◌}
use native.Mathlib.Omega.{arith}
use lib.ListN.{length, drop}
use Rattle.format.specs.Bytes.{number, bytes_at}
use Rattle.format.specs.Parts.{public_key}
use Rattle.format.specs.Rules.{checks}
use Rattle.format.specs.Reading.{stated, part_in, part_slots, located, section_checks}
use Rattle.read_sections.specs.Refusals.{first_refusal, head_checks}
use Rattle.read_sections.proofs.Laws.{Left, passed, failed, section_head_is, head_room, pass_last, zero_yes, zero_not}
use Rattle.read_sections.proofs.KeyLaws.{made_yes, made_not, exponent_at_is, modulus_at_is, flags_at_is, exponent_length_is, modulus_length}
use Rattle.format.proofs.Answers.{passed_up}
use Rattle.read_sections.proofs.public_key.public_key_at.Goals as goal

-- the first k tests of the section have passed
abbrev Past : ℕ → ℕ → Bool → List ℕ → Type 0
Past p k seen s = (x repeated : Bool) → let cs = section_checks x public_key seen repeated s in Left p cs (drop k cs)

-- what is left after its head, and that its own fields are there
head_passed : {u : ⊤} (p : ℕ) (seen : Bool) (s : List ℕ) → Ok u ≡ first_refusal p (head_checks 16 seen s) → Past p 3 seen s
head_passed p seen s e x repeated = (section_head_is 16 _ _ _).left e

-- what the counts make is there
whole : {u : ⊤} {l : ℕ} (p x y : ℕ) (seen : Bool) (s : List ℕ) → Ok u ≡ first_refusal p (head_checks 16 seen s) → l ≡ stated s → 16 + x + y ≡ l
    → 16 + x + y ≤ length s
whole p x y seen s e states made = let m = head_room p 16 seen s e in omega (arith, m.0, m.1, states, made)

pub returns-in_err-section_head : goal.returns-in_err-section_head
returns-in_err-section_head c x repeated = passed_up c.from_residual.ensures ∙ (section_head_is 16 _ _ _).stop c.in_err-section_head.ensures

pub two-x-requires : goal.two-x-requires
two-x-requires c = let m = head_room c.args.part.place 16 c.args.seen c.args.part.bytes.now c.in_ok-section_head.ensures in omega (arith, m.0, m.1)

pub two-y-requires : goal.two-y-requires
two-y-requires c = let m = head_room c.args.part.place 16 c.args.seen c.args.part.bytes.now c.in_ok-section_head.ensures in omega (arith, m.0, m.1)

pub returns-then-x-y : goal.returns-then-x-y
returns-then-x-y c x repeated =
    let past = head_passed c.args.part.place c.args.seen c.args.part.bytes.now c.in_ok-section_head.ensures in
    failed (past x repeated) c.refused.ensures (made_not _ _ _ c.two-x.ensures.0 c.two-y.ensures.0 _ c.two.ensures.0 c.if-x-y.true)

pub two-requires-2 : goal.two-requires-2
two-requires-2 c = let m = head_room c.args.part.place 16 c.args.seen c.args.part.bytes.now c.in_ok-section_head.ensures in omega (arith, m.0, m.1)

pub returns-then-two-ne0 : goal.returns-then-two-ne0
returns-then-two-ne0 c x repeated =
    let past = head_passed c.args.part.place c.args.seen c.args.part.bytes.now c.in_ok-section_head.ensures in
    let made = made_yes _ _ _ c.two-x.ensures.0 c.two-y.ensures.0 _ c.two.ensures.0 c.if-x-y.false in
    failed (passed (past x repeated) made) c.refused-then-two-ne0.ensures (zero_not _ 4 2 c.two-2.ensures.0 c.if-two-ne0.true)

pub two-bits-requires : goal.two-bits-requires
two-bits-requires c = let m = head_room c.args.part.place 16 c.args.seen c.args.part.bytes.now c.in_ok-section_head.ensures in omega (arith, m.0, m.1)

pub four-flags-requires : goal.four-flags-requires
four-flags-requires c =
    let m = whole c.args.part.place c.two-x.result c.two-y.result c.args.seen c.args.part.bytes.now c.in_ok-section_head.ensures c.two.ensures.0 c.if-x-y.false in
    omega (arith, m)

pub slice_bounds-key_fields-end : goal.slice_bounds-key_fields-end
slice_bounds-key_fields-end c =
    let m = whole c.args.part.place c.two-x.result c.two-y.result c.args.seen c.args.part.bytes.now c.in_ok-section_head.ensures c.two.ensures.0 c.if-x-y.false in
    omega (arith, m)

pub slice_bounds-key_fields-end-2 : goal.slice_bounds-key_fields-end-2
slice_bounds-key_fields-end-2 c =
    let m = whole c.args.part.place c.two-x.result c.two-y.result c.args.seen c.args.part.bytes.now c.in_ok-section_head.ensures c.two.ensures.0 c.if-x-y.false in
    omega (arith, m)

-- the rules on the fields are left, and they are what `key_fields` tested
pub returns : goal.returns
unfolding bytes_at
returns c x repeated =
    let r = c.args.part.bytes.now in
    let p = c.args.part.place in
    let ex = c.two-x.ensures.0 in
    let ey = c.two-y.ensures.0 in
    let m = whole p c.two-x.result c.two-y.result c.args.seen r c.in_ok-section_head.ensures c.two.ensures.0 c.if-x-y.false in
    let past = head_passed p c.args.seen r c.in_ok-section_head.ensures in
    let made = made_yes r _ _ ex ey _ c.two.ensures.0 c.if-x-y.false in
    let left = passed (passed (past x repeated) made) (zero_yes r 4 2 c.two-2.ensures.0 c.if-two-ne0.false) in
    left.same _
    (pass_last p (located (part_slots public_key r) (checks x public_key (part_in public_key r).fields)) _ refl
    (c.key_fields.ensures r (bytes_at r 8 2) (bytes_at r (12 + number (bytes_at r 6 2) + number (bytes_at r 10 2)) 4)
    (exponent_length_is r _ _ ex ey (omega (arith, m))) (modulus_length r _ _ ex ey (omega (arith, m)))
    c.two-bits.ensures.0 (flags_at_is r _ _ ex ey c.four-flags.ensures)
    ∙ ap₂ (λ (e m : List ℕ). first_refusal p (located (part_slots public_key r) (checks false public_key (bytes_at r 8 2 ∷ e ∷ m ∷ bytes_at r (12 + number (bytes_at r 6 2) + number (bytes_at r 10 2)) 4 ∷ []))))
    (exponent_at_is r _ _ ex ey) (modulus_at_is r _ _ ex ey)))
