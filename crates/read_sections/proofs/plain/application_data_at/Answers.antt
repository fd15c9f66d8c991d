-- Section 15: its head and its inner length.
use mathlib.Core.Path.{◌≡◌, refl, sym, ap, ◌∙◌}
use mathlib.Core.Bool.{Bool}
use Prim.Native.Nat.{ℕ, ◌+◌, ◌≤◌}
use native.Mathlib.Omega.{arith}
use lib.ListN.{length, drop}
use borrow.Author.Tests.{eq-eqb, ne_eqb}
use Rattle.format.specs.Parts.{application_data}
use Rattle.format.specs.Reading.{stated, made_length, section_checks}
use Rattle.read_sections.proofs.Laws.{Left, passed, failed, none_left, section_head_is, head_room}
use Rattle.std.proofs.Common.{List}
use Rattle.format.proofs.Answers.{passed_up}
use Rattle.read_sections.proofs.plain.application_data_at.Goals as goal

-- the first k tests of the section have passed
abbrev Past : ℕ → Bool → ℕ → List ℕ → Type 0
Past k seen p s = (x repeated : Bool) → let cs = section_checks x application_data seen repeated s in Left p cs (drop k cs)

pub returns-in_err-section_head : goal.returns-in_err-section_head
returns-in_err-section_head c x repeated = passed_up c.from_residual.ensures ∙ (section_head_is 6 _ _ _).stop c.in_err-section_head.ensures

pub two-requires : goal.two-requires
two-requires c =
    let room : 6 ≤ length c.args.part.bytes.now =
    let m = head_room c.args.part.place 6 _ c.args.part.bytes.now c.in_ok-section_head.ensures in
    omega (arith, m.0, m.1) in
    let m = room in omega arith

pub returns-then-two : goal.returns-then-two
returns-then-two c x repeated =
    let past_1 : Past 3 c.args.seen c.args.part.place c.args.part.bytes.now = λ x repeated. (section_head_is 6 _ _ _).left c.in_ok-section_head.ensures in
    let made : 6 + c.two.result ≡ made_length application_data c.args.part.bytes.now = ap (λ (n : ℕ). 6 + n) c.two.ensures.0 in
    let states : c.two-2.result ≡ stated c.args.part.bytes.now = c.two-2.ensures.0 in
    failed (past_1 x repeated) c.refused.ensures (ne_eqb _ _ (λ e. c.if-two.true (made ∙ e ∙ sym (states))))

pub returns : goal.returns
returns c x repeated =
    let past_1 : Past 3 c.args.seen c.args.part.place c.args.part.bytes.now = λ x repeated. (section_head_is 6 _ _ _).left c.in_ok-section_head.ensures in
    let made : 6 + c.two.result ≡ made_length application_data c.args.part.bytes.now = ap (λ (n : ℕ). 6 + n) c.two.ensures.0 in
    let states : c.two-2.result ≡ stated c.args.part.bytes.now = c.two-2.ensures.0 in
    none_left (passed (passed (past_1 x repeated) (eq-eqb _ _ (sym (made) ∙ c.if-two.false ∙ states))) refl)
