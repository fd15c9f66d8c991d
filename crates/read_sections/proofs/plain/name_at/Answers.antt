-- Section 13: its head and its length.
use mathlib.Core.Path.{refl, ◌∙◌}
use mathlib.Core.Bool.{Bool}
use Prim.Native.Nat.{ℕ}
use lib.ListN.{drop}
use Rattle.format.specs.Parts.{name}
use Rattle.format.specs.Reading.{section_checks}
use Rattle.read_sections.proofs.Laws.{Left, passed, failed, none_left, section_head_is, equal, unequal}
use Rattle.std.proofs.Common.{List}
use Rattle.format.proofs.Answers.{passed_up}
use Rattle.read_sections.proofs.plain.name_at.Goals as goal

-- the first k tests of the section have passed
abbrev Past : ℕ → Bool → ℕ → List ℕ → Type 0
Past k seen p s = (x repeated : Bool) → let cs = section_checks x name seen repeated s in Left p cs (drop k cs)

pub returns-in_err-section_head : goal.returns-in_err-section_head
returns-in_err-section_head c x repeated = passed_up c.from_residual.ensures ∙ (section_head_is 68 _ _ _).stop c.in_err-section_head.ensures

pub returns-then-two-ne68 : goal.returns-then-two-ne68
returns-then-two-ne68 c x repeated =
    let past_1 : Past 3 c.args.seen c.args.part.place c.args.part.bytes.now = λ x repeated. (section_head_is 68 _ _ _).left c.in_ok-section_head.ensures in
    failed (past_1 x repeated) c.refused.ensures (unequal _ 2 2 c.two.ensures.0 68 c.if-two-ne68.true)

pub returns : goal.returns
returns c x repeated =
    let past_1 : Past 3 c.args.seen c.args.part.place c.args.part.bytes.now = λ x repeated. (section_head_is 68 _ _ _).left c.in_ok-section_head.ensures in
    none_left (passed (passed (past_1 x repeated) (equal _ 2 2 c.two.ensures.0 68 c.if-two-ne68.false)) refl)
