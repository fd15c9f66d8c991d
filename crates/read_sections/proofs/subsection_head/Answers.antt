-- The first refusal of a subsection's head is that of its tests.
use mathlib.Core.Path.{ap}
use mathlib.Core.Bool.{not}
use mathlib.Core.List.{List}
use Prim.Native.Nat.{ℕ, ◌≤◌}
use native.Mathlib.Omega.{arith}
use lib.ListN.{length, drop}
use Rattle.format.specs.Reading.{Test}
use Rattle.read_sections.specs.Refusals.{sub_head_checks}
use Rattle.read_sections.proofs.Laws.{Left, all_left, passed, failed, none_left, zero_yes, zero_not, at_least, below, at_most, above, byte_number, both_yes, first_not, second_not}
use Rattle.std.proofs.Common.{Bool}
use Rattle.read_sections.proofs.subsection_head.Goals as goal
use Rattle.read_sections.proofs.subsection_head.Goals.{then-length-least-via-then-length-least, then-length-least-via-else-length-least+then-past_section}

abbrev Tests : ℕ → Bool → ℕ → ℕ → List ℕ → List Test
Tests least seen n q s = sub_head_checks least seen n s

-- the first k tests have passed
abbrev Past : ℕ → ℕ → Bool → ℕ → ℕ → List ℕ → Type 0
Past k least seen n q s = Left q (Tests least seen n q s) (drop k (Tests least seen n q s))

pub returns-then-length-least : goal.returns-then-length-least
unfolding sub_head_checks
returns-then-length-least c =
    let l = c.two-length.ensures.0 in
    let all = all_left (Tests c.args.least c.args.seen c.args.part.left c.args.part.place c.args.part.bytes.now) in
    elim c.then-length-least.branch [
      | then-length-least-via-then-length-least w ↦ failed all c.refused.ensures (first_not _ (below _ 2 2 l _ w.if-length-least.true))
      | then-length-least-via-else-length-least+then-past_section w ↦
          failed all c.refused.ensures (second_not (at_least _ 2 2 l _ w.if-length-least.false) (above _ 2 2 l _ w.if-past_section.true))
    ]

pub returns-then-seen : goal.returns-then-seen
unfolding sub_head_checks
returns-then-seen c =
    let past_1 : Past 1 c.args.least c.args.seen c.args.part.left c.args.part.place c.args.part.bytes.now =
    let l = c.two-length.ensures.0 in
    passed (all_left _) (both_yes (at_least _ 2 2 l _ c.if-length-least.false) (at_most _ 2 2 l _ c.if-past_section.false)) in
    failed (past_1) c.refused-then-seen.ensures (ap not c.if-seen.true)

pub returns-then-part-ne0 : goal.returns-then-part-ne0
unfolding sub_head_checks
returns-then-part-ne0 c =
    let past_1 : Past 1 c.args.least c.args.seen c.args.part.left c.args.part.place c.args.part.bytes.now =
    let l = c.two-length.ensures.0 in
    passed (all_left _) (both_yes (at_least _ 2 2 l _ c.if-length-least.false) (at_most _ 2 2 l _ c.if-past_section.false)) in
    let past_2 : Past 2 c.args.least c.args.seen c.args.part.left c.args.part.place c.args.part.bytes.now = passed (past_1) (ap not c.if-seen.false) in
    let five : 5 ≤ length c.args.part.bytes.now = omega (arith, c.args.part.here) in
    failed (past_2) c.refused-then-part-ne0.ensures (zero_not _ 4 1 (byte_number _ 4 (omega (arith, five))) c.if-part-ne0.true)

pub returns : goal.returns
unfolding sub_head_checks
returns c =
    let past_1 : Past 1 c.args.least c.args.seen c.args.part.left c.args.part.place c.args.part.bytes.now =
    let l = c.two-length.ensures.0 in
    passed (all_left _) (both_yes (at_least _ 2 2 l _ c.if-length-least.false) (at_most _ 2 2 l _ c.if-past_section.false)) in
    let past_2 : Past 2 c.args.least c.args.seen c.args.part.left c.args.part.place c.args.part.bytes.now = passed (past_1) (ap not c.if-seen.false) in
    let five : 5 ≤ length c.args.part.bytes.now = omega (arith, c.args.part.here) in
    none_left (passed (past_2) (zero_yes _ 4 1 (byte_number _ 4 (omega (arith, five))) c.if-part-ne0.false))
