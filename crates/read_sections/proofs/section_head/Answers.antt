-- The first refusal of a section's head is that of its tests.
use mathlib.Core.Path.{ap}
use mathlib.Core.Bool.{not}
use mathlib.Core.List.{List}
use Prim.Native.Nat.{ℕ}
use native.Mathlib.Omega.{arith}
use lib.ListN.{length, drop}
use Rattle.format.specs.Reading.{Test}
use Rattle.read_sections.specs.Refusals.{head_checks}
use Rattle.read_sections.proofs.Laws.{Left, all_left, passed, failed, none_left, zero_yes, zero_not, at_least, below, at_most, above, byte_number, both_yes, first_not, second_not}
use Rattle.std.proofs.Common.{Bool}
use Rattle.read_sections.proofs.section_head.Goals as goal

abbrev Tests : ℕ → Bool → ℕ → List ℕ → List Test
Tests least seen p s = head_checks least seen s

-- the first k tests have passed
abbrev Past : ℕ → ℕ → Bool → ℕ → List ℕ → Type 0
Past k least seen p s = Left p (Tests least seen p s) (drop k (Tests least seen p s))

pub returns-then-part-ne0 : goal.returns-then-part-ne0
unfolding head_checks
returns-then-part-ne0 c = failed (all_left (Tests c.args.least c.args.seen c.args.part.place c.args.part.bytes.now)) c.refused.ensures (zero_not _ 1 1 (byte_number _ 1 (omega arith)) c.if-part-ne0.true)

pub returns-then-length-least : goal.returns-then-length-least
unfolding head_checks
returns-then-length-least c =
    let past_1 : Past 1 c.args.least c.args.seen c.args.part.place c.args.part.bytes.now = passed (all_left _) (zero_yes _ 1 1 (byte_number _ 1 (omega arith)) c.if-part-ne0.false) in
    failed (past_1) c.refused-then-length-least.ensures (first_not _ (below _ 2 2 c.two-length.ensures.0 _ c.if-length-least.true))

pub returns-then-part-length : goal.returns-then-part-length
unfolding head_checks
returns-then-part-length c =
    let past_1 : Past 1 c.args.least c.args.seen c.args.part.place c.args.part.bytes.now = passed (all_left _) (zero_yes _ 1 1 (byte_number _ 1 (omega arith)) c.if-part-ne0.false) in
    let s = c.args.part.bytes.now in
    let p = c.args.part.place in
    let l = c.two-length.ensures.0 in
    failed (past_1) c.refused-then-part-length.ensures (second_not (at_least s 2 2 l _ c.if-length-least.false) (above s 2 2 l (length s) (omega arith)))

pub returns-then-seen : goal.returns-then-seen
unfolding head_checks
returns-then-seen c =
    let past_1 : Past 1 c.args.least c.args.seen c.args.part.place c.args.part.bytes.now = passed (all_left _) (zero_yes _ 1 1 (byte_number _ 1 (omega arith)) c.if-part-ne0.false) in
    let past_2 : Past 2 c.args.least c.args.seen c.args.part.place c.args.part.bytes.now =
    let s = c.args.part.bytes.now in
    let p = c.args.part.place in
    let l = c.two-length.ensures.0 in
    passed (past_1) (both_yes (at_least s 2 2 l _ c.if-length-least.false) (at_most s 2 2 l (length s) (omega arith))) in
    failed (past_2) c.refused-then-seen.ensures (ap not c.if-seen.true)

pub returns : goal.returns
unfolding head_checks
returns c =
    let past_1 : Past 1 c.args.least c.args.seen c.args.part.place c.args.part.bytes.now = passed (all_left _) (zero_yes _ 1 1 (byte_number _ 1 (omega arith)) c.if-part-ne0.false) in
    let past_2 : Past 2 c.args.least c.args.seen c.args.part.place c.args.part.bytes.now =
    let s = c.args.part.bytes.now in
    let p = c.args.part.place in
    let l = c.two-length.ensures.0 in
    passed (past_1) (both_yes (at_least s 2 2 l _ c.if-length-least.false) (at_most s 2 2 l (length s) (omega arith))) in
    none_left (passed (past_2) (ap not c.if-seen.false))
