-- The first refusal of a subsection that is always of the same length, up to its reserved byte.
use mathlib.Core.List.{List}
use Prim.Native.Nat.{◌≤◌}
use native.Mathlib.Omega.{arith}
use lib.ListN.{length, drop}
use Rattle.format.specs.Reading.{Test}
use Rattle.read_sections.specs.Refusals.{sub_head_checks, fixed_head_checks}
use Rattle.read_sections.proofs.Laws.{Left, passed, failed, none_left, all_left, Made, made, zero_yes, zero_not, equal, unequal, byte_number, room_for}
use Rattle.std.proofs.Common.{◌∙◌, ℕ, Bool}
use Rattle.format.proofs.Answers.{passed_up}
use Rattle.read_sections.proofs.fixed_subsection_head.Goals as goal

abbrev Tests : ℕ → Bool → ℕ → ℕ → List ℕ → List Test
Tests fixed seen n q s = fixed_head_checks fixed seen n s

-- the tests of its head come first
head_made : (fixed : ℕ) (seen : Bool) (n q : ℕ) (s : List ℕ)
    → Made q (sub_head_checks fixed seen n s) (Tests fixed seen n q s) (drop 3 (Tests fixed seen n q s))
unfolding fixed_head_checks sub_head_checks
head_made fixed seen n q s = made (sub_head_checks fixed seen n s) _ (all_left _)

pub returns-in_err-subsection_head : goal.returns-in_err-subsection_head
unfolding fixed_head_checks sub_head_checks
returns-in_err-subsection_head c =
    let head = head_made c.args.fixed c.args.seen c.args.part.left c.args.part.place c.args.part.bytes.now in
    passed_up c.from_residual.ensures ∙ head.stop c.in_err-subsection_head.ensures

pub returns-then-two-fixed : goal.returns-then-two-fixed
unfolding fixed_head_checks sub_head_checks
returns-then-two-fixed c =
    let head = head_made c.args.fixed c.args.seen c.args.part.left c.args.part.place c.args.part.bytes.now in
    failed (head.left c.in_ok-subsection_head.ensures) c.refused.ensures (unequal _ 2 2 c.two.ensures.0 _ c.if-two-fixed.true)

pub bounds-part-5 : goal.bounds-part-5
unfolding fixed_head_checks sub_head_checks
bounds-part-5 c =
    let room : 6 ≤ length c.args.part.bytes.now =
    let r = room_for _ _ _ _ _ c.in_ok-subsection_head.ensures in
    omega (arith, r, c.args.part.here, c.requires) in
    let r = room in omega arith

pub returns-then-part-ne0 : goal.returns-then-part-ne0
unfolding fixed_head_checks sub_head_checks
returns-then-part-ne0 c =
    let head = head_made c.args.fixed c.args.seen c.args.part.left c.args.part.place c.args.part.bytes.now in
    let room : 6 ≤ length c.args.part.bytes.now =
    let r = room_for _ _ _ _ _ c.in_ok-subsection_head.ensures in
    omega (arith, r, c.args.part.here, c.requires) in
    let past_2 : Left c.args.part.place (Tests c.args.fixed c.args.seen c.args.part.left c.args.part.place c.args.part.bytes.now) (drop 4 (Tests c.args.fixed c.args.seen c.args.part.left c.args.part.place c.args.part.bytes.now)) = passed (head.left c.in_ok-subsection_head.ensures) (equal _ 2 2 c.two.ensures.0 _ c.if-two-fixed.false) in
    failed (past_2) c.refused-then-part-ne0.ensures (zero_not _ 5 1 (byte_number _ 5 (omega (arith, room))) c.if-part-ne0.true)

pub returns : goal.returns
unfolding fixed_head_checks sub_head_checks
returns c =
    let head = head_made c.args.fixed c.args.seen c.args.part.left c.args.part.place c.args.part.bytes.now in
    let room : 6 ≤ length c.args.part.bytes.now =
    let r = room_for _ _ _ _ _ c.in_ok-subsection_head.ensures in
    omega (arith, r, c.args.part.here, c.requires) in
    let past_2 : Left c.args.part.place (Tests c.args.fixed c.args.seen c.args.part.left c.args.part.place c.args.part.bytes.now) (drop 4 (Tests c.args.fixed c.args.seen c.args.part.left c.args.part.place c.args.part.bytes.now)) = passed (head.left c.in_ok-subsection_head.ensures) (equal _ 2 2 c.two.ensures.0 _ c.if-two-fixed.false) in
    none_left (passed (past_2) (zero_yes _ 5 1 (byte_number _ 5 (omega (arith, room))) c.if-part-ne0.false))
