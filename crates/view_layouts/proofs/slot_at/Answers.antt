-- Where a field lies: what is looked for among the fields that are left is what was looked for at first.
use mathlib.Core.Path.{ap, ◌∙◌}
use native.Mathlib.Omega.{arith}
use Rattle.std.proofs.Common.{Err}
use Rattle.view_layouts.proofs.Passing.{none_held}
use Rattle.view_layouts.proofs.Turns.{starts, at_field, held_here, room_here, lies_here, goes_on, lies_nowhere}
use Rattle.view_layouts.proofs.slot_at.Goals as goal

pub loop-number-init : goal.loop-number-init
loop-number-init c = starts c.in-Some.kind c.requires c.in-Some.ensures c.widths-width-items.ensures none_held

pub length-length-requires : goal.length-length-requires
length-length-requires c = held_here (at_field _ c.loop-number.invariant c.loop-number-test.true)

pub overflow_cast-result : goal.overflow_cast-result
overflow_cast-result c =
    let f = at_field _ c.loop-number.invariant c.loop-number-test.true in
    omega (arith, f.room, f.lying.standing.short)

pub overflow_cast-result-then-there : goal.overflow_cast-result-then-there
overflow_cast-result-then-there c =
    let f = at_field _ c.loop-number.invariant c.loop-number-test.true in
    omega (arith, f.room, f.lying.standing.short, f.long, c.length-length.ensures)

pub returns-then-there : goal.returns-then-there
returns-then-there c = lies_here (at_field _ c.loop-number.invariant c.loop-number-test.true) c.if-there.true c.length-length.ensures

pub pass-requires : goal.pass-requires
pass-requires c = room_here (at_field _ c.loop-number.invariant c.loop-number-test.true)

pub overflow_add-place : goal.overflow_add-place
overflow_add-place c =
    let f = at_field _ c.loop-number.invariant c.loop-number-test.true in
    omega (arith, f.room, f.lying.standing.short, f.long, c.length-length.ensures)

pub loop-number-preserved : goal.loop-number-preserved
loop-number-preserved c = goes_on (at_field _ c.loop-number.invariant c.loop-number-test.true) c.if-there.false c.length-length.ensures c.pass.ensures

pub returns : goal.returns
returns c p q =
    ap Err c.at.ensures ∙ lies_nowhere _ c.loop-number.invariant c.loop-number-test.false p q
