-- The step at a place: the walk over the parts goes to the place, or past it.
use native.Mathlib.Omega.{arith}
use Rattle.std.proofs.Common.{Err, ap, ◌∙◌}
use Rattle.view_rows.proofs.Places.{further}
use Rattle.view_rows.proofs.Steps.{step_past, steps, step_begins, step_there, step_on, step_nowhere, step_end, step_row}
use Rattle.view_rows.proofs.step_in.Goals as goal

pub returns-then-at-s : goal.returns-then-at-s
returns-then-at-s c = ap Err c.at.ensures ∙ step_past c.requires c.if-at-s.true

pub loop-p-init : goal.loop-p-init
loop-p-init c = steps c.requires c.if-at-s.false c.first-p.ensures

pub behind-p-requires : goal.behind-p-requires
behind-p-requires c = step_begins c.loop-p.invariant c.loop-p-test.true

pub loop-p-smaller : goal.loop-p-smaller
loop-p-smaller c =
    let b = step_begins c.loop-p.invariant c.loop-p-test.true in
    omega (arith, further b c.behind-p.ensures, c.loop-p-test.true)

pub loop-p-preserved : goal.loop-p-preserved
loop-p-preserved c = step_on c.loop-p.invariant c.loop-p-test.true c.behind-p.ensures

pub returns-then-p-at : goal.returns-then-p-at
returns-then-p-at c = ap Err c.at-then-p-at.ensures ∙ step_nowhere c.loop-p.invariant (omega (arith, c.if-p-at.true, c.loop-p-test.false))

pub returns-then-at-s-2 : goal.returns-then-at-s-2
returns-then-at-s-2 c = step_end c.loop-p.invariant c.if-p-at.false c.if-at-s-2.true

pub behind-requires : goal.behind-requires
behind-requires c = step_there c.loop-p.invariant c.if-p-at.false c.if-at-s-2.false

pub part_row-requires : goal.part_row-requires
part_row-requires c = step_there c.loop-p.invariant c.if-p-at.false c.if-at-s-2.false

pub overflow_cast-result : goal.overflow_cast-result
overflow_cast-result c =
    let w = c.loop-p.invariant in
    let b = step_there w c.if-p-at.false c.if-at-s-2.false in
    let n = c.behind.ensures b.part b.behind b.left in
    omega (arith, n.1.front, n.1.short)

pub returns : goal.returns
returns c =
    let w = c.loop-p.invariant in
    step_row w c.if-p-at.false c.if-at-s-2.false c.behind.ensures c.part_row.ensures
