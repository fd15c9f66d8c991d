-- What is left to add makes the whole draft.
use mathlib.Core.Path.{refl}
use native.Mathlib.Omega.{arith}
use Rattle.rebuild.proofs.Laws.{row_there, one_added, accepted_not, all_added}
use Rattle.rebuild.proofs.add_rows.Goals as goal

pub loop-row-init : goal.loop-row-init
loop-row-init c = λ l e h. h

pub add_row-requires : goal.add_row-requires
add_row-requires c = row_there c.requires c.loop-row-test.true

pub returns-in_err-add_row : goal.returns-in_err-add_row
returns-in_err-add_row c =
    λ l e h.
    let w = one_added c.requires c.loop-row-test.true _ l e (c.loop-row.invariant l e h) c.in_err-add_row.ensures in
    absurd (accepted_not w.0.1)

pub loop-row-preserved : goal.loop-row-preserved
loop-row-preserved c =
    λ l e h. (one_added c.requires c.loop-row-test.true _ l e (c.loop-row.invariant l e h) c.add_row.ensures).1

pub returns : goal.returns
returns c =
    λ l e h. (refl, all_added c.requires c.loop-row.row (omega arith) l e (c.loop-row.invariant l e h))
