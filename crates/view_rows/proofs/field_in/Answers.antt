-- Where a field of a row lies: its row is looked for among the rows from a place on.
use native.Mathlib.Omega.{arith}
use Rattle.std.proofs.Common.{Err, ap, ◌∙◌}
use Rattle.view_rows.proofs.Searching.{seeks, seek_begins, seek_on, seek_stands, seek_found, seek_none}
use Rattle.view_rows.proofs.Places.{further}
use Rattle.view_rows.proofs.field_in.Goals as goal

pub loop-p-init : goal.loop-p-init
loop-p-init c = seeks c.requires c.first-p.ensures

pub part_row-requires : goal.part_row-requires
part_row-requires c = seek_begins c.loop-p.invariant c.loop-p-test.true

pub slot_at-requires : goal.slot_at-requires
slot_at-requires c = seek_stands c.loop-p.invariant c.loop-p-test.true c.part_row.ensures

pub returns-then-there : goal.returns-then-there
returns-then-there c =
    let w = c.loop-p.invariant in
    seek_found w c.loop-p-test.true c.if-there.true c.part_row.ensures c.slot_at.ensures

pub behind-p-requires : goal.behind-p-requires
behind-p-requires c = seek_begins c.loop-p.invariant c.loop-p-test.true

pub loop-p-smaller : goal.loop-p-smaller
loop-p-smaller c =
    let b = seek_begins c.loop-p.invariant c.loop-p-test.true in
    omega (arith, further b c.behind-p.ensures, c.loop-p-test.true)

pub loop-p-preserved : goal.loop-p-preserved
loop-p-preserved c = seek_on c.loop-p.invariant c.loop-p-test.true c.if-there.false c.behind-p.ensures

pub returns : goal.returns
returns c = ap Err c.at.ensures ∙ seek_none c.args.field c.loop-p.invariant c.loop-p-test.false
