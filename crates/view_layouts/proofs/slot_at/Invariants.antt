-- Where a field lies: what is looked for among the fields that are left is what was looked for at first.
use lib.ListN.{drop}
use Rattle.view_layouts.proofs.Turns.{Walk}
use Rattle.view_layouts.proofs.slot_at.Given as goal

abbrev pub invariant-loop-number : goal.invariant-loop-number
invariant-loop-number l = Walk l.s l.at l.fn.kind l.field l.number l.place l.counts (drop l.number l.width-items)
