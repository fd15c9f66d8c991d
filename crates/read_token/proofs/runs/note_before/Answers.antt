-- The loop over the sections before p.
use mathlib.Core.Path.{refl}
use mathlib.Core.List.{[]}
use native.Mathlib.Omega.{arith}
use Rattle.read_sections.proofs.Laws.{number_at}
use Rattle.read_token.proofs.Notes.{NextNoted, noted_next, noted_more, noted_all}
use Rattle.read_token.proofs.runs.note_before.Goals as goal
use Rattle.read_token.proofs.runs.note_before.Goals.{In-loop-q}

-- The section at q.
next : (c : In-loop-q) → NextNoted c.args.s.now c.requires.3.0 c.args.p c.loop-q.q c.loop-q.ids
next c = noted_next (c.loop-q.invariant c.requires.3.0 c.requires.3.1) c.loop-q-test.true

pub loop-q-init : goal.loop-q-init
loop-q-init c before a = record { done = []; rest = before; whole = refl; ahead = a; held = c.requires.2 }

pub note-requires : goal.note-requires
note-requires c =
    let w = next (goal.at.note-requires c).In-loop-q in
    record { before = w.done; section = w.section; stands = w.stands; inside = omega (arith, w.inside, c.requires.1); short = c.requires.0; held = w.held }

pub two-q-requires : goal.two-q-requires
two-q-requires c =
    let w = next (goal.at.two-q-requires c).In-loop-q in
    omega (arith, w.four, w.inside, c.requires.1)

pub loop-q-smaller : goal.loop-q-smaller
loop-q-smaller c =
    let w = next (goal.at.loop-q-smaller c).In-loop-q in
    omega (arith, w.four, w.inside, number_at _ _ 2 2 c.two-q.ensures.0)

pub loop-q-preserved : goal.loop-q-preserved
loop-q-preserved c before a =
    noted_more (noted_next (c.loop-q.invariant before a) c.loop-q-test.true) c.note.ensures (number_at _ _ 2 2 c.two-q.ensures.0)

pub returns : goal.returns
returns c before a = noted_all (c.loop-q.invariant before a) c.loop-q-test.false
