-- The draft's own fault, then that of its bytes as a token, then its length.
use mathlib.Core.Path.{sym, ◌∙◌}
use native.Mathlib.Omega.{arith}
use lib.Seq.{length-take-le}
use Rattle.format.proofs.Answers.{passed_up}
use Rattle.write_section.proofs.Calls.{reads, header_stands}
use Rattle.writer.proofs.Finishing.{finish_own, finish_refused, finish_done}
use Rattle.writer.proofs.finish.Goals as goal

pub returns-in_err-read_draft : goal.returns-in_err-read_draft
returns-in_err-read_draft c = passed_up c.from_residual.ensures ∙ finish_own _ c.in_err-read_draft.ensures

pub two-n-requires : goal.two-n-requires
two-n-requires c = let l = header_stands c.args.draft.now (reads c.args.draft.now c.in_ok-read_draft.ensures) in omega arith

pub slice_bounds-read-end : goal.slice_bounds-read-end
slice_bounds-read-end c =
    let d = c.args.draft.now in
    let l = header_stands d (reads d c.in_ok-read_draft.ensures) in
    sym (length-take-le _ d (omega (arith, c.two-n.ensures.0)))

pub returns-in_err-read : goal.returns-in_err-read
returns-in_err-read c =
    let d = c.args.draft.now in
    passed_up c.from_residual-in_err-read.ensures ∙ finish_refused d (reads d c.in_ok-read_draft.ensures) c.two-n.ensures.0 c.in_err-read.ensures

pub returns : goal.returns
returns c =
    let d = c.args.draft.now in
    finish_done d (reads d c.in_ok-read_draft.ensures) c.two-n.ensures.0 c.in_ok-read.ensures
