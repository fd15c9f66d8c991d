-- The draft's own fault, else 24. Assumes nothing.
use mathlib.Core.Path.{◌∙◌}
use native.Mathlib.Omega.{arith}
use Rattle.format.proofs.Answers.{passed_up}
use Rattle.write_section.proofs.Calls.{reads, header_stands, unfit_fault, unfit_else}
use Rattle.write_section.proofs.not_fitting.Goals as goal

pub two-requires : goal.two-requires
two-requires c = let s = header_stands c.args.draft.now (reads c.args.draft.now c.in_ok-read_draft.ensures) in omega arith

pub returns-in_err-read_draft : goal.returns-in_err-read_draft
returns-in_err-read_draft c = passed_up c.from_residual.ensures ∙ unfit_fault c.args.draft.now c.in_err-read_draft.ensures

pub returns : goal.returns
returns c = unfit_else c.args.draft.now (reads c.args.draft.now c.in_ok-read_draft.ensures) c.at.ensures c.two.ensures.0
