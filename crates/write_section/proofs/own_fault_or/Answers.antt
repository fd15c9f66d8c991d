-- The draft's own fault, else the refusal.
use mathlib.Core.Path.{◌∙◌}
use Rattle.format.proofs.Answers.{passed_up}
use Rattle.write_section.proofs.Calls.{fault_first, fault_else}
use Rattle.write_section.proofs.own_fault_or.Goals as goal

pub returns-in_err-read_draft : goal.returns-in_err-read_draft
returns-in_err-read_draft c = passed_up c.from_residual.ensures ∙ (fault_first c.args.draft.now _ c.in_err-read_draft.ensures).0

pub returns : goal.returns
returns c = let r = c.args.refusal in fault_else c.args.draft.now r.number r.place c.in_ok-read_draft.ensures
