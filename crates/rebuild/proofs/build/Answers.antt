-- Every call is accepted, and the draft is the token.
use mathlib.Core.Path.{ap, ◌∙◌}
use Rattle.format.specs.Writer.{finish}
use Rattle.rebuild.proofs.Laws.{accepted_not, built, started, to_add}
use Rattle.rebuild.proofs.build.Goals as goal

pub returns-in_err-start : goal.returns-in_err-start
returns-in_err-start c =
    let w = built c.requires.0 c.requires.1 in
    absurd (accepted_not (started w c.in_err-start.ensures.answer))

pub returns-in_err-add_rows : goal.returns-in_err-add_rows
returns-in_err-add_rows c =
    let w = built c.requires.0 c.requires.1 in
    let a = c.in_err-add_rows.ensures w.legal w.end (to_add w c.start.ensures.draft) in
    absurd (accepted_not a.0)

pub returns : goal.returns
returns c =
    let w = built c.requires.0 c.requires.1 in
    let a = c.add_rows.ensures w.legal w.end (to_add w c.start.ensures.draft) in
    (c.finish.ensures ∙ ap finish a.1 ∙ w.finish, a.1 ∙ w.form)
