-- What appending gives; its refusal gives way to the draft's own fault, and there is none where it comes at the draft's end.
use mathlib.Core.Path.{sym, subst, ◌∙◌}
use native.Mathlib.Omega.{arith}
use Rattle.format.specs.Reading.{stated}
use Rattle.reading.proofs.Filled.{bytes_of}
use Rattle.write_appended_part.specs.Appended.{appended}
use Rattle.write_section.proofs.Calls.{own_refused, own_late, own_found, appended_refused}
use Rattle.write_section.proofs.Refusals.{Late, front_read}
use Rattle.write_section.proofs.append_section.Goals as goal

pub returns-in_default : goal.returns-in_default
returns-in_default c =
    let e = c.in_default.ensures in
    let z = own_found c.args.draft.now (appended c.args.draft.now 0 c.args.part.now) e.answer e.draft in
    record { answer = c.in_default.is ∙ z.0; draft = z.1 }

pub returns-then-no_room : goal.returns-then-no_room
returns-then-no_room c =
    let e = c.in-Err.ensures in
    let z = own_refused c.args.draft.now (appended c.args.draft.now 0 c.args.part.now) e.answer e.draft c.own_fault_or.ensures in
    record { answer = z.0; draft = z.1 }

pub returns : goal.returns
returns c =
    let d = c.args.draft.now in
    let w = c.args.part.now in
    let e = c.in-Err.ensures in
    let f = appended_refused d 0 w e.answer c.if-no_room.false in
    let n = c.two-n.ensures.0 in
    let at = f.1.1.1 in
    let z = own_late d 0 w
    (front_read d w (bytes_of d (λ i. (c.slice_known-1.given i).fits)) (bytes_of w (λ i. (c.slice_known-2-1.given i).fits))
    c.requires.0 f.0 c.requires.1 (subst (Late (stated d)) (sym f.1.1.0) (omega arith)))
    e.answer e.draft in
    record { answer = z.0; draft = z.1 }
