-- What appending gives; its refusal gives way to the draft's own fault, which after the own fields of the last section is that of
-- its subsections.
use mathlib.Core.Path.{◌∙◌}
use Rattle.format.proofs.Answers.{passed_up}
use Rattle.reading.proofs.Filled.{bytes_of}
use Rattle.write_appended_part.specs.Appended.{appended}
use Rattle.write_subsection.proofs.Adding.{last_standing}
use Rattle.write_section.proofs.Calls.{own_refused, own_late, own_found, left_refused, left_found}
use Rattle.write_subsection.proofs.LastHead.{left}
use Rattle.write_subsection.proofs.append_subsection.Goals as goal

pub append-answer-requires : goal.append-answer-requires
append-answer-requires c = last_standing c.args.draft.now c.args.place c.requires.header c.requires.last

pub returns-in_default : goal.returns-in_default
returns-in_default c =
    let a = c.args in
    let e = c.in_default.ensures in
    let z = own_found a.draft.now (appended a.draft.now a.place a.part.now) e.answer e.draft in
    record { answer = c.in_default.is ∙ z.0; draft = z.1 }

pub returns-then-refusal-eq-NO_ROOM : goal.returns-then-refusal-eq-NO_ROOM
returns-then-refusal-eq-NO_ROOM c =
    let a = c.args in
    let e = c.in-Err.ensures in
    let z = own_refused a.draft.now (appended a.draft.now a.place a.part.now) e.answer e.draft c.own_fault_or.ensures in
    record { answer = z.0; draft = z.1 }

pub returns-in_err-last_alone : goal.returns-in_err-last_alone
returns-in_err-last_alone c =
    let d = c.args.draft.now in
    let w = c.args.part.now in
    let o = c.args.place in
    let b = bytes_of d (λ i. (c.slice_known-1.given i).fits) in
    let v = bytes_of w (λ i. (c.slice_known-2-1.given i).fits) in
    let e = c.in-Err.ensures in
    let a = e.answer in
    let l = left d w o c.args.first b v c.requires a c.if-refusal-eq-NO_ROOM.false c.if-earlier.false c.two-n.ensures.0 e.draft in
    let z = left_refused d o w _ l.0 l.1 a e.draft c.in_err-last_alone.ensures in
    record { answer = passed_up c.from_residual.ensures ∙ z.0; draft = z.1 }

pub returns : goal.returns
returns c =
    let d = c.args.draft.now in
    let w = c.args.part.now in
    let o = c.args.place in
    let b = bytes_of d (λ i. (c.slice_known-1.given i).fits) in
    let v = bytes_of w (λ i. (c.slice_known-2-1.given i).fits) in
    let e = c.in-Err.ensures in
    let a = e.answer in
    let l = left d w o c.args.first b v c.requires a c.if-refusal-eq-NO_ROOM.false c.if-earlier.false c.two-n.ensures.0 e.draft in
    let z = own_late d o w (left_found d _ l.0 l.1 c.in_ok-last_alone.ensures) a e.draft in
    record { answer = z.0; draft = z.1 }
