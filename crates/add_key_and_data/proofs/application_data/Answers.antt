-- `application_data`: the place, then the section's bytes and the new length.
use mathlib.Core.Path.{refl, ◌∙◌}
use mathlib.Core.List.{[], ◌∷◌}
use Prim.Native.Nat.{◌+◌}
use native.Mathlib.Omega.{arith}
use lib.ListN.{length}
use Rattle.format.specs.Parts.{application_data}
use Rattle.format.proofs.Answers.{passed_up}
use Rattle.reading.proofs.Filled.{bytes_of}
use Rattle.write_section.proofs.Additions.{unfit_added}
use Rattle.write_section.proofs.Fields.{count_unfit}
use Rattle.write_judged_section.proofs.Answers.{no_place, put_after}
use Rattle.add_key_and_data.proofs.Ready.{data_ready, room, part_long, put_and_stated}
use Rattle.add_key_and_data.proofs.application_data.Goals as goal

pub returns-then-too_long : goal.returns-then-too_long
returns-then-too_long c =
    let a = c.args in
    let z = unfit_added application_data (a.«data».now ∷ []) a.draft.now (count_unfit (length a.«data».now) 65535 _ (omega arith)) c.not_fitting.ensures in
    record { answer = z.0; draft = z.1 }

pub returns-in_err-l : goal.returns-in_err-l
returns-in_err-l c =
    let a = c.args in
    let z = no_place (data_ready a.draft.now a.«data».now (omega arith) (bytes_of a.draft.now (λ i. (c.slice_known-1.given i).fits))) c.in_err-l.ensures in
    record { answer = passed_up c.from_residual.ensures ∙ z.0; draft = z.1 }

pub slice_bounds-put_data-end : goal.slice_bounds-put_data-end
slice_bounds-put_data-end c =
    let a = c.args in
    let n = 6 + length a.«data».now in
    let r = room a.draft.now 0x15 n c.in_ok-l.ensures in
    omega arith

pub put_data-requires : goal.put_data-requires
put_data-requires c =
    let a = c.args in
    let n = 6 + length a.«data».now in
    let r = room a.draft.now 0x15 n c.in_ok-l.ensures in
    let l = part_long a.draft.now c.in_ok-l.field-0 n r.there in
    (l, omega arith)

pub overflow_cast-end : goal.overflow_cast-end
overflow_cast-end c =
    let a = c.args in
    let n = 6 + length a.«data».now in
    let r = room a.draft.now 0x15 n c.in_ok-l.ensures in
    omega arith

pub overflow_cast-result : goal.overflow_cast-result
overflow_cast-result c =
    let a = c.args in
    let n = 6 + length a.«data».now in
    let r = room a.draft.now 0x15 n c.in_ok-l.ensures in
    omega arith

pub returns : goal.returns
returns c =
    let a = c.args in
    let n = 6 + length a.«data».now in
    let r = room a.draft.now 0x15 n c.in_ok-l.ensures in
    let y = data_ready a.draft.now a.«data».now (omega arith) (bytes_of a.draft.now (λ i. (c.slice_known-1.given i).fits)) in
    let z = put_after y c.in_ok-l.ensures tt refl
    (put_and_stated application_data (a.«data».now ∷ []) a.draft.now c.in_ok-l.field-0 n r c.put_data.ensures y.long (c.copy_from_slice.ensures.after ∙ c.to_be_bytes.ensures)) in
    record { answer = z.0; draft = z.1 }
