-- The two tests for room, then the longer draft in its place, by the contracts of `exchange_part` and `read_draft`.
use mathlib.Core.Path.{sym, ap₂, ◌∙◌}
use mathlib.Core.List.{List}
use Prim.Native.Nat.{ℕ}
use native.Mathlib.Omega.{arith}
use lib.ListN.{length}
use lib.Seq.{sets}
use Rattle.format.proofs.Changes.{restate}
use Rattle.reading.proofs.Filled.{bytes_of}
use Rattle.write_last_part.proofs.Tiling.{stated_at}
use Rattle.write_appended_part.proofs.InPlace.{put_in, in_front, taken_out}
use Rattle.write_appended_part.proofs.Outcomes.{past_most, past_lent, no_room, longer_refused, longer_found}
use Rattle.write_appended_part.proofs.append.Goals as goal

pub returns-then-l-k : goal.returns-then-l-k
returns-then-l-k c =
    let d = c.args.draft.now in
    let w = c.args.part.now in
    let n = c.two-l.ensures.0 in
    let z = no_room d c.args.section w c.at.ensures n (past_most d (length w) (omega arith)) in
    record { answer = z.0; draft = z.1 }

pub returns-then-draft-l : goal.returns-then-draft-l
returns-then-draft-l c =
    let d = c.args.draft.now in
    let w = c.args.part.now in
    let n = c.two-l.ensures.0 in
    let z = no_room d c.args.section w c.at-then-draft-l.ensures n (past_lent d (length w) (omega arith)) in
    record { answer = z.0; draft = z.1 }

pub exchange_part-requires : goal.exchange_part-requires
exchange_part-requires c =
    let el = c.two-l.ensures.0 in
    let em = c.two-m.ensures.0 ∙ stated_at c.args.draft.now c.args.section in
    (omega arith, omega arith, omega arith, omega arith)

-- The longer draft stands in front.
pub returns-in-Err : goal.returns-in-Err
returns-in-Err c =
    let a = c.args in
    let d = a.draft.now in
    let o = a.section in
    let w = a.part.now in
    let s = c.requires in
    let el = c.two-l.ensures.0 in
    let em = c.two-m.ensures.0 ∙ stated_at d o in
    let new = c.exchange_part.ensures.draft ∙ put_in d o w s el em (omega arith) in
    let old =
    c.exchange_part-in-Err.ensures.draft
    ∙ ap₂ (λ (y v : List ℕ). restate o c.two-m.result (restate 0 c.two-l.result (sets y c.two-l.result v))) new c.exchange_part.ensures.part
    ∙ taken_out d o w (bytes_of d (λ i. (c.slice_known-1.given i).fits)) s el em (omega arith) in
    let r = longer_refused d o w (omega arith) (omega arith) (in_front d o w s el new) (sym c.in-Err.is ∙ c.read_draft.ensures) in
    record { answer = r.0; draft = old ∙ r.1 }

pub returns : goal.returns
returns c =
    let a = c.args in
    let d = a.draft.now in
    let o = a.section in
    let w = a.part.now in
    let s = c.requires in
    let el = c.two-l.ensures.0 in
    let em = c.two-m.ensures.0 ∙ stated_at d o in
    let new = c.exchange_part.ensures.draft ∙ put_in d o w s el em (omega arith) in
    let z = longer_found d o w s (omega arith) (omega arith) (in_front d o w s el new) (sym c.in_default.is ∙ c.read_draft.ensures) (omega arith) new in
    record { answer = z.0; draft = z.1 }
