-- The header, then the sections in the stated length.
use mathlib.Core.Path.{sym, ap₂, ◌∙◌}
use mathlib.Core.Bool.{false}
use Prim.Native.Nat.{ℕ}
use native.Mathlib.Omega.{arith}
use lib.ListN.{take}
use lib.Seq.{length-take-le}
use Rattle.format.specs.Parts.{external}
use Rattle.format.proofs.Answers.{passed_up}
use Rattle.read_token.specs.Progress.{sections_answer}
use Rattle.read_token.proofs.Headers.{Lengths, id_first, header_stops, header_lengths, header_goes}
use Rattle.reading.proofs.draft.read_draft.Goals as goal
use Rattle.reading.proofs.draft.read_draft.Goals.{In_ok-header}

-- The lengths after a header that is not refused.
lengths : (c : In_ok-header) → Lengths c.args.draft.now
lengths c = header_lengths false c.args.draft.now c.in_ok-header.ensures

pub returns-in_err-header : goal.returns-in_err-header
returns-in_err-header c = passed_up c.from_residual.ensures ∙ header_stops false _ c.in_err-header.ensures

pub two-n-requires : goal.two-n-requires
two-n-requires c = omega (arith, (lengths (goal.at.two-n-requires c).In_ok-header).front)

pub slice_bounds-sections_of-end : goal.slice_bounds-sections_of-end
slice_bounds-sections_of-end c =
    let l = lengths (goal.at.slice_bounds-sections_of-end c).In_ok-header in
    sym (length-take-le _ c.args.draft.now (omega (arith, l.within, c.two-n.ensures.0)))

pub bounds-draft-0 : goal.bounds-draft-0
bounds-draft-0 c = omega (arith, (lengths (goal.at.bounds-draft-0 c).In_ok-header).front)

pub sections_of-requires : goal.sections_of-requires
sections_of-requires c =
    let l = lengths (goal.at.sections_of-requires c).In_ok-header in
    let n = c.two-n.ensures.0 in
    let m = length-take-le c.two-n.result c.args.draft.now (omega (arith, l.within, n)) in
    (omega (arith, m, n, l.least), omega (arith, m, n, l.most))

pub returns : goal.returns
returns c =
    let d = c.args.draft.now in
    let l = lengths (goal.at.returns c).In_ok-header in
    c.sections_of.ensures
    ∙ ap₂ (λ (n i : ℕ). sections_answer (take n d) false (external i)) c.two-n.ensures.0 (sym (id_first d (omega (arith, l.front))))
    ∙ sym (header_goes false d c.in_ok-header.ensures)
