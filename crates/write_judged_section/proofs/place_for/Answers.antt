-- The draft's own reading, the two tests for room, then the walk over its sections.
use mathlib.Core.Path.{sym, subst, ◌∙◌}
use Prim.Native.Nat.{ℕ}
use native.Mathlib.Omega.{arith}
use lib.ListN.{take, drop}
use lib.Seq.{length-take-le}
use Rattle.format.proofs.Answers.{passed_up}
use Rattle.reading.proofs.Filled.{bytes_of}
use Rattle.write_last_part.specs.Tiling.{Tiled}
use Rattle.write_last_part.proofs.LaidSections.{reads_tiled}
use Rattle.write_appended_part.proofs.Outcomes.{past_most, past_lent}
use Rattle.write_section.proofs.Calls.{reads, header_stands}
use Rattle.write_judged_section.specs.Placing.{StandsIn}
use Rattle.write_judged_section.proofs.Sections.{stands_told}
use Rattle.write_judged_section.proofs.Places.{own_place, no_place, stands_before, place_after}
use Rattle.write_judged_section.proofs.place_for.Goals as goal

pub returns-in_err-read_draft : goal.returns-in_err-read_draft
returns-in_err-read_draft c =
    passed_up c.from_residual.ensures ∙ own_place c.args.draft.now c.args.id c.args.n c.in_err-read_draft.ensures

pub two-l-requires : goal.two-l-requires
two-l-requires c = let k = header_stands c.args.draft.now (reads c.args.draft.now c.in_ok-read_draft.ensures) in omega arith

pub overflow_sub-l : goal.overflow_sub-l
overflow_sub-l c =
    let k = header_stands c.args.draft.now (reads c.args.draft.now c.in_ok-read_draft.ensures) in
    let l = c.two-l.ensures.0 in
    omega (arith, k.most)

pub returns-then-l-n : goal.returns-then-l-n
returns-then-l-n c =
    let d = c.args.draft.now in
    let w = reads d c.in_ok-read_draft.ensures in
    let k = header_stands d w in
    let l = c.two-l.ensures.0 in
    no_place d c.args.id c.args.n w.0 c.at.ensures w.1 l (past_most d c.args.n (omega (arith, k.most)))

pub overflow_sub-draft : goal.overflow_sub-draft
overflow_sub-draft c =
    let k = header_stands c.args.draft.now (reads c.args.draft.now c.in_ok-read_draft.ensures) in
    let l = c.two-l.ensures.0 in
    omega arith

pub returns-then-draft-l : goal.returns-then-draft-l
returns-then-draft-l c =
    let d = c.args.draft.now in
    let w = reads d c.in_ok-read_draft.ensures in
    let k = header_stands d w in
    let l = c.two-l.ensures.0 in
    no_place d c.args.id c.args.n w.0 c.at-then-draft-l.ensures w.1 l (past_lent d c.args.n (omega arith))

pub slice_bounds-stands-end : goal.slice_bounds-stands-end
slice_bounds-stands-end c =
    let d = c.args.draft.now in
    let k = header_stands d (reads d c.in_ok-read_draft.ensures) in
    let l = c.two-l.ensures.0 in
    sym (length-take-le _ d (omega arith))

pub stands-requires : goal.stands-requires
stands-requires c =
    let d = c.args.draft.now in
    let w = reads d c.in_ok-read_draft.ensures in
    let k = header_stands d w in
    let l = c.two-l.ensures.0 in
    let n = length-take-le c.two-l.result d (omega arith) in (
      omega arith,
      omega (arith, k.most),
      subst (λ (j : ℕ). Tiled (drop 8 (take j d))) (sym l) (reads_tiled d w.0 (bytes_of d (λ i. (c.type_inv.draft i).fits)) w.1),
      c.requires,
    )

pub returns-then-stands : goal.returns-then-stands
returns-then-stands c =
    let d = c.args.draft.now in
    let w = reads d c.in_ok-read_draft.ensures in
    let k = header_stands d w in
    let l = c.two-l.ensures.0 in
    let i = c.args.id in
    let found = stands_told d w.0 i c.stands.result (bytes_of d (λ j. (c.type_inv.draft j).fits)) w.1
    (subst (λ (j : ℕ). StandsIn (drop 8 (take j d)) i c.stands.result) l c.stands.ensures) in
    stands_before d i c.args.n w.0 c.at-then-stands.ensures w.1 l (omega (arith, k.most)) (omega arith) (sym c.if-stands.true ∙ found)

pub returns : goal.returns
returns c =
    let d = c.args.draft.now in
    let w = reads d c.in_ok-read_draft.ensures in
    let k = header_stands d w in
    let l = c.two-l.ensures.0 in
    let i = c.args.id in
    let found = stands_told d w.0 i c.stands.result (bytes_of d (λ j. (c.type_inv.draft j).fits)) w.1
    (subst (λ (j : ℕ). StandsIn (drop 8 (take j d)) i c.stands.result) l c.stands.ensures) in
    place_after d i c.args.n w.0 w.1 l (omega (arith, k.most)) (omega arith) (sym c.if-stands.false ∙ found)
