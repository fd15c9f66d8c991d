-- The header, then the loop over the sections.
use mathlib.Core.Path.{sym, subst, ◌∙◌}
use mathlib.Core.Bool.{false}
use Prim.Native.Nat.{ℕ}
use native.Mathlib.Omega.{arith}
use lib.ListN.{take}
use lib.Seq.{length-take-le}
use Rattle.reading.proofs.Filled.{bytes_of}
use Rattle.read_token.proofs.Headers.{header_lengths}
use Rattle.write_last_part.specs.Tiling.{LastOf}
use Rattle.write_last_part.proofs.Whole.{header_unread, section_last}
use Rattle.write_last_part.proofs.last_section.Goals as goal

pub returns-in_default : goal.returns-in_default
returns-in_default c = header_unread c.args.draft.now (sym c.in_default.is ∙ c.header.ensures)

pub two-n-requires : goal.two-n-requires
two-n-requires c = let l = header_lengths false c.args.draft.now c.in-Ok.ensures in omega arith

pub slice_bounds-last_part-end : goal.slice_bounds-last_part-end
slice_bounds-last_part-end c =
    let d = c.args.draft.now in
    let l = header_lengths false d c.in-Ok.ensures in
    sym (length-take-le _ d (omega (arith, c.two-n.ensures.0)))

pub last_part-requires : goal.last_part-requires
last_part-requires c =
    let d = c.args.draft.now in
    let l = header_lengths false d c.in-Ok.ensures in
    let n = c.two-n.ensures.0 in
    let m = length-take-le c.two-n.result d (omega arith) in
    (omega arith, omega (arith, l.most))

pub returns : goal.returns
returns c =
    let d = c.args.draft.now in
    section_last d c.last_part.result (bytes_of d (λ k. (c.type_inv.draft k).fits)) c.in-Ok.ensures
    (subst (λ (n : ℕ). LastOf (take n d) 8 c.last_part.result) c.two-n.ensures.0 c.last_part.ensures)
