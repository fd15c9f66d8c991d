-- The loop over rules of 20 bytes.
use mathlib.Core.Path.{◌≡◌, sym, ◌∙◌}
use native.Mathlib.Omega.{arith}
use lib.ListN.{drop}
use Rattle.format.specs.Reading.{id_of, stated}
use Rattle.write_last_part.proofs.Tiling.{stated_at, id_at_is}
use Rattle.write_judged_section.specs.Placing.{here}
use Rattle.write_judged_section.proofs.Passing.{passed_part}
use Rattle.write_judged_section.proofs.after_bare_rules.Goals as goal

pub loop-q-init : goal.loop-q-init
loop-q-init c = (omega arith, c.requires.0, λ i n. here)

pub loop-q-preserved : goal.loop-q-preserved
loop-q-preserved c =
    let s = c.args.s.now in
    let q = c.loop-q.q in
    let n = c.two.ensures.0 ∙ stated_at s q in
    let e = id_at_is s q (omega arith) in
    let id : id_of (drop q s) ≡ 0x12 = omega arith in
    let l : 20 ≡ stated (drop q s) = omega arith in
    (omega arith, omega arith, λ i k. passed_part s q (c.loop-q.invariant.2 i k) (λ e. k (sym id ∙ e)) l (omega arith) (omega arith))
