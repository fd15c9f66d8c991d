-- The loop over the sections that are no rules of 20 bytes.
use mathlib.Core.Path.{sym, ◌∙◌}
use native.Mathlib.Omega.{arith}
use lib.ListN.{drop, length-drop}
use Rattle.write_last_part.proofs.Tiling.{stated_at, id_at_is}
use Rattle.write_judged_section.proofs.Passing.{passed_tiled, passed_through, passed_part, part_ends}
use Rattle.write_judged_section.proofs.stands.Goals as goal

pub returns-then-s-p : goal.returns-then-s-p
returns-then-s-p c =
    let s = c.args.s.now in
    let p = c.loop-p.p in
    let l = length-drop p s in
    (drop p s, passed_tiled c.loop-p.invariant.1, omega arith, id_at_is s p (omega arith) ∙ c.if-s-p.true)

pub two-n-requires : goal.two-n-requires
two-n-requires c = let e = part_ends c.args.s.now c.loop-p.p c.requires.2 c.loop-p.invariant.1 c.loop-p-test.true in omega arith

pub after_bare_rules-p-requires-in-loop-p : goal.after_bare_rules-p-requires-in-loop-p
after_bare_rules-p-requires-in-loop-p c =
    let e = part_ends c.args.s.now c.loop-p.p c.requires.2 c.loop-p.invariant.1 c.loop-p-test.true in
    let n = c.two-n.ensures.0 ∙ stated_at c.args.s.now c.loop-p.p in
    (omega arith, c.requires.1)

pub loop-p-smaller : goal.loop-p-smaller
loop-p-smaller c =
    let e = part_ends c.args.s.now c.loop-p.p c.requires.2 c.loop-p.invariant.1 c.loop-p-test.true in
    let n = c.two-n.ensures.0 ∙ stated_at c.args.s.now c.loop-p.p in
    omega arith

pub loop-p-preserved : goal.loop-p-preserved
loop-p-preserved c =
    let s = c.args.s.now in
    let p = c.loop-p.p in
    let after = c.after_bare_rules-p-in-loop-p.ensures in
    let e = part_ends s p c.requires.2 c.loop-p.invariant.1 c.loop-p-test.true in
    let n = c.two-n.ensures.0 ∙ stated_at s p in
    let one = passed_part s p c.loop-p.invariant.1 (λ q. c.if-s-p.false (sym (id_at_is s p (omega arith)) ∙ q)) n (omega arith) (omega arith) in
    (after.1, passed_through one (after.2 c.args.id c.requires.3))
