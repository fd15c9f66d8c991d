-- The rows of a section's subsections: what was to be stored before the first of them is to be stored after those passed.
use mathlib.Core.Path.{refl, ◌∙◌}
use native.Mathlib.Omega.{arith}
use Rattle.read_rows.proofs.Steps.{sub_inside, sub_turn, subs_end}
use Rattle.read_rows.proofs.put_subsections.Goals as goal

pub two-length-requires : goal.two-length-requires
two-length-requires c = omega (arith, sub_inside c.loop-q.invariant.0.within c.loop-q-test.true)

pub two-requires : goal.two-requires
two-requires c = omega (arith, sub_inside c.loop-q.invariant.0.within c.loop-q-test.true)

pub loop-q-smaller : goal.loop-q-smaller
loop-q-smaller c =
    let w = sub_turn c.loop-q.invariant.0.within c.loop-q-test.true c.two-length.ensures.0 c.two.ensures.0 refl in
    omega (arith, w.0, c.loop-q-test.true)

pub loop-q-preserved : goal.loop-q-preserved
loop-q-preserved c =
    let l = c.loop-q in
    let w = sub_turn l.invariant.0.within c.loop-q-test.true c.two-length.ensures.0 c.two.ensures.0 c.put_row.ensures in (
      record {
        first = l.invariant.0.first;
        rules = l.invariant.0.rules;
        id = l.invariant.0.id;
        within = w.1;
      },
      (λ t₀ rules i x. (sub_turn (l.invariant.1 t₀ rules i x) c.loop-q-test.true c.two-length.ensures.0 c.two.ensures.0 c.put_row.ensures).1),
      w.2 ∙ l.invariant.2,
    )

pub returns : goal.returns
returns c t₀ rules i w = subs_end (c.loop-q.invariant.1 t₀ rules i w) c.loop-q-test.false
