-- The loop over the subsections of section 14: what is read from here is what is read from the first one on.
use mathlib.Core.List.{[]}
use mathlib.Core.Path.{refl}
use native.Mathlib.Omega.{arith}
use borrow.Author.Rules.{rules}
use Rattle.std.proofs.lemmas.Bool.Decides.{nat_tests}
use Rattle.format.proofs.Answers.{passed_up}
use Rattle.read_information.proofs.Laws.{room, turn_one, turn_two, turn_stops, ends_there, ends_missing}
use Rattle.std.proofs.Common.{◌∙◌}
use Rattle.read_information.proofs.information_subs.Goals as goal
use Rattle.read_information.proofs.information_subs.Goals.{then-two-eq1, else-two-eq1}

pub loop-at-init : goal.loop-at-init
loop-at-init c = record { done = []; protections = refl; dateds = refl; unmasked = refl; rows = refl; few = omega arith; ends = search rules; same = refl }

pub information_sub-requires : goal.information_sub-requires
information_sub-requires c = (omega (arith, c.loop-at.invariant.ends), search rules)

pub returns-in_err-information_sub : goal.returns-in_err-information_sub
returns-in_err-information_sub c = passed_up c.from_residual.ensures ∙ turn_stops _ c.loop-at.invariant c.loop-at-test.true c.in_err-information_sub.ensures c.two-end.ensures.0

pub two-requires : goal.two-requires
two-requires c = let r = room c.loop-at.invariant c.loop-at-test.true c.in_ok-information_sub.ensures in omega (arith, r)

pub overflow_add-rows : goal.overflow_add-rows
overflow_add-rows c = let r = room c.loop-at.invariant c.loop-at-test.true c.in_ok-information_sub.ensures in omega (arith, c.loop-at.invariant.few)

pub overflow_add-at-in-loop-at : goal.overflow_add-at-in-loop-at
overflow_add-at-in-loop-at c = let r = room c.loop-at.invariant c.loop-at-test.true c.in_ok-information_sub.ensures in omega (arith, r)

pub two-at-requires : goal.two-at-requires
two-at-requires c = let r = room c.loop-at.invariant c.loop-at-test.true c.in_ok-information_sub.ensures in omega (arith, r)

pub loop-at-smaller : goal.loop-at-smaller
loop-at-smaller c = let r = room c.loop-at.invariant c.loop-at-test.true c.in_ok-information_sub.ensures in omega (arith, r, c.two-at.ensures.0)

pub loop-at-preserved : goal.loop-at-preserved
loop-at-preserved c =
    let w = c.loop-at.invariant in
    let h = c.loop-at-test.true in
    let f = c.in_ok-information_sub.ensures in
    let l = c.two-at.ensures.0 in
    let tag = c.two.ensures.0 in
    elim c.if-two-eq1.branch [
      | then-two-eq1 v ↦ turn_one w h f l tag v.if-two-eq1.true v.protected-is v.dated-is
      | else-two-eq1 v ↦ turn_two w h f l tag v.if-two-eq1.false v.protected-is v.dated-is
    ]

pub returns-then-missing : goal.returns-then-missing
returns-then-missing c = ends_missing _ c.loop-at.invariant c.loop-at-test.false c.two-end.ensures.0 c.refused.ensures (search rules)

pub returns : goal.returns
returns c = ends_there _ c.loop-at.invariant c.loop-at-test.false c.two-end.ensures.0 (grind (arith, nat_tests))
