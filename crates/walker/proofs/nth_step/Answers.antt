-- The steps by the reader are those of the walk. All that the proof knows of `start` and `next` is what each ensures.
use mathlib.Core.Path.{◌≡◌, sym, ap, ◌∙◌}
use mathlib.Core.List.{List}
use Prim.Native.Nat.{ℕ, suc, ◌+◌}
use native.Mathlib.Omega.{arith}
use borrow.Author.Rules.{rules}
use denote.Ref.{Bor}
use Rattle.format.specs.Views.{place_after}
use Rattle.format.specs.Claims.{walk_place}
use Rattle.walker.specs.Walking.{step_after}
use Rattle.walker.proofs.Laws.{stays, taken}
use Rattle.walker.proofs.nth_step.Goals as goal

pub loop-init : goal.loop-init
loop-init c =
    let a = c.start-w.ensures in
    let b = c.next-s.ensures in
    let held = ap (λ (r : Bor (List ℕ)). r.now) a.0 in
    let t = taken c.args.token.now 0 held a.1 b.0 b.1.1 in
    record { held = ap (λ (r : Bor (List ℕ)). r.now) b.1.0 ∙ held; step = t.0; place = t.1 }

pub loop-preserved : goal.loop-preserved
loop-preserved c =
    let i = c.loop.invariant in
    let b = c.next-s-in-loop.ensures in
    let n : suc c.loop.counter ≡ c.loop.counter + 1 = omega arith in
    let t = taken c.args.token.now (c.loop.counter + 1) i.held (i.place ∙ ap (λ k. walk_place k c.args.token.now 8) n) b.0 b.1.1 in
    record { held = ap (λ (r : Bor (List ℕ)). r.now) b.1.0 ∙ i.held; step = t.0; place = t.1 }

pub returns-after-loop : goal.returns-after-loop
returns-after-loop c =
    let e : c.loop.counter ≡ c.args.n = omega arith in
    c.loop.invariant.step ∙ ap (step_after c.args.token.now 8) e

-- At the end, and at a refusal.
pub returns-in_default : goal.returns-in_default
returns-in_default c = stays c.args.token.now 8 _ _ c.loop.invariant.step (λ p. search rules) (omega arith)

pub returns-in_default-2 : goal.returns-in_default-2
returns-in_default-2 c = stays c.args.token.now 8 _ _ c.loop.invariant.step (λ p. ap (place_after p) (sym c.in_default.is)) (omega arith)
