-- The reader holds the bytes passed; its last step is the one after as many as were counted, and its place the one behind that.
use mathlib.Core.Path.{◌≡◌}
use Prim.Native.Nat.{suc}
use Rattle.format.specs.Claims.{walk_place}
use Rattle.walker.specs.Walking.{step_after}
use Rattle.walker.proofs.nth_step.Given as goal

abbrev pub invariant-loop : goal.invariant-loop
invariant-loop l = record {
  held : l.w.token.now ≡ l.token;
  step : l.s ≡ step_after l.token 8 l.counter;
  place : l.w.place ≡ walk_place (suc l.counter) l.token 8;
}
