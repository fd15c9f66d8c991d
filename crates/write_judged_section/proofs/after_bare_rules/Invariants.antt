-- The loop over rules of 20 bytes.
use mathlib.Core.Path.{◌≡◌}
use Prim.Native.Nat.{ℕ, ◌-◌, ◌≤◌}
use lib.ListN.{length, drop}
use Rattle.write_judged_section.specs.Placing.{PassedTo}
use Rattle.write_judged_section.proofs.after_bare_rules.Given as goal

abbrev pub invariant-loop-q : goal.invariant-loop-q
invariant-loop-q l = (l.p ≤ l.q) × (l.q ≤ length l.s) × ((i : ℕ) → (0x12 ≡ i → ⊥) → PassedTo i (drop l.q l.s) (drop l.p l.s))

abbrev pub decreases-loop-q : goal.decreases-loop-q
decreases-loop-q l = length l.s - l.q
