-- The rows of a section's subsections: what was to be stored before the first of them is to be stored after those passed.
use mathlib.Core.Path.{◌≡◌}
use mathlib.Core.List.{List}
use Prim.Native.Nat.{ℕ, ◌+◌, ◌-◌}
use lib.ListN.{length}
use Rattle.read_rows.specs.Filling.{InSection, Subsections}
use Rattle.read_rows.proofs.put_subsections.Given as goal

abbrev pub invariant-loop-q : goal.invariant-loop-q
invariant-loop-q l =
    Subsections l.s l.table l.n l.q l.section
    × ((t₀ : List ℕ) (rules i : ℕ) → InSection l.s t₀ l.initial.table (l.section.owner + 1) l.p l.section rules i → InSection l.s t₀ l.table l.n l.q l.section rules i)
    × (length l.table ≡ length l.initial.table)

abbrev pub decreases-loop-q : goal.decreases-loop-q
decreases-loop-q l = l.e - l.q
