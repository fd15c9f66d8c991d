-- What is left to add makes the whole draft.
use mathlib.Core.Path.{◌≡◌}
use mathlib.Core.List.{List}
use Prim.Native.Nat.{ℕ}
use lib.ListN.{drop}
use Rattle.format.specs.Legal.{Legal}
use Rattle.format.specs.Reading.{found}
use Rattle.format.specs.Claims.{additions}
use Rattle.rebuild.proofs.add_rows.Given as goal

abbrev pub invariant-loop-row : goal.invariant-loop-row
invariant-loop-row l =
    (g : Legal l.token) (e : List ℕ) → additions g.parts l.initial.draft ≡ found e → additions (drop l.row g.parts) l.draft ≡ found e
