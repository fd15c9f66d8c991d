-- The loop of `put_number`: the digits that are left, set before those that are, give all of them.
use mathlib.Core.List.{[], ◌∷◌, ◌++◌}
use mathlib.Core.Path.{◌≡◌}
use Prim.Native.Nat.{◌+◌, ◌≤◌}
use lib.ListN.{length}
use Rattle.list_words.specs.Numerals.{numeral}
use Rattle.list_words.proofs.Stores.{with_digits}
use Rattle.list_words.proofs.put_number.Given as goal

abbrev pub invariant-loop-k : goal.invariant-loop-k
invariant-loop-k l =
    (l.k ≤ l.count)
    × (length l.line ≡ l.first + l.count + 1)
    × (with_digits l.line l.first l.k l.base l.rest ≡ l.fn.line ++ (numeral l.base l.width l.n ++ (l.end ∷ [])))

abbrev pub decreases-loop-k : goal.decreases-loop-k
decreases-loop-k l = l.k
