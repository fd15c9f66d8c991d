-- `digit_count` divides until one digit is left. Assumes nothing.
use mathlib.Core.Path.{◌≡◌}
use Prim.Native.Nat.{◌+◌, ◌≤◌}
use Rattle.list_words.specs.Numerals.{digit_count}
use Rattle.list_words.proofs.digit_count.Given as goal

abbrev pub invariant-loop-rest : goal.invariant-loop-rest
invariant-loop-rest l = (digit_count l.base l.n ≤ 10) × (l.k + digit_count l.base l.rest ≡ digit_count l.base l.n + 1)

abbrev pub decreases-loop-rest : goal.decreases-loop-rest
decreases-loop-rest l = l.rest
