-- Following the steps of a token from a place.
use Rattle.std.specs.Prelude.{◌≡◌, List, ℕ, zero, suc}
use Rattle.std.specs.Borrow.{Bor}
use Rattle.format.specs.Views.{step_at, place_after}
use Rattle.format.specs.Answers.{Step}
use Rattle.walker.specs.declared.Walker.{Walker}

-- the step after n steps from a place, each taken where the one before leads
unfoldable pub step_after : List ℕ → ℕ → ℕ → Step
step_after bs at zero = step_at bs at
step_after bs at (suc n) = step_after bs (place_after at (step_at bs at)) n

-- a reader as `start` makes it of a token, and as each call of `next` leaves it, with the steps that the calls give
abbrev pub Followed : Bor (List ℕ) → (ℕ → Walker) → (ℕ → Step) → Type 0
Followed token w s =
    (((w 0).token ≡ token) × ((w 0).place ≡ 8))
    × ((k : ℕ)
    → (s k ≡ step_at (w k).token.now (w k).place)
    × (((w (suc k)).token ≡ (w k).token) × ((w (suc k)).place ≡ place_after (w k).place (s k))))
