-- A token built again by the writer's calls: what it comes to.
-- Beside 00: "Adding the parts of any legal token in their order, to a draft newly started with its identifier and with
-- room, gives back its very bytes." Here bs is the token and d the lent draft.
use Rattle.std.specs.Prelude.{true, List, ℕ, leb, length}
use Rattle.format.specs.Reading.{Outcome, found, fault, need, and_then, reading}

-- the token's own refusal; 23 where the draft has no room for it; else its very bytes
unfoldable pub rebuilt : List ℕ → List ℕ → Outcome (List ℕ)
rebuilt bs d = and_then (reading true bs) (λ ss. need (leb (length bs) (length d)) (fault 23 0 0) (found bs))
