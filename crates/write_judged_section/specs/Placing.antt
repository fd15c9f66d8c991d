-- Internal: where a section is put that may stand only once in a draft.
use Rattle.std.specs.Prelude.{◌≡◌, Bool, true, false, not, ◌&&◌, ◌||◌, List, [], ◌∷◌, ℕ, ◌+◌, ◌≤◌, ◌<◌, eqb, leb, length, drop}
use Rattle.format.specs.Parts.{section_id}
use Rattle.format.specs.Rules.{longest, Section}
use Rattle.format.specs.Reading.{Outcome, found, fault, need, and_then, id_of, stated, reading}
use Rattle.write_last_part.specs.Tiling.{TiledTo}

-- a section with the id i is among these
abbrev pub id_among : ℕ → List Section → Bool
id_among i [] = false
id_among i (s ∷ ss) = eqb (section_id s.head.kind) i || id_among i ss

-- the place after the draft of a section with the id i and n bytes: the draft's own fault, 23, then 9
unfoldable pub place_for : ℕ → ℕ → List ℕ → Outcome ℕ
place_for i n d =
    and_then (reading false d)
    (λ ss.
    need (leb (stated d + n) longest && leb (stated d + n) (length d)) (fault 23 (stated d) (stated d))
    (need (not (id_among i ss)) (fault 9 (stated d) (stated d)) (found (stated d))))

-- stepping from part to part by the lengths that they state, one comes from the front of the bytes to z, past no part with
-- the id i
pub data PassedTo (i : ℕ) (z : List ℕ) : List ℕ → Type 0 where
  here : PassedTo i z z
  next : {r : List ℕ} → (id_of r ≡ i → ⊥) → 4 ≤ stated r → stated r ≤ length r → PassedTo i z (drop (stated r) r) → PassedTo i z r

-- a part with the id i stands among those that tile r, or does not
abbrev pub StandsIn : List ℕ → ℕ → Bool → Type 0
StandsIn r i true = (z : List ℕ) × (TiledTo z r) × (0 < length z) × (id_of z ≡ i)
StandsIn r i false = PassedTo i [] r
