-- The layouts and the tests of their fields are sound: one test, computed over all kinds.
use mathlib.Core.Path.{◌≡◌, refl}
use mathlib.Core.Bool.{Bool, true, false, not, ◌&&◌, ◌||◌}
use mathlib.Core.List.{List, [], ◌∷◌}
use Prim.Native.Nat.{ℕ, suc}
use lib.Dec.{eqb, leb, ltb}
use lib.ListN.{length}
use Rattle.format.specs.Bytes.{same_bytes}
use Rattle.format.specs.Layout.{Item, code, zeros, own, count, fixed, counted}
use Rattle.format.specs.Parts.{Kind, public_key, kinds, body, layout, same_kind}
use Rattle.format.specs.Rules.{Check}
use Rattle.format.specs.Rules.{checks}
use Rattle.format.proofs.Finding.{every_kind}
use Rattle.format.proofs.Fitting.{codes_fit}
use Rattle.format.proofs.Slots.{sound}
use Rattle.format.proofs.PartForm.{plain}

-- What is always 0 stands before the chosen fields; `chosen` says that one has come.
abbrev zeros_first : Bool → List Item → Bool
zeros_first chosen [] = true
zeros_first chosen (code w v ∷ l) = zeros_first chosen l
zeros_first chosen (zeros n q ∷ l) = not chosen && zeros_first chosen l
zeros_first chosen (own w ∷ l) = zeros_first chosen l
zeros_first chosen (count w k ∷ l) = zeros_first chosen l
zeros_first chosen (fixed n ∷ l) = zeros_first true l
zeros_first chosen (counted c ∷ l) = zeros_first true l

-- The numbers of the fields that are tested, in order.
abbrev tested_fields : List Check → List ℕ
tested_fields [] = []
tested_fields (c ∷ cs) = c.field ∷ tested_fields cs

-- None is below the one before, n.
abbrev rising : ℕ → List ℕ → Bool
rising n [] = true
rising n (m ∷ ms) = leb n m && rising m ms

-- Each test names a field of the layout after its frame, and a refusal from 10 to 21.
abbrev named : ℕ → List Check → Bool
named n [] = true
named n (c ∷ cs) = leb 3 c.field && ltb c.field n && leb 10 c.refusal && leb c.refusal 21 && named n cs

-- How many kinds have the same number.
abbrev alike : Kind → List Kind → ℕ
alike k [] = 0
alike k (j ∷ js) = elim (same_kind k j) [ true ↦ suc (alike k js) | false ↦ alike k js ]

-- Each count points at the field that it counts and each counted field goes by a count before it; ids and tags can be
-- stated; there is no id, tag or own length after the frame; what is always 0 comes first; the tests name fields and
-- refusals, in rising offset but for the modulus before the exponent; no other kind has the same number.
abbrev well_formed : Kind → Bool
well_formed k =
    let cs = checks true k [] in
    sound 0 (layout k)
    && codes_fit (layout k)
    && plain (body k)
    && zeros_first false (body k)
    && named (length (layout k)) cs
    && (rising 3 (tested_fields cs) || (same_kind public_key k && same_bytes (tested_fields cs) (4 ∷ 5 ∷ 6 ∷ 8 ∷ 7 ∷ 9 ∷ [])))
    && eqb (alike k kinds) 1

pub layouts_sound : (k : Kind) → well_formed k ≡ true
unfolding same_bytes
layouts_sound k = every_kind (λ j. well_formed j) refl k
