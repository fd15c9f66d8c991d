-- Where 17 points in a Rule ID: the bytes before it begin some Rule ID, with the byte there they begin none.
use mathlib.Core.Path.{◌≡◌, refl, sym, ap, ◌∙◌}
use mathlib.Core.Bool.{Bool, true, false}
use mathlib.Core.Logic.{⊎_elim}
use mathlib.Core.List.{List, [], ◌∷◌, ◌++◌}
use Prim.Native.Nat.{ℕ, suc, ◌+◌, ◌-◌, ◌<◌, ◌≤◌}
use native.Mathlib.Omega.{arith}
use native.Mathlib.Nat.{eq-zero-or-pos}
use lib.Dec.{eqb}
use lib.ListN.{length, take, drop, replicate, length-append, length-replicate}
use lib.Seq.{length-take-le}
use borrow.Author.Tests.{eqb-true, eqb-false}
use Rattle.format.specs.Forms.{leading, space, in_rule_id, padded, rule_id_form, rule_id_reach}
use Rattle.format.specs.Claims.{Stops}
use Rattle.format.proofs.FormRuns.{all_spaces, padded_of, no_character, goes_on, goes_nowhere, reaches_end}

space_apart : (b : ℕ) → space b ≡ true → in_rule_id b ≡ false
space_apart b e = ap in_rule_id (eqb-true b 0x20 e)

-- What is before the place of a refused Rule ID is the beginning of a Rule ID of the same length; with the byte at the place it
-- is the beginning of none.
pub rule_id_place : (bs : List ℕ) → 1 ≤ length bs → rule_id_form bs ≡ false → Stops rule_id_form bs (rule_id_reach bs)
unfolding rule_id_form rule_id_reach
rule_id_place bs h e = go (eqb (leading in_rule_id bs) 0) refl
  where
    Told : ℕ → Type 0
    Told n = (n < length bs)
        × ((t : List ℕ) × (length (take n bs ++ t) ≡ length bs) × (padded in_rule_id (take n bs ++ t) ≡ true))
        × ((t : List ℕ) → padded in_rule_id (take (suc n) bs ++ t) ≡ true → ⊥)

    before_end : 1 ≤ leading in_rule_id bs → leading in_rule_id bs + leading space (drop (leading in_rule_id bs) bs) < length bs
    before_end s =
        let n : ℕ = leading in_rule_id bs + leading space (drop (leading in_rule_id bs) bs) in
        ⊎_elim
        (λ (w : length bs - n ≡ 0). absurd (let c : true ≡ false = sym (reaches_end in_rule_id space_apart bs s (omega arith)) ∙ e in let v : ◌≡◌ {A = ℕ} 0 1 = cc in omega arith))
        (λ (w : 0 < length bs - n). omega arith) (eq-zero-or-pos (length bs - n))

    go : (y : Bool) → eqb (leading in_rule_id bs) 0 ≡ y
        → Told (elim y as (λ z. ℕ) [ true ↦ 0 | false ↦ leading in_rule_id bs + leading space (drop (leading in_rule_id bs) bs) ])
    go true q =
        let z = eqb-true (leading in_rule_id bs) 0 q in
        let l = length-replicate {A = ℕ} (length bs - 1) 0x20 in (
          h,
          (0x41 ∷ replicate (length bs - 1) 0x20, omega arith, padded_of in_rule_id space_apart (0x41 ∷ []) (replicate (length bs - 1) 0x20) (omega arith) refl (all_spaces (length bs - 1))),
          λ t p. no_character in_rule_id space_apart bs t h z p,
        )
    go false q =
        let a : ℕ = leading in_rule_id bs in
        let n : ℕ = a + leading space (drop a bs) in
        let z = eqb-false a 0 q in
        let some : 1 ≤ a = omega (arith, z) in
        let within : n < length bs = before_end some in
        let l = length-append (take n bs) (replicate (length bs - n) 0x20) in
        let k = length-replicate {A = ℕ} (length bs - n) 0x20 in
        let j = length-take-le n bs (omega arith) in (
          within,
          (replicate (length bs - n) 0x20, omega arith, goes_on in_rule_id space_apart bs (length bs - n) some),
          λ t p. goes_nowhere in_rule_id space_apart bs t within p,
        )
