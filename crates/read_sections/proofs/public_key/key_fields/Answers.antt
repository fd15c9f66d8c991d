-- The rules on the fields of a public key, one after another.
use mathlib.Core.Path.{◌≡◌, sym, ap, ◌∙◌}
use mathlib.Core.Bool.{Bool, true, false}
use mathlib.Core.List.{List, [], ◌∷◌}
use Prim.Native.Nat.{ℕ, ◌+◌, ◌/◌, ◌≤◌}
use native.Mathlib.Omega.{arith}
use lib.ListN.{length, drop}
use borrow.Author.Tests.{eq-eqb, ne_eqb}
use Rattle.format.specs.Bytes.{number, bytes_at}
use Rattle.format.specs.Parts.{public_key}
use Rattle.format.specs.Forms.{fewest_bytes, modulus_form, exponent_form}
use borrow.Author.Rules.{rules}
use Rattle.format.specs.Rules.{checks, modulus_bits_allowed}
use Rattle.format.specs.Reading.{Test, located, part_slots}
use Rattle.read_fields.proofs.Sizes.{bytes_of, modulus_first}
use Rattle.read_sections.proofs.Laws.{Left, all_left, passed, failed_at, none_left}
use Rattle.read_sections.proofs.KeyLaws.{between_yes, between_low, between_high, flag_yes, flag_not}
use Rattle.read_sections.proofs.public_key.key_fields.Goals as goal

-- the rules, of fields whose numbers are in b and f and whose lengths stand in r
abbrev Tests : List ℕ → List ℕ → List ℕ → List ℕ → List ℕ → List Test
Tests exponent modulus r b f = located (part_slots public_key r) (checks false public_key (b ∷ exponent ∷ modulus ∷ f ∷ []))

-- the first k of them are kept
abbrev Past : ℕ → ℕ → List ℕ → List ℕ → List ℕ → List ℕ → List ℕ → Type 0
Past p k exponent modulus r b f = Left p (Tests exponent modulus r b f) (drop k (Tests exponent modulus r b f))

-- of a number of bits: the modulus is the fewest bytes that hold them, and has them
abbrev fewest : List ℕ → ℕ → Bool
fewest modulus n = fewest_bytes n (length modulus)

abbrev form : List ℕ → ℕ → Bool
form modulus n = modulus_form n modulus

-- where the modulus and the flags of a key at p lie, by the lengths and by what states them
modulus_place : (p : ℕ) (r e : List ℕ) → number (bytes_at r 6 2) ≡ length e → p + 12 + length e ≡ p + (12 + number (bytes_at r 6 2) + 0)
modulus_place p r e x = omega arith

flags_place : (p : ℕ) (r e m : List ℕ) → number (bytes_at r 6 2) ≡ length e → number (bytes_at r 10 2) ≡ length m
    → p + 12 + length e + length m ≡ p + (12 + number (bytes_at r 6 2) + number (bytes_at r 10 2) + 0)
flags_place p r e m x y = omega arith

module _ (p : ℕ) (e m r b f : List ℕ) {n : ℕ} (q : n ≡ number b) (lo : 1 ≤ length e) (hi : length e ≤ 512) where
  -- the exponent's length
  past_length : Past p 1 e m r b f
  past_length = passed (all_left _) (between_yes 1 512 lo hi)

  module _ (least : 512 ≤ n) (most : n ≤ 4096) where
    -- the bits
    past_bits : Past p 2 e m r b f
    past_bits = passed past_length (ap modulus_bits_allowed (sym q) ∙ between_yes 512 4096 least most)

    module _ (few : length m ≡ (n + 7) / 8) where
      -- the modulus's length
      past_fewest : Past p 3 e m r b f
      past_fewest = passed past_bits (ap (fewest m) (sym q) ∙ eq-eqb _ _ few)

      module _ {v : Bool} (form_is : v ≡ modulus_form n m) (formed : v ≡ true) where
        -- the modulus
        past_form : Past p 4 e m r b f
        past_form = passed past_fewest (ap (form m) (sym q) ∙ sym form_is ∙ formed)

        -- the exponent
        past_exponent : {w : Bool} → w ≡ exponent_form e m → w ≡ true → Past p 5 e m r b f
        past_exponent x y = passed past_form (sym x ∙ y)

pub returns-then-exponent-lt1 : goal.returns-then-exponent-lt1
returns-then-exponent-lt1 c r b f x y q g =
    failed_at (all_left (Tests c.args.exponent.now c.args.modulus.now r b f)) c.at.ensures (omega (arith, c.from-p.ensures)) (between_low 1 512 c.if-exponent-lt1.true)

pub returns-then-too_long : goal.returns-then-too_long
returns-then-too_long c r b f x y q g =
    failed_at (all_left (Tests c.args.exponent.now c.args.modulus.now r b f)) c.at-then-too_long.ensures (omega (arith, c.from-p.ensures))
    (between_high 1 512 c.if-exponent-lt1.false c.if-too_long.true)

pub returns-then-bits-lt512 : goal.returns-then-bits-lt512
returns-then-bits-lt512 c r b f x y q g =
    failed_at (past_length _ _ _ r b f q c.if-exponent-lt1.false (omega (arith, c.if-too_long.false))) c.at-then-bits-lt512.ensures (omega (arith, c.from-p.ensures))
    (ap modulus_bits_allowed (sym q) ∙ between_low 512 4096 c.if-bits-lt512.true)

pub returns-then-bits-gt4096 : goal.returns-then-bits-gt4096
returns-then-bits-gt4096 c r b f x y q g =
    failed_at (past_length _ _ _ r b f q c.if-exponent-lt1.false (omega (arith, c.if-too_long.false))) c.at-then-bits-gt4096.ensures (omega (arith, c.from-p.ensures))
    (ap modulus_bits_allowed (sym q) ∙ between_high 512 4096 c.if-bits-lt512.false c.if-bits-gt4096.true)

pub returns-then-modulus-bits : goal.returns-then-modulus-bits
returns-then-modulus-bits c r b f x y q g =
    failed_at
    (past_bits _ _ _ r b f q c.if-exponent-lt1.false (omega (arith, c.if-too_long.false)) c.if-bits-lt512.false c.if-bits-gt4096.false)
    c.at-then-modulus-bits.ensures (omega (arith, c.from-p.ensures))
    (ap (fewest c.args.modulus.now) (sym q) ∙ ne_eqb _ _ c.if-modulus-bits.true)

pub returns-then-not-modulus_form : goal.returns-then-not-modulus_form
returns-then-not-modulus_form c r b f x y q g =
    failed_at
    (past_fewest _ _ _ r b f q c.if-exponent-lt1.false (omega (arith, c.if-too_long.false)) c.if-bits-lt512.false c.if-bits-gt4096.false c.if-modulus-bits.false)
    c.at-then-not-modulus_form.ensures (omega (arith, c.from-p.ensures, modulus_place c.args.place r c.args.exponent.now x))
    (ap (form c.args.modulus.now) (sym q) ∙ sym c.modulus_form.ensures ∙ c.if-not-modulus_form.true)

pub exponent_form-requires : goal.exponent_form-requires
exponent_form-requires c =
    let m = c.args.modulus.now in
    let h = c.if-bits-lt512.false in (
      omega (arith, c.if-exponent-lt1.false),
      modulus_first m (bytes_of m (λ k. (c.type_inv.modulus k).fits)) c.args.bits (omega arith) c.if-modulus-bits.false
          (sym c.modulus_form.ensures ∙ c.if-not-modulus_form.false),
    )

pub returns-then-not-exponent_form : goal.returns-then-not-exponent_form
returns-then-not-exponent_form c r b f x y q g =
    failed_at
    (past_form _ _ _ r b f q c.if-exponent-lt1.false (omega (arith, c.if-too_long.false)) c.if-bits-lt512.false c.if-bits-gt4096.false c.if-modulus-bits.false
    c.modulus_form.ensures c.if-not-modulus_form.false)
    c.at-then-not-exponent_form.ensures (omega (arith, c.from-p.ensures)) (sym c.exponent_form.ensures ∙ c.if-not-exponent_form.true)

pub returns-in-0 : goal.returns-in-0
returns-in-0 c r b f x y q g =
    none_left
    (passed
    (past_exponent _ _ _ r b f q c.if-exponent-lt1.false (omega (arith, c.if-too_long.false)) c.if-bits-lt512.false c.if-bits-gt4096.false c.if-modulus-bits.false
    c.modulus_form.ensures c.if-not-modulus_form.false c.exponent_form.ensures c.if-not-exponent_form.false)
    (flag_yes f g c.in-0.is))

pub returns-in_default : goal.returns-in_default
returns-in_default c r b f x y q g =
    failed_at
    (past_exponent _ _ _ r b f q c.if-exponent-lt1.false (omega (arith, c.if-too_long.false)) c.if-bits-lt512.false c.if-bits-gt4096.false c.if-modulus-bits.false
    c.modulus_form.ensures c.if-not-modulus_form.false c.exponent_form.ensures c.if-not-exponent_form.false)
    c.at-in_default.ensures (omega (arith, c.from-p.ensures, flags_place c.args.place r c.args.exponent.now c.args.modulus.now x y))
    (flag_not f g (search rules))
