-- Runs of bytes that pass a test, at the front of a list. Assumes nothing.
use mathlib.Core.Path.{◌≡◌, refl, sym, ap, ◌∙◌}
use mathlib.Core.Bool.{Bool, true, false, ◌&&◌, and_assoc, and-true}
use mathlib.Core.List.{List, [], ◌∷◌}
use Prim.Native.Nat.{ℕ, suc, ◌≤◌}
use native.Mathlib.Omega.{arith}
use lib.ListN.{length}
use Rattle.std.specs.List.{fold, prefix_len}
use Rattle.std.proofs.lemmas.List.Sums.{prefix_len-le-length}
use Rattle.format.specs.Bytes.{every}
use Rattle.format.specs.Forms.{leading}
use Rattle.read_fields.proofs.Lists.{yes_or_no}
use mathlib.Core.Logic.{inl, inr}

-- ---- the bytes at the front that pass

pub leading_more : (f : ℕ → Bool) (b : ℕ) (bs : List ℕ) → f b ≡ true → leading f (b ∷ bs) ≡ suc (leading f bs)
leading_more f b bs t = rw (t, leading)

pub leading_stop : (f : ℕ → Bool) (b : ℕ) (bs : List ℕ) → f b ≡ false → leading f (b ∷ bs) ≡ 0
leading_stop f b bs t = rw (t, leading)

-- two tests that agree
pub leading_same : (f g : ℕ → Bool) → ((b : ℕ) → f b ≡ g b) → (bs : List ℕ) → leading f bs ≡ leading g bs
leading_same f g same [] = refl
leading_same f g same (b ∷ bs) =
    elim (yes_or_no (g b)) [
      | inl t ↦ leading_more f b bs (same b ∙ t) ∙ ap suc (leading_same f g same bs) ∙ sym (leading_more g b bs t)
      | inr t ↦ leading_stop f b bs (same b ∙ t) ∙ sym (leading_stop g b bs t)
    ]

-- the library's count of them
pub leading_counted : (f : ℕ → Bool) (bs : List ℕ) → prefix_len f bs ≡ leading f bs
leading_counted f [] = refl
leading_counted f (b ∷ bs) =
    elim (yes_or_no (f b)) [
      | inl t ↦ rw (t, leading) (let n = leading_counted f bs in omega arith)
      | inr t ↦ rw (t, leading)
    ]

-- at most as many as there are
pub leading_within : (f : ℕ → Bool) (bs : List ℕ) → leading f bs ≤ length bs
leading_within f bs = rw (← leading_counted f bs) (prefix_len-le-length f bs)

-- ---- all of the bytes, by a flag

pub every_fold : (f : ℕ → Bool) (bs : List ℕ) (a : Bool) → fold (λ (x : Bool) (b : ℕ). x && f b) a bs ≡ (a && every f bs)
every_fold f [] a = sym (and-true a)
every_fold f (b ∷ bs) a = every_fold f bs (a && f b) ∙ and_assoc a (f b) (every f bs)
