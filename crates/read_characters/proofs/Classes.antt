-- The classes of characters, against the characters of the format. Assumes nothing.
use mathlib.Core.Path.{◌≡◌, refl, sym, ap, ◌∙◌}
use mathlib.Core.Bool.{Bool, true, false, not, ◌&&◌, ◌||◌, true≢false}
use mathlib.Core.Logic.{◌⊎◌, inl, inr, ⊎_elim}
use Prim.Native.Nat.{ℕ, ◌≤◌}
use native.Mathlib.Omega.{arith}
use lib.Dec.{eqb, leb}
use borrow.Author.Tests.{lt-leb, leb-true, eqb-true}
use Rattle.format.proofs.Finding.{and_split}
use Rattle.format.specs.Forms.{between, letter, digit, rule_sign, label_sign, star, space, in_rule_id, in_label, plain_label}
use Rattle.read_fields.proofs.Lists.{yes_or_no}
use Rattle.read_characters.specs.Classes.{pick, class_of, of_class, letter_class, digit_class, rule_class, label_class, star_class, space_class, other_class}

-- ---- one class at most

-- a choice of two, one of which passes
either : (x y : Bool) → (x || y) ≡ true → (x ≡ true) ⊎ (y ≡ true)
either true y e = inl refl
either false y e = inr e

-- a digit is no letter
not_letter : (b : ℕ) → digit b ≡ true → letter b ≡ false
not_letter b e =
    let h : b ≤ 57 = leb-true b 57 (and_split (leb 48 b) (leb b 57) e).1 in
    rw (lt-leb 65 b (omega arith), lt-leb 97 b (omega arith))

-- What holds of a class and the answers of the six tests (letter, digit, rule_sign, label_sign, star, space) holds of every
-- character where it holds of each of the seven classes with the answers of its own.
module _ (P : ℕ → Bool → Bool → Bool → Bool → Bool → Bool → Type 0)
    (of-letter : P letter_class true false false false false false)
    (of-digit : P digit_class false true false false false false)
    (of-rule : P rule_class false false true false false false)
    (of-label : P label_class false false false true false false)
    (of-star : P star_class false false false false true false)
    (of_space : P space_class false false false false false true)
    (of_other : P other_class false false false false false false) where
  -- no sign, star or space: a letter, a digit or another
  of_rest : (l d : Bool) → (d ≡ true → l ≡ false)
      → P (pick l letter_class (pick d digit_class other_class)) l d false false false false
  unfolding pick
  of_rest true true h = absurd (true≢false (h refl))
  of_rest true false h = of-letter
  of_rest false true h = of-digit
  of_rest false false h = of_other

  of_no_sign : (b : ℕ) → rule_sign b ≡ false → label_sign b ≡ false → star b ≡ false → space b ≡ false
      → P (class_of b) (letter b) (digit b) (rule_sign b) (label_sign b) (star b) (space b)
  unfolding class_of pick
  of_no_sign b r g t p = rw (r, g, t, p) (of_rest (letter b) (digit b) (not_letter b))

  pub by_class : (b : ℕ) → P (class_of b) (letter b) (digit b) (rule_sign b) (label_sign b) (star b) (space b)
  unfolding class_of pick
  by_class b =
      ⊎_elim
      (λ r. ⊎_elim (λ e. rw (eqb-true b 0x2D e) of-rule) (λ e. rw (eqb-true b 0x5F e) of-rule)
      (either (eqb b 0x2D) (eqb b 0x5F) r))
      (λ r.
      ⊎_elim
      (λ g. ⊎_elim
      (λ f. ⊎_elim (λ e. rw (eqb-true b 0x23 e) of-label) (λ e. rw (eqb-true b 0x24 e) of-label)
      (either (eqb b 0x23) (eqb b 0x24) f))
      (λ e. rw (eqb-true b 0x40 e) of-label)
      (either (eqb b 0x23 || eqb b 0x24) (eqb b 0x40) g))
      (λ g.
      ⊎_elim (λ t. rw (eqb-true b 0x2A t) of-star)
      (λ t. ⊎_elim (λ p. rw (eqb-true b 0x20 p) of_space) (λ p. of_no_sign b r g t p) (yes_or_no (space b)))
      (yes_or_no (star b)))
      (yes_or_no (label_sign b)))
      (yes_or_no (rule_sign b))

-- ---- the format's characters by their classes

pub rule_class_is : (b : ℕ) → in_rule_id b ≡ of_class letter_class rule_class b
unfolding of_class
rule_class_is = by_class (λ c l d r g t p. (l || d || r) ≡ between letter_class rule_class c) refl refl refl refl refl refl refl

pub plain_class : (b : ℕ) → plain_label b ≡ of_class label_class digit_class b
unfolding of_class
plain_class = by_class (λ c l d r g t p. (l || d || g) ≡ between label_class digit_class c) refl refl refl refl refl refl refl

pub space_class_is : (b : ℕ) → space b ≡ of_class space_class space_class b
unfolding of_class
space_class_is = by_class (λ c l d r g t p. p ≡ between space_class space_class c) refl refl refl refl refl refl refl

pub star_class_is : (b : ℕ) → star b ≡ eqb (class_of b) star_class
star_class_is = by_class (λ c l d r g t p. t ≡ eqb c star_class) refl refl refl refl refl refl refl

-- may stand first in a label template
abbrev pub first_class : ℕ → Bool
first_class c = eqb c letter_class || eqb c label_class || eqb c star_class

pub first_class_is : (b c : ℕ) → c ≡ class_of b → (in_label b && not (digit b)) ≡ first_class c
first_class_is b c e =
    by_class (λ k l d r g t p. ((l || d || g || t) && not d) ≡ first_class k) refl refl refl refl refl refl refl b
    ∙ ap first_class (sym e)
