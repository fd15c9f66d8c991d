-- Lines are cut at their spaces: words and numbers have none. Assumes nothing.
use mathlib.Core.Path.{◌≡◌, refl, sym, ap, ap₂, subst}
use mathlib.Core.Bool.{Bool, true, false}
use mathlib.Core.List.{List, [], ◌∷◌, ◌++◌, map, head-eq_of_cons-eq, tail-eq_of_cons-eq}
use Prim.Native.Nat.{ℕ, ◌+◌, max, ◌<◌, ◌≤◌}
use native.Mathlib.Omega.{arith}
use lib.Dec.{eqb, ltb}
use Rattle.format.specs.Bytes.{All}
use Rattle.format.specs.Lines.{text, digit_text, id_text, tag_text, hexadecimal}
use Rattle.list_words.specs.Numerals.{digit_count, numeral}
use Rattle.list_words.proofs.Digits.{last_digits}
use Rattle.listing.proofs.Lines.{columns}
use Rattle.list_words.proofs.Numerals.{numeral_last, hexadecimal_is}

-- no character is a space or a newline
abbrev pub Solid : List ℕ → Type 0
Solid cs = All (λ (c : ℕ). 32 < c) cs

-- ---- words and numbers are solid

-- one of two solid texts is solid
either_solid : (t : Bool) (x y : List ℕ) → Solid x → Solid y → Solid (elim t [ true ↦ x | false ↦ y ])
either_solid true x y p q = p
either_solid false x y p q = q

-- a character of a digit, by the test that picks it
digit_solid : (t : Bool) (d : ℕ) → 32 < elim t [ true ↦ 0x30 + d | false ↦ 0x37 + d ]
digit_solid true d = omega arith
digit_solid false d = omega arith

-- characters of digits
digits_solid : (ds : List ℕ) → Solid (map digit_text ds)
digits_solid [] = tt
digits_solid (d ∷ ds) = (digit_solid (ltb d 10) d, digits_solid ds)

-- a number
pub numeral_solid : (b w n : ℕ) → 2 ≤ b → Solid (numeral b w n)
numeral_solid b w n two =
    subst Solid (sym (numeral_last b w n two)) (digits_solid (last_digits (max w (digit_count b n)) b n))

-- a tag
pub tag_solid : (g : ℕ) → Solid (tag_text g)
tag_solid g =
    either_solid (eqb g 0) (text "-") (hexadecimal 4 g) (omega arith, tt)
    (subst Solid (sym (hexadecimal_is 4 g)) (numeral_solid 16 4 g (omega arith)))

-- the word for an id
pub id_solid : (i : ℕ) → Solid (id_text i)
id_solid i =
    either_solid (eqb i 0x1E) (text "external") _ (omega arith)
    (either_solid (eqb i 0x1F) (text "internal") (text "unknown") (omega arith) (omega arith))

-- ---- cut at the spaces

-- two solid texts, each with a space or a newline after it
cut : (xs ys us vs : List ℕ) (a b : ℕ) → Solid xs → Solid ys → a ≤ 32 → b ≤ 32 → xs ++ (a ∷ us) ≡ ys ++ (b ∷ vs)
    → (xs ≡ ys) × (a ≡ b) × (us ≡ vs)
cut [] [] us vs a b p q h k e = (refl, head-eq_of_cons-eq e, tail-eq_of_cons-eq e)
cut [] (y ∷ ys) us vs a b p q h k e =
    let z : a ≡ y = head-eq_of_cons-eq e in
    absurd (omega (arith, q.0))
cut (x ∷ xs) [] us vs a b p q h k e =
    let z : x ≡ b = head-eq_of_cons-eq e in
    absurd (omega (arith, p.0))
cut (x ∷ xs) (y ∷ ys) us vs a b p q h k e =
    let z : x ≡ y = head-eq_of_cons-eq e in
    let r : (xs ≡ ys) × (a ≡ b) × (us ≡ vs) = cut xs ys us vs a b p.1 q.1 h k (tail-eq_of_cons-eq e) in
    (ap₂ (λ (v : ℕ) (l : List ℕ). v ∷ l) z r.0, r.1, r.2)

-- two lines of solid columns, at least one each, are the same only where their columns are
pub columns_same : (x y : List ℕ) (xs ys : List (List ℕ)) → All Solid (x ∷ xs) → All Solid (y ∷ ys)
    → columns (x ∷ xs) ≡ columns (y ∷ ys) → x ∷ xs ≡ y ∷ ys
unfolding columns
columns_same x y [] [] p q e =
    ap (λ (l : List ℕ). l ∷ []) (cut x y [] [] 10 10 p.0 q.0 (omega arith) (omega arith) e).0
columns_same x y [] (v ∷ vs) p q e =
    let z : ◌≡◌ {A = ℕ} 10 32 = (cut x y [] (columns (v ∷ vs)) 10 32 p.0 q.0 (omega arith) (omega arith) e).1 in
    absurd (omega arith)
columns_same x y (u ∷ us) [] p q e =
    let z : ◌≡◌ {A = ℕ} 32 10 = (cut x y (columns (u ∷ us)) [] 32 10 p.0 q.0 (omega arith) (omega arith) e).1 in
    absurd (omega arith)
columns_same x y (u ∷ us) (v ∷ vs) p q e =
    let r : (x ≡ y) × (◌≡◌ {A = ℕ} 32 32) × (columns (u ∷ us) ≡ columns (v ∷ vs))
    = cut x y (columns (u ∷ us)) (columns (v ∷ vs)) 32 32 p.0 q.0 (omega arith) (omega arith) e in
    ap₂ (λ (a : List ℕ) (l : List (List ℕ)). a ∷ l) r.0 (columns_same u v us vs p.1 q.1 r.2)
