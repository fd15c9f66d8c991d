-- A Rule ID by the first hexadecimal digits of its characters' classes: 6 for a character of one, 7 for a space, less for any
-- other. Assumes nothing.
use mathlib.Core.Path.{◌≡◌, refl, sym, ap, ◌∙◌}
use mathlib.Core.Bool.{Bool, true, false, not, ◌&&◌, ◌||◌, and-true, and_comm}
use mathlib.Core.List.{List, [], ◌∷◌}
use Prim.Native.Nat.{ℕ, ◌+◌, ◌-◌, ◌/◌, ◌<◌, ◌≤◌}
use native.Mathlib.Numerals.{add-one}
use native.Mathlib.Omega.{arith}
use lib.Seq.{drop-cons}
use lib.Dec.{eqb, leb, ltb, leb-suc-suc, leb-zero}
use lib.ListN.{length, get_or, drop, drop_of_length-le}
use Rattle.format.specs.Bytes.{every, bytes_at}
use Rattle.format.specs.Forms.{leading, space, in_rule_id, rule_id_form}
use Rattle.read_characters.specs.Classes.{class_of}
use Rattle.read_fields.proofs.Lists.{bytes_next, bytes_start}
use Rattle.read_characters.proofs.Classes.{by_class}
use Rattle.read_characters.proofs.Runs.{leading_more, leading_stop}

-- the first hexadecimal digit of a character's class
abbrev rank : ℕ → ℕ
rank b = class_of b / 16

-- the ranks do not fall, the first of them not below r
abbrev pub steady : ℕ → List ℕ → Bool
steady r [] = true
steady r (b ∷ bs) = leb r (rank b) && steady (rank b) bs

-- the rank of a class, with whether its characters stand in a Rule ID and whether they are spaces
data Ranked (n : ℕ) (w v : Bool) : Type 0 where
  inside : w ≡ true → v ≡ false → n ≡ 6 → Ranked n w v
  blank : w ≡ false → v ≡ true → n ≡ 7 → Ranked n w v
  neither : w ≡ false → v ≡ false → eqb n 6 ≡ false → leb 6 n ≡ false → leb 7 n ≡ false → Ranked n w v

ranked : (b : ℕ) → Ranked (rank b) (in_rule_id b) (space b)
ranked =
    by_class (λ c l d r g t p. Ranked (c / 16) (l || d || r) p) (inside refl refl refl) (inside refl refl refl)
    (inside refl refl refl) (neither refl refl refl refl refl) (neither refl refl refl refl refl)
    (blank refl refl refl) (neither refl refl refl refl refl)

-- after a space
after_space : (bs : List ℕ) → steady 7 bs ≡ every space bs
after_space [] = refl
after_space (b ∷ bs) =
    elim (ranked b) [
      | inside w v n ↦ rw (n, v)
      | blank w v n ↦ rw (n, v) (after_space bs)
      | neither w v m k j ↦ rw (j, v)
    ]

-- after a character of a Rule ID
after_characters : (bs : List ℕ) → steady 6 bs ≡ every space (drop (leading in_rule_id bs) bs)
after_characters [] = refl
after_characters (b ∷ bs) =
    elim (ranked b) [
      | inside w v n ↦ rw (leading_more in_rule_id b bs w, n) (after_characters bs)
      | blank w v n ↦ rw (leading_stop in_rule_id b bs w, n, v) (after_space bs)
      | neither w v m k j ↦ rw (leading_stop in_rule_id b bs w, k, v)
    ]

pub rule_id_steady : (b : ℕ) (bs : List ℕ) → rule_id_form (b ∷ bs) ≡ (eqb (rank b) 6 && steady (rank b) bs)
unfolding rule_id_form
rule_id_steady b bs =
    elim (ranked b) [
      | inside w v n ↦ rw (leading_more in_rule_id b bs w, n, leb-suc-suc, leb-zero) (sym (after_characters bs))
      | blank w v n ↦ rw (leading_stop in_rule_id b bs w, n)
      | neither w v m k j ↦ rw (leading_stop in_rule_id b bs w, m)
    ]

-- ---- at the places of a field

-- one turn: n is the class of the k-th byte, r the rank before it, and there was a fall or none
pub steady_turn : (bs : List ℕ) (k : ℕ) {n : ℕ} → n ≡ class_of (get_or bs k 0) → k < length bs → (falls : Bool) (r : ℕ)
    → (not (falls || ltb (n / 16) r) && steady (n / 16) (drop (k + 1) bs)) ≡ (not falls && steady r (drop k bs))
steady_turn bs k {n} class h true r = refl
steady_turn bs k {n} class h false r = rw (drop-cons bs k 0 h, ← class) (grind (arith, add-one))

-- the Rule ID at i, after the last turn: n is the class of its first character, and the flag tells whether all was steady
pub rule_id_told : (s : List ℕ) (i : ℕ) {n : ℕ} → n ≡ class_of (get_or s i 0) → i + 8 ≤ length s
    → let rest = bytes_at s (i + 1) (i + 8 - (i + 1)) in
    (k : ℕ) → length rest ≤ k → (falls : Bool) (r : ℕ) → (not falls && steady r (drop k rest)) ≡ steady (n / 16) rest
    → rule_id_form (bytes_at s i 8) ≡ (not falls && eqb (n / 16) 6)
rule_id_told s i {n} class l k h falls r e =
    let rest = bytes_at s (i + 1) (i + 8 - (i + 1)) in
    let steady_all : not falls ≡ steady (n / 16) rest
    = sym (ap (λ (bs : List ℕ). not falls && steady r bs) (drop_of_length-le rest h) ∙ and-true (not falls)) ∙ e in
    ap rule_id_form (sym (bytes_start s i 8) ∙ bytes_next s i (i + 8) (omega arith) l)
    ∙ rule_id_steady (get_or s i 0) rest
    ∙ rw (← class, ← steady_all) (and_comm (eqb (n / 16) 6) (not falls))
