-- Dates are judged only when their flags are 1: the examples of request 102, the rule, and tokens that keep any dates.
use mathlib.Core.Path.{◌≡◌, refl}
use mathlib.Core.Bool.{Bool, true, false, not, ◌||◌}
use mathlib.Core.List.{List, [], ◌∷◌, ◌++◌}
use mathlib.Core.Logic.{◌↔◌, ◌⊎◌, inl, inr}
use Prim.Native.Nat.{ℕ}
use native.Mathlib.Omega.{arith}
use lib.Dec.{eqb, leb, lit<, lit≤}
use lib.ListN.{length, replicate}
use borrow.Author.Tests.{leb-true, eqb-true, eqb-false}
use Rattle.format.specs.Bytes.{All, Bytes, number, bytes_at, all_zero, same_bytes}
use Rattle.format.specs.Parts.{Part, dates}
use Rattle.format.specs.Forms.{date_exists, in_order}
use Rattle.format.specs.Rules.{Check, checks}
use Rattle.format.specs.Legal.{Legal}
use Rattle.format.specs.Reading.{found, answer, as_answer, reading, sections, section, section_rest, after_subsections, subsections, subsection, tested, need, and_then}
use Rattle.format.specs.Views.{field_at, view}
use Rattle.format.specs.Writer.{addition, date_fields}
use Rattle.format.specs.Examples.{token_t, Holds}
use Rattle.format.specs.DateExamples.{with_dates, dates_read}
use Rattle.format.proofs.Numbers.{bytes_zeros}
use Rattle.format.proofs.Examples.{parts_t}

-- ---- the examples

pub dates_read_is : All Holds dates_read
unfolding answer as_answer reading sections section section_rest after_subsections subsections subsection tested need and_then number bytes_at all_zero same_bytes date_exists in_order
dates_read_is = (refl, (refl, (refl, (refl, (refl, (refl, (refl, (refl, (refl, tt)))))))))

-- ---- the rule

-- The tests of a 14/0002 by the number of its flags; b says whether that is 1.
module _ (n : ℕ) (p q r : Bool) where
  kept_or_judged : (b : Bool) → eqb n 1 ≡ b → leb n 1 ≡ true → (not b || p) ≡ true → (not b || q) ≡ true → (not b || r) ≡ true
      → (n ≡ 0) ⊎ ((n ≡ 1) × (p ≡ true) × (q ≡ true) × (r ≡ true))
  kept_or_judged true e z f g h = inr (eqb-true n 1 e, f, g, h)
  kept_or_judged false e z f g h =
      let l = leb-true n 1 z in
      let u = eqb-false n 1 e in
      inl (omega arith)

pub judged_exactly : (x : Bool) (flags a e : List ℕ)
    → All (λ (c : Check). c.holds ≡ true) (checks x dates (flags ∷ a ∷ e ∷ []))
    ↔ ((number flags ≡ 0)
    ⊎ ((number flags ≡ 1) × (date_exists a ≡ true) × (date_exists e ≡ true) × (in_order a e ≡ true)))
judged_exactly x flags a e = (
  (λ h. kept_or_judged (number flags) (date_exists a) (date_exists e) (in_order a e) (eqb (number flags) 1) refl h.0 h.1.0 h.1.1.0 h.1.1.1.0),
  go,
)
  where
    go : (number flags ≡ 0) ⊎ ((number flags ≡ 1) × (date_exists a ≡ true) × (date_exists e ≡ true) × (in_order a e ≡ true))
        → All (λ (c : Check). c.holds ≡ true) (checks x dates (flags ∷ a ∷ e ∷ []))
    go (inl z) = (rw z, (rw z, (rw z, (rw z, tt))))
    go (inr w) = (rw w.0, (rw (w.0, w.1), (rw (w.0, w.2), (rw (w.0, w.3), tt))))

-- ---- dates that are kept

-- What holds of any four elements holds of a list of four.
four : (P : List ℕ → Type 0) → ((w x y z : ℕ) → P (w ∷ x ∷ y ∷ z ∷ [])) → (a : List ℕ) → length a ≡ 4 → P a
four P p [] h = absurd (omega arith)
four P p (w ∷ []) h = absurd (omega arith)
four P p (w ∷ x ∷ []) h = absurd (omega arith)
four P p (w ∷ x ∷ y ∷ []) h = absurd (omega arith)
four P p (w ∷ x ∷ y ∷ z ∷ []) h = p w x y z
four P p (w ∷ x ∷ y ∷ z ∷ v ∷ a) h = absurd (omega arith)

-- What holds of any two dates by their bytes holds of any two dates.
both_four : (P : List ℕ → List ℕ → Type 0)
    → ((w x y z a b c d : ℕ) → P (w ∷ x ∷ y ∷ z ∷ []) (a ∷ b ∷ c ∷ d ∷ []))
    → (a e : List ℕ) → length a ≡ 4 → length e ≡ 4 → P a e
both_four P p a e h k = four (λ a. P a e) (λ w x y z. four (P (w ∷ x ∷ y ∷ z ∷ [])) (p w x y z) e k) a h

-- The smallest token's parts and dates with flags 0.
abbrev kept_parts : List ℕ → List ℕ → List Part
kept_parts a e = parts_t ++ (record { kind = dates; fields = replicate 2 0 ∷ a ∷ e ∷ [] } ∷ [])

-- The token with any dates and flags 0 is legal,
pub kept_legal : (a e : List ℕ) → Bytes a → Bytes e → length a ≡ 4 → length e ≡ 4 → Legal (with_dates 0 a e)
unfolding number all_zero
kept_legal a e ha he h k =
    both_four (λ a e. Bytes a → Bytes e → Legal (with_dates 0 a e)) legal a e h k ha he
  where
    legal : (w x y z a b c d : ℕ) → Bytes (w ∷ x ∷ y ∷ z ∷ []) → Bytes (a ∷ b ∷ c ∷ d ∷ [])
        → Legal (with_dates 0 (w ∷ x ∷ y ∷ z ∷ []) (a ∷ b ∷ c ∷ d ∷ []))
    legal w x y z a b c d ha he = record {
      id = 0x1E;
      parts = kept_parts (w ∷ x ∷ y ∷ z ∷ []) (a ∷ b ∷ c ∷ d ∷ []);
      form = record {
        choice = record { identifier = lit< tt; bytes = ((bytes_zeros 4, tt), ((bytes_zeros 32, (bytes_zeros 8, (bytes_zeros 16, tt))), ((bytes_zeros 2, (ha, (he, tt))), tt))); fit = (refl, (refl, (refl, tt))); joined = refl };
        parts = (lit< tt, (lit< tt, (lit< tt, tt)));
        whole = lit< tt;
        same = refl;
      };
      at_least = lit≤ tt;
      at_most = lit≤ tt;
      lawful = record {
        identifier = refl;
        fields = ((refl, tt), ((refl, tt), ((refl, (refl, (refl, (refl, tt)))), tt)));
        sections = (tt, tt);
        tags = (((refl, tt), (tt, tt)), tt);
        masks = (refl, tt);
      };
      complete = record { section14 = refl; within = (refl, tt) };
    }

-- its views give them,
pub kept_viewed : (a e : List ℕ) → length a ≡ 4 → length e ≡ 4 → (view (with_dates 0 a e) 2 5 ≡ a) × (view (with_dates 0 a e) 2 6 ≡ e)
unfolding view field_at reading tested need number bytes_at all_zero sections and_then section section_rest subsections subsection after_subsections
kept_viewed = both_four (λ a e. (view (with_dates 0 a e) 2 5 ≡ a) × (view (with_dates 0 a e) 2 6 ≡ e)) views
  where
    views : (w x y z a b c d : ℕ)
        → (view (with_dates 0 (w ∷ x ∷ y ∷ z ∷ []) (a ∷ b ∷ c ∷ d ∷ [])) 2 5 ≡ w ∷ x ∷ y ∷ z ∷ [])
        × (view (with_dates 0 (w ∷ x ∷ y ∷ z ∷ []) (a ∷ b ∷ c ∷ d ∷ [])) 2 6 ≡ a ∷ b ∷ c ∷ d ∷ [])
    views w x y z a b c d = (refl, refl)

-- and the addition to the smallest token takes them.
pub kept_added : (a e : List ℕ) → length a ≡ 4 → length e ≡ 4
    → addition dates (date_fields 0 a e) (token_t ++ replicate 16 0) ≡ found (with_dates 0 a e)
unfolding addition and_then reading tested need number bytes_at all_zero sections section section_rest subsections subsection after_subsections
kept_added = both_four (λ a e. addition dates (date_fields 0 a e) (token_t ++ replicate 16 0) ≡ found (with_dates 0 a e)) (λ w x y z a b c d. refl)
