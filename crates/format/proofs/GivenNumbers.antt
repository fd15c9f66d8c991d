-- Answers in 01's numbers: what the two numbers of an answer say, and those of a call that refuses an illegal token as the
-- reading does.
use Rattle.std.specs.Prelude.{Ok, Err}
use mathlib.Core.Path.{◌≡◌, refl, sym, ap, ◌∙◌}
use mathlib.Core.Bool.{true}
use mathlib.Core.List.{List, [], ◌∷◌}
use mathlib.Core.Logic.{◌↔◌, ◌⊎◌, inl, inr}
use Prim.Native.Nat.{ℕ, ◌≤◌}
use native.Mathlib.Omega.{arith}
use Rattle.format.specs.Bytes.{Bytes}
use Rattle.format.specs.Rules.{Section}
use Rattle.format.specs.Legal.{Legal}
use Rattle.format.specs.Reading.{Fault, Outcome, refused, found, reading, row_count, as_answer, answer}
use Rattle.format.specs.GivenNumbers.{number_of, second_of}
use Rattle.format.specs.Claims.{answer_numbers}
use Rattle.format.specs.Answers.{Answer, Accepted, Refused}
use Rattle.format.proofs.Accepted.{read_legal}
use Rattle.format.proofs.Numbering.{fault_number}

-- ---- the two numbers of an answer

-- An accepted answer gives 0 and what it counts, a refused one its number and place.
pub accepted_told : {a : Answer} {n : ℕ} → a ≡ Accepted n → answer_numbers a ≡ 0 ∷ n ∷ []
unfolding number_of second_of
accepted_told e = ap answer_numbers e

pub refused_told : {a : Answer} {n p : ℕ} → a ≡ Refused n p → answer_numbers a ≡ n ∷ p ∷ []
unfolding number_of second_of
refused_told e = ap answer_numbers e

-- Where no refusal has the number 0, an answer with the number 0 is accepted.
pub zero_told : (a : Answer) → ((n p : ℕ) → a ≡ Refused n p → 1 ≤ n) → number_of a ≡ 0 → a ≡ Accepted (second_of a)
unfolding number_of second_of
zero_told (Ok n) h e = refl
zero_told (Err r) h e = absurd (let m = h r.number r.place refl in omega arith)

-- An answer with another number is refused.
pub other_told : (a : Answer) → (number_of a ≡ 0 → ⊥) → a ≡ Refused (number_of a) (second_of a)
unfolding number_of second_of
other_told (Ok n) h = absurd (h refl)
other_told (Err r) h = refl

-- Of a call that writes: 0 and what is counted of what was found, or the refusal's number and place.
pub outcome_told : {A : Type 0} (count : A → ℕ) (o : Outcome A)
    → ((a : A) → o ≡ found a → answer_numbers (as_answer count o) ≡ 0 ∷ count a ∷ [])
    × ((f : Fault) → o ≡ refused f → answer_numbers (as_answer count o) ≡ f.number ∷ f.place ∷ [])
unfolding as_answer
outcome_told count o = ((λ a e. accepted_told (ap (as_answer count) e)), λ f e. refused_told (ap (as_answer count) e))

-- Two lists of numbers that are the same have the same first number, and the same second.
pub first : {m n : ℕ} {xs ys : List ℕ} → m ∷ xs ≡ n ∷ ys → m ≡ n
first e = cc

pub second : {m n i j : ℕ} {xs ys : List ℕ} → m ∷ i ∷ xs ≡ n ∷ j ∷ ys → i ≡ j
second e = cc

-- ---- reading

-- Bytes are a legal token, or their reading refuses.
abbrev pub Judged : List ℕ → Type 0
Judged bs = Legal bs ⊎ ((f : Fault) × (reading true bs ≡ refused f))

pub judged : (bs : List ℕ) → Bytes bs → Judged bs
judged bs b = go (reading true bs) refl
  where
    go : (o : Outcome (List Section)) → reading true bs ≡ o → Judged bs
    go (refused f) e = inr (f, e)
    go (found ss) e = inl (read_legal bs ss b e)

-- The answer of a refused token.
pub own_answer : (bs : List ℕ) (f : Fault) → reading true bs ≡ refused f → answer bs ≡ Refused f.number f.place
unfolding answer as_answer
own_answer bs f e = ap (as_answer row_count) e

-- An illegal token is refused.
pub illegal : (bs : List ℕ) → Bytes bs → (Legal bs → ⊥) → (f : Fault) × (reading true bs ≡ refused f)
illegal bs b h = go (judged bs b)
  where
    go : Judged bs → (f : Fault) × (reading true bs ≡ refused f)
    go (inl l) = absurd (h l)
    go (inr w) = w

-- ---- answers about a legal token's rows

-- A legal token is answered with 0 where P holds and with m where Q does, with the second number s.
abbrev pub Told : Answer → ℕ → ℕ → Type 0 → Type 0 → Type 0
Told a m s P Q = (P × (answer_numbers a ≡ 0 ∷ s ∷ [])) ⊎ (Q × (answer_numbers a ≡ m ∷ s ∷ []))

module _ (a : Answer) (m s : ℕ) (P Q : Type 0) (h : 22 ≤ m) (not-both : P → Q → ⊥) where
  at_0 : Told a m s P Q → (number_of a ≡ 0) ↔ P
  at_0 (inl w) = ((λ e. w.0), λ p. first w.1)
  at_0 (inr w) = ((λ e. absurd (let n = first w.1 in omega arith)), λ p. absurd (not-both p w.0))

  at_m : Told a m s P Q → (number_of a ≡ m) ↔ Q
  at_m (inl w) = ((λ e. absurd (let n = first w.1 in omega arith)), λ q. absurd (not-both w.0 q))
  at_m (inr w) = ((λ e. w.0), λ q. first w.1)

  beside : Told a m s P Q → second_of a ≡ s
  beside (inl w) = second w.1
  beside (inr w) = second w.1

-- What its numbers say where P and Q exclude each other, m is over 21, and an illegal token is refused as by the reading.
pub by_legality : (bs : List ℕ) (a : Answer) (m : ℕ) (s : Legal bs → ℕ) (P Q : Legal bs → Type 0) → Bytes bs → 22 ≤ m
    → ((l : Legal bs) → P l → Q l → ⊥)
    → ((l : Legal bs) → Told a m (s l) (P l) (Q l))
    → ((f : Fault) → reading true bs ≡ refused f → a ≡ Refused f.number f.place)
    → ((number_of a ≡ 0) ↔ ((l : Legal bs) × P l))
    × ((number_of a ≡ m) ↔ ((l : Legal bs) × Q l))
    × ((l : Legal bs) → second_of a ≡ s l)
    × ((Legal bs → ⊥) → answer_numbers a ≡ answer_numbers (answer bs))
by_legality bs a m s P Q b h not-both legal own = (
  (
    (λ e. of_0 e (judged bs b)),
    λ w. (at_0 a m (s w.0) (P w.0) (Q w.0) h (not-both w.0) (legal w.0)).1 w.1,
  ),
  (
    (λ e. of_m e (judged bs b)),
    λ w. (at_m a m (s w.0) (P w.0) (Q w.0) h (not-both w.0) (legal w.0)).1 w.1,
  ),
  (λ l. beside a m (s l) (P l) (Q l) h (not-both l) (legal l)),
  λ n. let u = illegal bs b n in ap answer_numbers (own u.0 u.1 ∙ sym (own_answer bs u.0 u.1)),
)
  where
    low : (f : Fault) → reading true bs ≡ refused f → (1 ≤ number_of a) × (number_of a ≤ 21)
    low f e =
        let n = first (refused_told (own f e)) in
        let r = fault_number true bs f e in
        (omega (arith, r), omega (arith, r))

    of_0 : number_of a ≡ 0 → Judged bs → (l : Legal bs) × P l
    of_0 e (inl l) = (l, (at_0 a m (s l) (P l) (Q l) h (not-both l) (legal l)).0 e)
    of_0 e (inr w) = absurd (let r = low w.0 w.1 in omega (arith, r))

    of_m : number_of a ≡ m → Judged bs → (l : Legal bs) × Q l
    of_m e (inl l) = (l, (at_m a m (s l) (P l) (Q l) h (not-both l) (legal l)).0 e)
    of_m e (inr w) = absurd (let r = low w.0 w.1 in omega (arith, r))
