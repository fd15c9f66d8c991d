-- Finishing a draft: its own fault, else that of its bytes as a token, else its length.
use mathlib.Core.Path.{◌≡◌, refl, sym, ap, ◌∙◌}
use mathlib.Core.Bool.{true, false}
use mathlib.Core.List.{List}
use Prim.Native.Nat.{ℕ}
use native.Mathlib.Omega.{arith}
use lib.ListN.{take}
use Rattle.format.specs.Rules.{Section}
use Rattle.format.specs.Reading.{Outcome, refused, found, and_then, as_answer, stated, reading, row_count, answer}
use Rattle.format.specs.Writer.{finish}
use Rattle.format.specs.Answers.{Answer, Accepted, Refused}
use Rattle.write_last_part.specs.Tiling.{Reads}

-- A refusal is told as such, whatever would be counted.
told_refused : {A : Type 0} {m p : ℕ} (f g : A → ℕ) (o : Outcome A) → Refused m p ≡ as_answer f o → Refused m p ≡ as_answer g o
unfolding as_answer
told_refused f g (refused e) w = w
told_refused f g (found a) w = absurd (let y : ◌≡◌ {A = ℕ} 0 1 = cc in omega arith)

-- What is found is told as the number n, whatever else could be counted.
told_found : {A : Type 0} {k : ℕ} (f : A → ℕ) (n : ℕ) (o : Outcome A) → Accepted k ≡ as_answer f o → Accepted n ≡ as_answer (λ a. n) o
unfolding as_answer
told_found f n (refused e) w = absurd (let y : ◌≡◌ {A = ℕ} 0 1 = cc in omega arith)
told_found f n (found a) w = refl

-- The draft's own fault.
pub finish_own : {m p : ℕ} (d : List ℕ) → Refused m p ≡ as_answer row_count (reading false d) → Refused m p ≡ finish d
unfolding finish as_answer and_then
finish_own {m} {p} d e = go (reading false d) e
  where
    go : (o : Outcome (List Section)) → Refused m p ≡ as_answer row_count o
        → Refused m p ≡ as_answer (λ ss. stated d) (and_then o (λ ss. reading true (take (stated d) d)))
    go (refused f) w = w
    go (found ss) w = absurd (let y : ◌≡◌ {A = ℕ} 0 1 = cc in omega arith)

-- Where it has none, its bytes are read as a token.
module _ {n : ℕ} (d : List ℕ) (r : Reads d) (l : n ≡ stated d) where
  goes : finish d ≡ as_answer (λ ss. stated d) (reading true (take (stated d) d))
  unfolding finish and_then
  goes = ap (λ o. as_answer (λ ss. stated d) (and_then o (λ ss. reading true (take (stated d) d)))) r.1

  as_token : {a : Answer} → a ≡ answer (take n d) → a ≡ as_answer row_count (reading true (take (stated d) d))
  unfolding answer
  as_token e = e ∙ ap (λ (m : ℕ). as_answer row_count (reading true (take m d))) l

  -- That fault.
  pub finish_refused : {m p : ℕ} → Refused m p ≡ answer (take n d) → Refused m p ≡ finish d
  finish_refused e = told_refused row_count (λ ss. stated d) (reading true (take (stated d) d)) (as_token e) ∙ sym goes

  -- The draft's length.
  pub finish_done : {k : ℕ} → Accepted k ≡ answer (take n d) → Accepted n ≡ finish d
  finish_done e = ap Accepted l ∙ told_found row_count (stated d) (reading true (take (stated d) d)) (as_token e) ∙ sym goes
