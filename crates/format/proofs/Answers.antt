-- Refusals that are equal have one number and one place, and fields that lie alike one offset and one length.
use Rattle.std.specs.Prelude.{◌≡◌, ℕ, Result, Err, IsErr, IsErrAnd}
use Rattle.std.proofs.Common.{ap, ◌∙◌}
use Rattle.std.proofs.lemmas.Result.{err_from_is_err_and}
use Rattle.format.specs.declared.Refusal.{Refusal}
use Rattle.format.specs.declared.Span.{Span}
use Rattle.format.specs.Answers.{Refused, At}

same_refusal : {n p m q : ℕ} → Refused n p ≡ Refused m q → ◌≡◌ {A = Refusal} (record { number = n; place = p }) (record { number = m; place = q })
same_refusal e = cc

pub same_number : {n p m q : ℕ} → Refused n p ≡ Refused m q → n ≡ m
same_number e = ap (λ (r : Refusal). r.number) (same_refusal e)

pub same_place : {n p m q : ℕ} → Refused n p ≡ Refused m q → p ≡ q
same_place e = ap (λ (r : Refusal). r.place) (same_refusal e)

same_span : {a b o n : ℕ} → At a b ≡ At o n → ◌≡◌ {A = Span} (record { offset = a; length = b }) (record { offset = o; length = n })
same_span e = cc

-- What lies somewhere lies at one place, with one width.
pub at_inj : {a b o n : ℕ} → At a b ≡ At o n → (a ≡ o) × (b ≡ n)
at_inj e = (ap (λ (w : Span). w.offset) (same_span e), ap (λ (w : Span). w.length) (same_span e))

-- The refusal that a `?` passes up.
pub passed_up : {A : Type 0} {x : Result A Refusal} {r : Refusal} → IsErr x × IsErrAnd x (λ s. s ≡ r) → x ≡ Err r
passed_up {A} {x} {r} e = let p = err_from_is_err_and x e.1 in p.1 ∙ ap (λ (s : Refusal). Err s) p.2
