-- The place of a section that may stand only once, as the answer gives it. Assumes nothing.
use Rattle.std.specs.Prelude.{Err}
use mathlib.Core.Path.{◌≡◌, sym, ap, ap₂, ◌∙◌}
use mathlib.Core.Bool.{true, false, not}
use mathlib.Core.List.{List}
use Prim.Native.Nat.{ℕ, ◌+◌, ◌≤◌}
use lib.ListN.{length}
use Rattle.format.specs.Rules.{longest, Section}
use Rattle.format.specs.Reading.{found, fault, need, as_answer, stated, reading, row_count}
use Rattle.format.specs.declared.Refusal.{Refusal}
use Rattle.format.specs.Answers.{Accepted, Refused}
use Rattle.format.proofs.Tests.{need_passed, need_failed, then_found, then_refused}
use Rattle.write_appended_part.proofs.Outcomes.{told_refused, fitting, fits_in}
use Rattle.write_judged_section.specs.Placing.{id_among, place_for}

-- The draft's own fault.
pub own_place : {n p : ℕ} (d : List ℕ) (i k : ℕ) → Refused n p ≡ as_answer row_count (reading false d) → Refused n p ≡ as_answer (λ l. l) (place_for i k d)
unfolding place_for as_answer
own_place d i k a =
    let r = told_refused row_count (reading false d) a in
    ap₂ Refused r.number r.place ∙ sym (ap (as_answer (λ (l : ℕ). l)) (then_refused _ r.is))

-- 23.
pub no_place : {r : Refusal} {l : ℕ} (d : List ℕ) (i k : ℕ) (ss : List Section) → r ≡ record { number = 23; place = l } → reading false d ≡ found ss
    → l ≡ stated d → fitting d k ≡ false → Err r ≡ as_answer (λ m. m) (place_for i k d)
unfolding place_for as_answer
no_place d i k ss t e q b =
    ap (λ (r : Refusal). Err r) t
    ∙ ap (Refused 23) q ∙ sym (ap (as_answer (λ (m : ℕ). m)) (then_found _ e ∙ need_failed (fitting d k) _ _ b))

-- There is room: 9 where one stands before, else the place.
roomy : (d : List ℕ) (i k : ℕ) (ss : List Section) → reading false d ≡ found ss → stated d + k ≤ longest → stated d + k ≤ length d
    → place_for i k d ≡ need (not (id_among i ss)) (fault 9 (stated d) (stated d)) (found (stated d))
unfolding place_for
roomy d i k ss e h m =
    then_found _ e
    ∙ need_passed (fitting d k) _ _ (fits_in d k h m)

pub stands_before : {r : Refusal} {l : ℕ} (d : List ℕ) (i k : ℕ) (ss : List Section) → r ≡ record { number = 9; place = l } → reading false d ≡ found ss
    → l ≡ stated d → stated d + k ≤ longest → stated d + k ≤ length d → true ≡ id_among i ss → Err r ≡ as_answer (λ m. m) (place_for i k d)
unfolding as_answer
stands_before d i k ss t e q h m among =
    ap (λ (r : Refusal). Err r) t
    ∙ ap (Refused 9) q ∙ sym (ap (as_answer (λ (m : ℕ). m)) (roomy d i k ss e h m ∙ need_failed _ _ _ (ap not (sym among))))

pub place_after : {l : ℕ} (d : List ℕ) (i k : ℕ) (ss : List Section) → reading false d ≡ found ss → l ≡ stated d → stated d + k ≤ longest
    → stated d + k ≤ length d → false ≡ id_among i ss → Accepted l ≡ as_answer (λ m. m) (place_for i k d)
unfolding as_answer
place_after d i k ss e q h m t =
    ap Accepted q ∙ sym (ap (as_answer (λ (m : ℕ). m)) (roomy d i k ss e h m ∙ need_passed _ _ _ (ap not (sym t))))
