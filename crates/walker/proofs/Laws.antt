-- Laws of the steps after one another.
use mathlib.Core.Path.{◌≡◌, refl, sym, ap, ap₂, ◌∙◌}
use Prim.Native.Nat.{ℕ, zero, suc, ◌≤◌}
use mathlib.Core.List.{List}
use native.Mathlib.Omega.{arith}
use Rattle.format.specs.Views.{step_at, place_after}
use Rattle.format.specs.Answers.{Step}
use Rattle.format.specs.Claims.{walk_place}
use Rattle.walker.specs.Walking.{step_after}

-- The step after n steps is the one at the place that they lead to.
pub behind_at : (bs : List ℕ) (at n : ℕ) → step_after bs at n ≡ step_at bs (walk_place n bs at)
unfolding step_after
behind_at bs at zero = refl
behind_at bs at (suc n) = behind_at bs (place_after at (step_at bs at)) n

-- The last of n + 1 steps is the one after the first n.
pub place_last : (bs : List ℕ) (at n : ℕ) → walk_place (suc n) bs at ≡ place_after (walk_place n bs at) (step_at bs (walk_place n bs at))
place_last bs at zero = refl
place_last bs at (suc n) = place_last bs (place_after at (step_at bs at)) n

-- Where a step leads nowhere, all steps after it are the same.
same_again : (bs : List ℕ) (at n : ℕ) → at ≡ place_after at (step_at bs at) → step_at bs at ≡ step_after bs at n
unfolding step_after
same_again bs at zero e = refl
same_again bs at (suc n) e = same_again bs at n e ∙ ap (λ (p : ℕ). step_after bs p n) e

pub stays : (bs : List ℕ) (at k n : ℕ) {s : Step} → s ≡ step_after bs at k → ((p : ℕ) → p ≡ place_after p s) → k ≤ n
    → s ≡ step_after bs at n
unfolding step_after
stays bs at zero n e h l = e ∙ same_again bs at n (h at ∙ ap (place_after at) e)
stays bs at (suc k) zero e h l = absurd (omega arith)
stays bs at (suc k) (suc n) e h l = stays bs (place_after at (step_at bs at)) k n e h (omega arith)

-- A step of a reader that holds the bytes and stands where k steps lead: it is the one after k steps, and leads where the next
-- one starts.
pub taken : (bs : List ℕ) (k : ℕ) {held : List ℕ} {p q : ℕ} {s : Step} → held ≡ bs → p ≡ walk_place k bs 8 → s ≡ step_at held p
    → q ≡ place_after p s → (s ≡ step_after bs 8 k) × (q ≡ walk_place (suc k) bs 8)
taken bs k {held} {p} {q} {s} h e f g =
    let r : s ≡ step_at bs (walk_place k bs 8) = f ∙ ap₂ step_at h e in
    (r ∙ sym (behind_at bs 8 k), g ∙ ap₂ place_after e r ∙ sym (place_last bs 8 k))
