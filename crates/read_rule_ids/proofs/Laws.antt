-- Laws of the set: looking for a number from its hash on, and putting it at the first empty place. Assumes nothing.
use mathlib.Core.Path.{◌≡◌, refl, sym, ◌∙◌, subst, subst⁻¹}
use mathlib.Core.List.{List, [], ◌∷◌}
use mathlib.Core.Bool.{Bool, true, false, ◌||◌, or-true}
use mathlib.Core.Logic.{◌⊎◌, inl, inr, ⊎_elim}
use Prim.Native.Nat.{ℕ, zero, suc, ◌+◌, ◌-◌, ◌≤◌, ◌<◌}
use native.Mathlib.Nat.{eq-zero-or-pos}
use native.Mathlib.Omega.{arith}
use lib.ListN.{length, get_or, set, length-set, replicate, length-replicate}
use lib.Seq.{get_or-set_same, get_or-set_other}
use lib.Dec.{eqb}
use borrow.Author.Tests.{eq-eqb, ne_eqb, eqb-true, eqb-false}
use Rattle.read_rule_ids.specs.Keys.{id_places, among, hash_of, Below, Kept, Room, Put}

-- ---- tests and numbers

-- Three tests of which one passes, in another order.
or_swap : (a b c : Bool) → (a || (b || c)) ≡ (b || (a || c))
or_swap true true c = refl
or_swap true false c = refl
or_swap false b c = refl

-- Two numbers are the same, or not.
pub same_or : (x y : ℕ) → (x ≡ y) ⊎ (x ≡ y → ⊥)
same_or x y = go (eqb x y) refl
  where
    go : (b : Bool) → eqb x y ≡ b → (x ≡ y) ⊎ (x ≡ y → ⊥)
    go true e = inl (eqb-true x y e)
    go false e = inr (eqb-false x y e)

-- A hash is one of 512.
hash_small : (k : ℕ) → hash_of k < 512
unfolding hash_of
hash_small k = omega arith

-- A number up to another is that number or below it.
upto : (j i : ℕ) → j < i + 1 → (j ≡ i) ⊎ (j < i)
upto j i h = ⊎_elim (λ e. inl (omega arith)) (λ g. inr (omega arith)) (eq-zero-or-pos (i - j))

-- Of two numbers one is below, or the other is not above.
order : (j i : ℕ) → (j < i) ⊎ (i ≤ j)
order j i = ⊎_elim (λ e. inr (omega arith)) (λ g. inl (omega arith)) (eq-zero-or-pos (i - j))

-- ---- elements

-- An element that stands at a place is among the list.
found : (k : ℕ) (l : List ℕ) (i : ℕ) → i < length l → get_or l i 0 ≡ k → among k l ≡ true
unfolding among
found k [] i h e = absurd (omega arith)
found k (x ∷ l) zero h e = rw (eq-eqb x k e)
found k (x ∷ l) (suc i) h e = rw (found k l i (omega arith) e) (or-true (eqb x k))

-- A number that stands at no place is not.
absent : (k : ℕ) (l : List ℕ) → ((i : ℕ) → i < length l → get_or l i 0 ≡ k → ⊥) → among k l ≡ false
unfolding among
absent k [] f = refl
absent k (x ∷ l) f =
    rw (ne_eqb x k (f 0 (omega arith))) (absent k l (λ i h e. f (suc i) (omega arith) e))

-- A number put at an empty place is among the list, with those before.
among_set : (x k : ℕ) (l : List ℕ) (i : ℕ) → i < length l → get_or l i 0 ≡ 0 → 0 < x
    → among x (set l i k) ≡ (eqb k x || among x l)
unfolding among
among_set x k [] i h e p = absurd (omega arith)
among_set x k (y ∷ l) zero h e p = rw (ne_eqb y x (λ q. omega arith))
among_set x k (y ∷ l) (suc i) h e p =
    rw (among_set x k l i (omega arith) e p) (or_swap (eqb y x) (eqb k x) (among x l))

-- ---- looking for a number

-- The places from the hash of k up to i were looked at: they are full, and hold other numbers.
pub record Looked (l : List ℕ) (k i : ℕ) : Type 0 where
  pub from : hash_of k ≤ i
  pub bound : i < id_places
  pub full : (j : ℕ) → hash_of k ≤ j → j < i → get_or l j 0 ≡ 0 → ⊥
  pub other : (j : ℕ) → hash_of k ≤ j → j < i → get_or l j 0 ≡ k → ⊥

module _ (l : List ℕ) (k : ℕ) where
  -- At the hash nothing was looked at yet.
  pub start : {i : ℕ} → i ≡ hash_of k → Looked l k i
  start e =
      record {
        from = omega arith;
        bound = omega (arith, hash_small k);
        full = λ j a b. absurd (omega arith);
        other = λ j a b. absurd (omega arith);
      }

  -- One more place that is full and holds another number.
  pub step : {i : ℕ} → Room l → Looked l k i → (get_or l i 0 ≡ 0 → ⊥) → (get_or l i 0 ≡ k → ⊥) → Looked l k (i + 1)
  step {i} r s z n =
      record {
        from = let a = s.from in omega arith;
        bound = let a = r.below i z in omega arith;
        full = λ j a b. ⊎_elim (λ e. rw e z) (λ d. s.full j a d) (upto j i b);
        other = λ j a b. ⊎_elim (λ e. rw e n) (λ d. s.other j a d) (upto j i b);
      }

  -- Where an empty place comes first, k is not there.
  missing : {i : ℕ} → 0 < k → Kept l → Looked l k i → get_or l i 0 ≡ 0 → among k l ≡ false
  missing {i} h r s z = absent k l (λ m b e.
      let nz : get_or l m 0 ≡ 0 → ⊥ = λ g. omega (arith, e, g) in
      let low : hash_of k ≤ m = subst (λ (x : ℕ). hash_of x ≤ m) e (r.placed m nz) in
      ⊎_elim
      (λ u. s.other m low (omega arith) e)
      (λ u. ⊎_elim
      (λ v. let q : m ≡ i = omega arith in nz (rw q z))
      (λ v. r.probed m i nz (subst (λ (x : ℕ). hash_of x ≤ i) (sym e) s.from) (omega arith) z)
      (eq-zero-or-pos (m - i)))
      (order m i))

  -- It is put there.
  pub fresh : {i : ℕ} → 0 < k → Room l → Looked l k i → get_or l i 0 ≡ 0 → Put l k false (set l i k)
  fresh {i} h r s z =
      let inside : i < length l = omega (arith, s.bound, r.kept.sized) in
      let here : get_or (set l i k) i 0 ≡ k = get_or-set_same l i k 0 inside in
      record {
        told = sym (missing h r.kept s z);
        kept = record {
          sized = length-set l i k ∙ r.kept.sized;
          placed = λ x nz. ⊎_elim
              (λ e. subst⁻¹ (λ (y : ℕ). hash_of (get_or (set l i k) y 0) ≤ y) e (subst⁻¹ (λ (y : ℕ). hash_of y ≤ i) here s.from))
              (λ d.
              let o : get_or (set l i k) x 0 ≡ get_or l x 0 = get_or-set_other l i x k 0 d in
              subst⁻¹ (λ (y : ℕ). hash_of y ≤ x) o (r.kept.placed x (λ g. nz (o ∙ g))))
              (same_or x i);
          probed = λ x j nz a b g. ⊎_elim
              (λ e. let q : get_or (set l i k) i 0 ≡ 0 = subst (λ (y : ℕ). get_or (set l i k) y 0 ≡ 0) e g in omega (arith, here, q))
              (λ dj.
              let zj : get_or l j 0 ≡ 0 = sym (get_or-set_other l i j k 0 dj) ∙ g in
              ⊎_elim
              (λ e.
              let a' : hash_of (get_or (set l i k) i 0) ≤ j = subst (λ (y : ℕ). hash_of (get_or (set l i k) y 0) ≤ j) e a in
              s.full j (subst (λ (y : ℕ). hash_of y ≤ j) here a') (omega arith) zj)
              (λ d.
              let o : get_or (set l i k) x 0 ≡ get_or l x 0 = get_or-set_other l i x k 0 d in
              r.kept.probed x j (λ q. nz (o ∙ q)) (subst (λ (y : ℕ). hash_of y ≤ j) o a) b zj)
              (same_or x i))
              (same_or j i);
        };
        below = λ m big old x nz. ⊎_elim
            (λ e. ⊎_elim
            (λ u. let f = old (i - 1) (s.full (i - 1) (omega arith) (omega arith)) in omega arith)
            (λ u. omega (arith, hash_small k))
            (order (hash_of k) i))
            (λ d. let f = old x (λ q. nz (get_or-set_other l i x k 0 d ∙ q)) in omega arith)
            (same_or x i);
        holds = λ x p. among_set x k l i inside z p;
      }

  -- Where k stands, the set stays.
  pub seen : {i : ℕ} → Room l → Looked l k i → get_or l i 0 ≡ k → Put l k true l
  seen {i} r s z =
      let inside : i < length l = omega (arith, s.bound, r.kept.sized) in
      record {
        told = sym (found k l i inside z);
        kept = r.kept;
        below = λ m big old x nz. let f = old x nz in omega arith;
        holds = λ x p. ⊎_elim
            (λ e. let q : among x l ≡ true = found x l i inside (z ∙ e) in rw (q, or-true (eqb k x)))
            (λ d. rw (ne_eqb k x d))
            (same_or k x);
      }

-- ---- the empty set

-- Every place is empty.
none_at : (n i : ℕ) → get_or (replicate {A = ℕ} n 0) i 0 ≡ 0
none_at zero zero = refl
none_at zero (suc i) = refl
none_at (suc n) zero = refl
none_at (suc n) (suc i) = none_at n i

-- No number is in it.
pub none_among : (n x : ℕ) → 0 < x → among x (replicate n 0) ≡ false
unfolding among
none_among zero x h = refl
none_among (suc n) x h = rw (ne_eqb 0 x (λ e. omega arith)) (none_among n x h)

-- It keeps its rule.
pub none_kept : Kept (replicate id_places 0)
none_kept =
    record {
      sized = length-replicate {A = ℕ} id_places 0;
      placed = λ i nz. absurd (nz (none_at id_places i));
      probed = λ i j nz. absurd (nz (none_at id_places i));
    }

-- Nothing stands after any place.
pub none_below : (m : ℕ) → Below m (replicate id_places 0)
none_below m i nz = absurd (nz (none_at id_places i))
