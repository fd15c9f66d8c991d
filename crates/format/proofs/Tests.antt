-- Chains of tests: what a reading that found something has passed, and that passed tests lead to the rest.
use mathlib.Core.Path.{◌≡◌, refl, ◌∙◌}
use mathlib.Core.Bool.{Bool, true, false}
use mathlib.Core.List.{List, [], ◌∷◌, ◌++◌}
use Prim.Native.Nat.{ℕ}
use native.Mathlib.Omega.{arith}
use Rattle.format.specs.Bytes.{All}
use Rattle.format.specs.Rules.{Check}
use Rattle.format.specs.Slots.{Slot}
use Rattle.format.specs.Reading.{Fault, Outcome, refused, found, need, and_then, Test, tested, located}

-- A refusal finds nothing.
pub refused_not : {A : Type 0} {f : Fault} {a : A} → refused f ≡ found a → ⊥
refused_not {A} {f} {a} e = let z : ◌≡◌ {A = ℕ} 0 1 = cc in omega arith

-- What is found is told by its outcome.
pub found_inj : {A : Type 0} {a b : A} → found a ≡ found b → a ≡ b
found_inj e = cc

-- Where something is found after a test, the test has passed.
pub needed : {A : Type 0} (b : Bool) (f : Fault) (rest : Outcome A) (a : A) → need b f rest ≡ found a → (b ≡ true) × (rest ≡ found a)
unfolding need
needed true f rest a e = (refl, e)
needed false f rest a e = absurd (refused_not e)

-- A passed test leads to the rest.
pub need_passed : {A : Type 0} (b : Bool) (f : Fault) (rest : Outcome A) → b ≡ true → need b f rest ≡ rest
unfolding need
need_passed b f rest e = rw e

-- A test that fails refuses.
pub need_failed : {A : Type 0} (b : Bool) (f : Fault) (rest : Outcome A) → b ≡ false → need b f rest ≡ refused f
unfolding need
need_failed b f rest e = rw e

-- Where something is found after an outcome, that found something too.
pub followed : {A B : Type 0} (o : Outcome A) (next : A → Outcome B) (b : B) → and_then o next ≡ found b
    → (a : A) × (o ≡ found a) × (next a ≡ found b)
unfolding and_then
followed (refused f) next b e = absurd (refused_not e)
followed (found a) next b e = (a, refl, e)

-- What is found is handed on.
pub then_found : {A B : Type 0} {o : Outcome A} (next : A → Outcome B) {a : A} → o ≡ found a → and_then o next ≡ next a
unfolding and_then
then_found next e = rw e

-- A refusal goes straight out.
pub then_refused : {A B : Type 0} {o : Outcome A} (next : A → Outcome B) {f : Fault} → o ≡ refused f → and_then o next ≡ refused f
unfolding and_then
then_refused next e = rw e

-- Each test of the list passes.
abbrev pub Hold : List Test → Type 0
Hold cs = All (λ (c : Test). c.holds ≡ true) cs

-- Where something is found after a list of tests, all have passed.
pub tests_passed : {A : Type 0} (at : ℕ) (cs : List Test) (rest : Outcome A) (a : A) → tested at cs rest ≡ found a
    → Hold cs × (rest ≡ found a)
unfolding tested
tests_passed at [] rest a e = (tt, e)
tests_passed at (c ∷ cs) rest a e =
    let n = needed c.holds _ _ a e in
    let i = tests_passed at cs rest a n.1 in
    ((n.0, i.0), i.1)

-- Passed tests lead to the rest.
pub tests_lead : {A : Type 0} (at : ℕ) (cs : List Test) (rest : Outcome A) → Hold cs → tested at cs rest ≡ rest
unfolding tested
tests_lead at [] rest h = refl
tests_lead at (c ∷ cs) rest h = need_passed c.holds _ _ h.0 ∙ tests_lead at cs rest h.1

-- Two lists pass together exactly when each does.
pub hold_split : (cs ds : List Test) → Hold (cs ++ ds) → Hold cs × Hold ds
hold_split [] ds h = (tt, h)
hold_split (c ∷ cs) ds h = let i = hold_split cs ds h.1 in ((h.0, i.0), i.1)

pub hold_join : (cs ds : List Test) → Hold cs → Hold ds → Hold (cs ++ ds)
hold_join [] ds h k = k
hold_join (c ∷ cs) ds h k = (h.0, hold_join cs ds h.1 k)

-- Each rule of the list is kept.
abbrev pub Kept : List Check → Type 0
Kept cs = All (λ (c : Check). c.holds ≡ true) cs

-- The rules on fields pass as tests exactly when they are kept.
pub kept_located : (ss : List Slot) (cs : List Check) → Kept cs → Hold (located ss cs)
kept_located ss [] h = tt
kept_located ss (c ∷ cs) h = (h.0, kept_located ss cs h.1)

pub located_kept : (ss : List Slot) (cs : List Check) → Hold (located ss cs) → Kept cs
located_kept ss [] h = tt
located_kept ss (c ∷ cs) h = (h.0, located_kept ss cs h.1)
