-- Laws of lists of tests in the shapes that the functions ask. Assumes nothing.
use Rattle.std.specs.Prelude.{⊤, Result, Ok, Err}
use mathlib.Core.Path.{◌≡◌, refl, sym, ap, ◌∙◌}
use mathlib.Core.Bool.{Bool, true, false, not, ◌&&◌, ◌||◌}
use mathlib.Core.List.{List, [], ◌∷◌, ◌++◌}
use Prim.Native.Nat.{ℕ, ◌+◌, ◌<◌, ◌≤◌}
use native.Mathlib.Nat.{add-zero}
use native.Mathlib.Omega.{arith}
use lib.Dec.{eqb, leb}
use lib.ListN.{length, get_or, take, drop}
use lib.Seq.{drop-drop}
use borrow.Author.Tests.{eq-eqb, ne_eqb, le-leb, lt-leb, leb-true}
use Rattle.format.specs.Bytes.{number, bytes_at, all_zero}
use Rattle.format.proofs.Finding.{and_split}
use Rattle.format.proofs.Tests.{Hold}
use Rattle.read_fields.proofs.Lists.{zero_number}
use Rattle.read_fields.proofs.Numbers.{number_none, number_more}
use Rattle.format.specs.Reading.{stated, Test, test, need, tested}
use Rattle.format.specs.declared.Refusal.{Refusal}
use Rattle.read_sections.specs.Refusals.{whether, first_refusal, head_checks, sub_head_checks, fixed_head_checks}

-- ---- bytes after a place

-- the bytes at an offset of what stands at a place
pub at_drop : (s : List ℕ) (p o n : ℕ) → bytes_at (drop p s) o n ≡ bytes_at s (p + o) n
unfolding bytes_at
at_drop s p o n = ap (take n) (drop-drop o p s)

-- ---- the first refusal

-- a test that passes leads to those after it, one that fails refuses
pub test_passes : (p : ℕ) (c : Test) (cs : List Test) → c.holds ≡ true → first_refusal p (c ∷ cs) ≡ first_refusal p cs
unfolding first_refusal tested need
test_passes p c cs e = rw e

pub test_fails : (p : ℕ) (c : Test) (cs : List Test) → c.holds ≡ false → first_refusal p (c ∷ cs) ≡ Err (record { number = c.refusal; place = p + c.offset })
unfolding first_refusal tested need whether
test_fails p c cs e = rw e

-- the tests ds are left of cs, those of the part at p: all before them have passed
pub record Left (p : ℕ) (cs ds : List Test) : Type 0 where
  pub same : (a : Result ⊤ Refusal) → a ≡ first_refusal p ds → a ≡ first_refusal p cs

-- none is made yet
pub all_left : {p : ℕ} (cs : List Test) → Left p cs cs
all_left cs = record { same = λ a e. e }

module _ {p : ℕ} {cs ds : List Test} {c : Test} (l : Left p cs (c ∷ ds)) where
  -- the next one passes
  pub passed : c.holds ≡ true → Left p cs ds
  passed e = record { same = λ a h. l.same a (h ∙ sym (test_passes p c ds e)) }

  -- the next one fails, and the place of what it looks at is given in another way
  pub failed_at : {r : Refusal} {q : ℕ} → r ≡ record { number = c.refusal; place = q } → q ≡ p + c.offset → c.holds ≡ false → Err r ≡ first_refusal p cs
  failed_at {r} {q} e w h =
      l.same (Err r)
      (ap (λ (s : Refusal). Err s) e
      ∙ ap (λ (i : ℕ). Err (record { number = c.refusal; place = i })) w
      ∙ sym (test_fails p c ds h))

  -- the next one fails
  pub failed : {r : Refusal} → r ≡ record { number = c.refusal; place = p + c.offset } → c.holds ≡ false → Err r ≡ first_refusal p cs
  failed e h = failed_at e refl h

-- none is left
pub none_left : {p : ℕ} {cs : List Test} → Left p cs [] → Ok tt ≡ first_refusal p cs
unfolding first_refusal tested whether
none_left l = l.same (Ok tt) refl

-- a test passes or fails
pub either : {A : Type 0} (b : Bool) → (b ≡ true → A) → (b ≡ false → A) → A
either true f g = f refl
either false f g = g refl

-- where no test of a list fails, each passes
pub all_hold : {u : ⊤} (p : ℕ) (cs : List Test) → Ok u ≡ first_refusal p cs → Hold cs
all_hold p [] e = tt
all_hold p (c ∷ cs) e =
    either c.holds
    (λ h. (h, all_hold p cs (e ∙ test_passes p c cs h)))
    (λ h. absurd (let z = e ∙ test_fails p c cs h in let o : ◌≡◌ {A = ℕ} 0 1 = cc in omega arith))

-- the tests in front stop, or lead to those after
head_stop : {r : Refusal} (p : ℕ) (cs ds : List Test) → Err r ≡ first_refusal p cs → Err r ≡ first_refusal p (cs ++ ds)
unfolding first_refusal tested whether
head_stop p [] ds e = absurd (let o : ◌≡◌ {A = ℕ} 0 1 = cc in omega arith)
head_stop p (c ∷ cs) ds e =
    either c.holds
    (λ h. head_stop p cs ds (e ∙ test_passes p c cs h) ∙ sym (test_passes p c (cs ++ ds) h))
    (λ h. e ∙ test_fails p c cs h ∙ sym (test_fails p c (cs ++ ds) h))

head_passed : {p : ℕ} {bs : List Test} (cs ds : List Test) → Left p bs (cs ++ ds) → Hold cs → Left p bs ds
head_passed [] ds l h = l
head_passed (c ∷ cs) ds l h = head_passed cs ds (passed l h.0) h.1

-- the next tests of bs, which are cs, are made by a call: one of them refuses, or those after them, ds, are left
pub record Made (p : ℕ) (cs bs ds : List Test) : Type 0 where
  pub stop : {r : Refusal} → Err r ≡ first_refusal p cs → Err r ≡ first_refusal p bs
  pub left : {u : ⊤} → Ok u ≡ first_refusal p cs → Left p bs ds

pub made : {p : ℕ} {bs : List Test} (cs ds : List Test) → Left p bs (cs ++ ds) → Made p cs bs ds
made {p} cs ds l = record { stop = λ {r} e. l.same (Err r) (head_stop p cs ds e); left = λ {u} e. head_passed cs ds l (all_hold p cs e) }

-- these are a section's head
pub section_head_is : {p : ℕ} (m : ℕ) (seen : Bool) (r : List ℕ) (ds : List Test)
    → Made p (head_checks m seen r) (test 1 8 (all_zero (bytes_at r 1 1)) ∷ test 2 6 (leb m (stated r) && leb (stated r) (length r)) ∷ test 0 9 (not seen) ∷ ds) ds
unfolding head_checks
section_head_is m seen r ds = made (head_checks m seen r) ds (all_left _)

module _ (m n : ℕ) (seen : Bool) (r : List ℕ) (ds : List Test) where
  -- a subsection's, in n bytes
  abbrev Subsection : List Test → List Test
  Subsection cs = test 2 12 (leb m (stated r) && leb (stated r) n) ∷ test 0 14 (not seen) ∷ test 4 8 (all_zero (bytes_at r 4 1)) ∷ cs

  pub sub_head : {p : ℕ} → Made p (sub_head_checks m seen n r) (Subsection ds) ds
  unfolding sub_head_checks
  sub_head = made (sub_head_checks m seen n r) ds (all_left _)

  -- that of one that is always of the same length
  pub fixed_head : {p : ℕ} → Made p (fixed_head_checks m seen n r) (Subsection (test 2 12 (eqb m (stated r)) ∷ test 5 10 (all_zero (bytes_at r 5 1)) ∷ ds)) ds
  unfolding fixed_head_checks sub_head_checks
  fixed_head = made (fixed_head_checks m seen n r) ds (all_left _)

-- what a passed head says of the lengths: the least one, and so the fixed fields, lie within the bytes
within : (m l n : ℕ) → (leb m l && leb l n) ≡ true → (m ≤ l) × (l ≤ n)
within m l n e = let s = and_split (leb m l) (leb l n) e in (leb-true m l s.0, leb-true l n s.1)

pub head_room : {u : ⊤} (p m : ℕ) (seen : Bool) (r : List ℕ) → Ok u ≡ first_refusal p (head_checks m seen r) → (m ≤ stated r) × (stated r ≤ length r)
unfolding head_checks
head_room p m seen r e = within m (stated r) (length r) (all_hold p (head_checks m seen r) e).1.0

module _ {u : ⊤} (p m n : ℕ) (seen : Bool) (r : List ℕ) where
  pub room_for : Ok u ≡ first_refusal p (sub_head_checks m seen n r) → (m ≤ stated r) × (stated r ≤ n)
  unfolding sub_head_checks
  room_for e = within m (stated r) n (all_hold p (sub_head_checks m seen n r) e).0

  pub fixed_room : Ok u ≡ first_refusal p (fixed_head_checks m seen n r) → (m ≤ stated r) × (stated r ≤ n)
  unfolding fixed_head_checks sub_head_checks
  fixed_room e = within m (stated r) n (all_hold p (fixed_head_checks m seen n r) e).0

-- a test that passes, at the end
pub pass_last : {a : Result ⊤ Refusal} (p : ℕ) (cs : List Test) (c : Test) → c.holds ≡ true → a ≡ first_refusal p cs → a ≡ first_refusal p (cs ++ c ∷ [])
pass_last p [] c h e = e ∙ sym (test_passes p c [] h)
pass_last p (d ∷ cs) c h e =
    either d.holds
    (λ k. pass_last p cs c h (e ∙ test_passes p d cs k) ∙ sym (test_passes p d (cs ++ c ∷ []) k))
    (λ k. e ∙ test_fails p d cs k ∙ sym (test_fails p d (cs ++ c ∷ []) k))

-- ---- single tests, as the code makes them

module _ (s : List ℕ) (o n : ℕ) {v : ℕ} (e : v ≡ number (bytes_at s o n)) where
  -- bytes whose number is 0 are all 0
  pub zero_yes : v ≡ 0 → all_zero (bytes_at s o n) ≡ true
  zero_yes h = zero_number (bytes_at s o n) ∙ eq-eqb _ 0 (sym e ∙ h)

  -- and others are not
  pub zero_not : (v ≡ 0 → ⊥) → all_zero (bytes_at s o n) ≡ false
  zero_not h = zero_number (bytes_at s o n) ∙ ne_eqb _ 0 (λ z. h (e ∙ z))

  -- the number is at most m, or above it
  pub at_most : (m : ℕ) → v ≤ m → leb (number (bytes_at s o n)) m ≡ true
  at_most m h = le-leb (number (bytes_at s o n)) m (omega (arith, e))

  pub above : (m : ℕ) → m < v → leb (number (bytes_at s o n)) m ≡ false
  above m h = lt-leb (number (bytes_at s o n)) m (omega (arith, e))

  -- the number is at least m, or below it
  pub at_least : (m : ℕ) → m ≤ v → leb m (number (bytes_at s o n)) ≡ true
  at_least m h = le-leb m (number (bytes_at s o n)) (omega (arith, e))

  pub below : (m : ℕ) → v < m → leb m (number (bytes_at s o n)) ≡ false
  below m h = lt-leb m (number (bytes_at s o n)) (omega (arith, e))

  -- the number is k, or another
  pub equal : (k : ℕ) → v ≡ k → eqb k (number (bytes_at s o n)) ≡ true
  equal k h = eq-eqb k _ (sym h ∙ e)

  pub unequal : (k : ℕ) → (v ≡ k → ⊥) → eqb k (number (bytes_at s o n)) ≡ false
  unequal k h = ne_eqb k _ (λ q. h (e ∙ sym q))

  -- with the number first
  pub is_number : (k : ℕ) → v ≡ k → eqb (number (bytes_at s o n)) k ≡ true
  is_number k h = eq-eqb _ k (sym e ∙ h)

  pub other_number : (k : ℕ) → (v ≡ k → ⊥) → eqb (number (bytes_at s o n)) k ≡ false
  other_number k h = ne_eqb _ k (λ q. h (e ∙ q))

-- what was read at a place is what stands at the offset after it
pub number_at : (s : List ℕ) (p o n : ℕ) {v : ℕ} → v ≡ number (bytes_at s (p + o) n) → v ≡ number (bytes_at (drop p s) o n)
number_at s p o n e = e ∙ sym (ap number (at_drop s p o n))

-- a single byte as a number
pub byte_number : (s : List ℕ) (i : ℕ) → i < length s → get_or s i 0 ≡ number (bytes_at s i 1)
byte_number s i h =
    let h₀ : i + 0 < length s = omega arith in
    let e : get_or s (i + 0) 0 ≡ get_or s i 0 = ap (λ (j : ℕ). get_or s j 0) (add-zero i) in
    omega (arith, number_more s i 0 h₀, number_none s i, e)

-- two tests in one check
pub both_yes : {a b : Bool} → a ≡ true → b ≡ true → (a && b) ≡ true
both_yes e f = rw e f

pub first_not : {a : Bool} (b : Bool) → a ≡ false → (a && b) ≡ false
first_not b e = rw e

pub second_not : {a b : Bool} → a ≡ true → b ≡ false → (a && b) ≡ false
second_not e f = rw e f

-- a test that is made only where j holds: the MKVP of an external token, dates whose flags are 1
pub not_asked : {j : Bool} (b : Bool) → j ≡ false → (not j || b) ≡ true
not_asked b e = rw e

pub asked : {j b v : Bool} → j ≡ true → b ≡ v → (not j || b) ≡ v
asked e h = rw e h
