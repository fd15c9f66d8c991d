-- The page of characters: from its test over all entries to the fact at each of them. Assumes nothing.
use mathlib.Core.Path.{◌≡◌, refl, sym, subst, ◌∙◌}
use mathlib.Core.Bool.{Bool, true, false, and-false}
use mathlib.Core.List.{List, [], ◌∷◌}
use Prim.Native.Nat.{ℕ, zero, suc, ◌+◌, ◌<◌}
use native.Mathlib.Nat.{add-zero, zero-add, add-suc, suc-add, le_of_suc-le-suc, not-suc-le-zero}
use lib.Dec.{eqb}
use lib.ListN.{length, get_or}
use borrow.Author.Tests.{eqb-true}
use Rattle.format.proofs.Finding.{and_split}
use Rattle.read_characters.specs.Classes.{class_of, letter_class, digit_class, rule_class, label_class, star_class, space_class, other_class}
use Rattle.read_characters.specs.Page.{marks, has_marks, have_marks, is_page, IsPage}
use Rattle.read_characters.proofs.Classes.{by_class}

-- the entry of the value b + k, where the entries are those of the values from b on
from : (cs : List ℕ) (b k : ℕ) → have_marks b cs ≡ true → k < length cs → has_marks (b + k) (get_or cs k 0) ≡ true
from [] b k t h = absurd (not-suc-le-zero h)
from (c ∷ cs) b zero t h =
    subst (λ (v : ℕ). has_marks v c ≡ true) (sym (add-zero b)) (and_split (has_marks b c) (have_marks (suc b) cs) t).0
from (c ∷ cs) b (suc k) t h =
    subst (λ (v : ℕ). has_marks v (get_or cs k 0) ≡ true) (suc-add b k ∙ sym (add-suc b k))
    (from cs (suc b) k (and_split (has_marks b c) (have_marks (suc b) cs) t).1 (le_of_suc-le-suc h))

-- every entry has exactly the marks of its value
pub entry_marks : (cs : List ℕ) → IsPage cs → (b : ℕ) → b < 256 → has_marks b (get_or cs b 0) ≡ true
unfolding is_page
entry_marks cs t b h =
    let u = and_split (eqb (length cs) 256) (have_marks 0 cs) t in
    subst (λ (v : ℕ). has_marks v (get_or cs b 0) ≡ true) (zero-add b)
    (from cs 0 b u.1 (subst (λ (n : ℕ). b < n) (sym (eqb-true (length cs) 256 u.0)) h))

-- ---- the class of the value

-- a test passes where a conjunction that would fail without it passes
sure : (x : Bool) {w : Bool} → (x ≡ false → w ≡ false) → w ≡ true → x ≡ true
sure true f e = refl
sure false f e = sym (f refl) ∙ e

-- an entry with the marks of a value is its class
marked : (c b : ℕ) → has_marks b c ≡ true → eqb c (class_of b) ≡ true
marked c =
    by_class (λ k l d r g t p. marks c l d r g t p ≡ true → eqb c k ≡ true)
    (sure (eqb c letter_class) (λ e. rw e))
    (sure (eqb c digit_class) (λ e. rw e (simp and-false)))
    (sure (eqb c rule_class) (λ e. rw e (simp and-false)))
    (sure (eqb c label_class) (λ e. rw e (simp and-false)))
    (sure (eqb c star_class) (λ e. rw e (simp and-false)))
    (sure (eqb c space_class) (λ e. rw e (simp and-false)))
    (sure (eqb c other_class) (λ e. rw e (simp and-false)))

-- the page gives each value its class
pub entry_class : (cs : List ℕ) → IsPage cs → (b : ℕ) → b < 256 → get_or cs b 0 ≡ class_of b
entry_class cs t b h = eqb-true (get_or cs b 0) (class_of b) (marked (get_or cs b 0) b (entry_marks cs t b h))
