-- A label template as its first character and what follows it. Assumes nothing.
use mathlib.Core.Path.{◌≡◌, refl, sym, ap, ap₂, ◌∙◌}
use mathlib.Core.Bool.{Bool, true, false, not, ◌&&◌, ◌||◌, and-true, and-false, and_comm, or-false}
use mathlib.Core.List.{List, [], ◌∷◌}
use Prim.Native.Nat.{ℕ, zero, suc, ◌+◌, ◌≤◌}
use native.Mathlib.Omega.{arith}
use native.Mathlib.Nat.{zero-add, suc-add, suc-sub-suc, sub-zero}
use native.Mathlib.Numerals.{one-add}
use lib.Dec.{eqb, leb, eqb-suc-zero, leb-suc-suc, leb-suc-zero, leb-zero}
use lib.ListN.{length, get_or, take, drop}
use lib.Seq.{drop-drop}
use borrow.Author.Tests.{eq-eqb, ne_eqb}
use Rattle.format.proofs.Grouping.{is_true, is_false}
use Rattle.format.specs.Bytes.{every, how_many}
use Rattle.format.specs.Forms.{leading, digit, star, space, in_label, plain_label, one_star, label_form, label_reach}
use Rattle.read_characters.specs.Classes.{class_of, of_class, label_class, digit_class, star_class}
use Rattle.read_characters.specs.Templates.{star_after, body, given, place_after, template_length}
use Rattle.read_characters.proofs.Classes.{by_class, plain_class, star_class_is}
use Rattle.read_characters.proofs.Runs.{leading_more, leading_stop, leading_same}

-- ---- the sorts of characters: a plain one, a star, one that stands in no label template

-- by whether it stands in one, is plain, is a star, is a space
data Sort (w q t v : Bool) : Type 0 where
  is_plain : w ≡ true → q ≡ true → t ≡ false → v ≡ false → Sort w q t v
  is_star : w ≡ true → q ≡ false → t ≡ true → v ≡ false → Sort w q t v
  neither : w ≡ false → q ≡ false → t ≡ false → Sort w q t v

sort : (b : ℕ) → Sort (in_label b) (plain_label b) (star b) (space b)
sort =
    by_class (λ c l d r g t p. Sort (l || d || g || t) (l || d || g) t p) (is_plain refl refl refl refl)
    (is_plain refl refl refl refl) (neither refl refl refl) (is_plain refl refl refl refl)
    (is_star refl refl refl refl) (neither refl refl refl) (neither refl refl refl)

-- ---- the characters in front of a list

many_yes : (f : ℕ → Bool) (b : ℕ) (bs : List ℕ) → f b ≡ true → how_many f (b ∷ bs) ≡ 1 + how_many f bs
many_yes f b bs t = rw (t, how_many)

many_no : (f : ℕ → Bool) (b : ℕ) (bs : List ℕ) → f b ≡ false → how_many f (b ∷ bs) ≡ 0 + how_many f bs
many_no f b bs t = rw (t, how_many)

-- only spaces follow them
abbrev spaces_after : List ℕ → Bool
spaces_after bs = every space (drop (leading in_label bs) bs)

-- the stars among them
abbrev stars : List ℕ → ℕ
stars bs = how_many star (take (leading in_label bs) bs)

-- the last of them, or b before them where there are none, is a star
abbrev star_last : ℕ → List ℕ → Bool
star_last b bs = star (get_or (b ∷ bs) (leading in_label bs) 0)

module _ (b : ℕ) (bs : List ℕ) (e : in_label b ≡ true) where
  stars_more : star b ≡ true → stars (b ∷ bs) ≡ suc (stars bs)
  stars_more s = rw (leading_more in_label b bs e, many_yes star b _ s) (one-add (stars bs))

  stars_same : star b ≡ false → stars (b ∷ bs) ≡ stars bs
  stars_same s = rw (leading_more in_label b bs e, many_no star b _ s) (zero-add (stars bs))

-- no star among them
no_star : (bs : List ℕ) → (spaces_after bs && eqb (stars bs) 0) ≡ every space (drop (leading plain_label bs) bs)
no_star [] = refl
no_star (x ∷ xs) =
    elim (sort x) [
      | is_plain e p s w ↦
          rw (stars_same x xs e s, leading_more in_label x xs e, leading_more plain_label x xs p) (no_star xs)
      | is_star e p s w ↦
          rw (stars_more x xs e s, leading_stop plain_label x xs p, eqb-suc-zero (stars xs), w) (simp and-false)
      | neither e p s ↦ rw (leading_stop in_label x xs e, leading_stop plain_label x xs p) (simp and-true)
    ]

-- no star, yet the last is one: it is b, and only spaces follow
star_before : (b : ℕ) (bs : List ℕ)
    → (spaces_after bs && eqb (stars bs) 0 && star_last b bs) ≡ (star b && every space bs)
star_before b [] = sym (and-true (star b))
star_before b (x ∷ xs) =
    elim (sort x) [
      | is_plain e p s w ↦ rw (stars_same x xs e s, leading_more in_label x xs e, star_before x xs, s, w) (simp and-false)
      | is_star e p s w ↦ rw (stars_more x xs e s, eqb-suc-zero (stars xs), w) (simp and-false)
      | neither e p s ↦ rw (leading_stop in_label x xs e, and-true) (and_comm (every space (x ∷ xs)) (star b))
    ]

leb_one : (n : ℕ) → leb (suc n) 1 ≡ eqb n 0
leb_one zero = refl
leb_one (suc n) = leb-suc-suc (suc n) 0 ∙ leb-suc-zero n ∙ sym (eqb-suc-zero n)

-- what is left behind the star after them
abbrev after_star : Bool → List ℕ → List ℕ
after_star t xs = drop (star_after t xs) xs

-- no star, or one, which is the last
one_star_is : (b : ℕ) (bs : List ℕ) → (spaces_after bs && leb (stars bs) 1 && (eqb (stars bs) 0 || star_last b bs))
    ≡ every space (after_star false (drop (leading plain_label bs) bs))
one_star_is b [] = refl
one_star_is b (x ∷ xs) =
    elim (sort x) [
      | is_plain e p s w ↦
          rw (stars_same x xs e s, leading_more in_label x xs e, leading_more plain_label x xs p) (one_star_is x xs)
      | is_star e p s w ↦
          rw (stars_more x xs e s, leading_more in_label x xs e, leading_stop plain_label x xs p, eqb-suc-zero (stars xs))
          (rw (leb_one (stars xs), star_before x xs, s, one_star))
      | neither e p s ↦
          rw (leading_stop in_label x xs e, leading_stop plain_label x xs p, s, one_star) (simp and-true)
    ]

-- ---- the whole template

-- a test of the first character, put in front
first_out : (f a l m : Bool) → (a && f && l && m) ≡ (f && (a && l && m))
first_out true a l m = ap (λ (t : Bool). t && l && m) (and-true a)
first_out false a l m = ap (λ (t : Bool). t && l && m) (and-false a)

body_left : (b : ℕ) (bs : List ℕ)
    → drop (body (b ∷ bs)) (b ∷ bs) ≡ after_star (star b) (drop (leading plain_label bs) bs)
body_left b bs =
    let n = leading plain_label bs in sym (drop-drop (star_after (star b) (drop n bs)) n bs)

-- the first is no digit, and spaces follow its characters
label_split : (b : ℕ) (bs : List ℕ) → label_form (b ∷ bs)
    ≡ ((in_label b && not (digit b)) && every space (drop (body (b ∷ bs)) (b ∷ bs)))
unfolding label_form
label_split b bs =
    rw (body_left b bs)
    (elim (sort b) [
      | is_plain e p s w ↦
          rw (stars_same b bs e s, leading_more in_label b bs e, e, s, leb-suc-suc, leb-zero, suc-sub-suc, sub-zero)
          (rw (or-false, first_out (not (digit b)), one_star_is b bs))
      | is_star e p s w ↦
          rw (stars_more b bs e s, leading_more in_label b bs e, e, s, leb_one (stars bs), leb-suc-suc, leb-zero)
          (rw (eqb-suc-zero (stars bs), first_out (not (digit b)), and-true, no_star bs))
      | neither e p s ↦ rw (leading_stop in_label b bs e, e)
    ])

-- its characters up to a star that is not the first
abbrev count : List ℕ → ℕ
count bs = one_star bs + leading plain_label (drop (one_star bs) bs)

-- where it cannot go on, from the stars in front (0 or 1) and that count
abbrev place_from : List ℕ → ℕ → ℕ → ℕ
place_from bs first n =
    let m = n + elim first as (λ f. ℕ) [ zero ↦ one_star (drop n bs) | suc f ↦ 0 ] in
    elim (eqb n 0 || digit (get_or bs 0 0)) as (λ c. ℕ) [ true ↦ 0 | false ↦ m + leading space (drop m bs) ]

no_digit : (n : ℕ) (d : Bool) (x : ℕ)
    → elim (eqb (suc n) 0 || d) as (λ c. ℕ) [ true ↦ 0 | false ↦ x ] ≡ given (not d) x
no_digit n true x = is_true (eqb (suc n) 0 || true) 0 x (rw eqb-suc-zero)
no_digit n false x = is_false (eqb (suc n) 0 || false) 0 x (rw eqb-suc-zero)

-- that is after its characters and the spaces behind them
place_split : (b : ℕ) (bs : List ℕ) → label_reach (b ∷ bs)
    ≡ given (in_label b && not (digit b)) (body (b ∷ bs) + leading space (drop (body (b ∷ bs)) (b ∷ bs)))
unfolding label_reach
place_split b bs =
    let n = leading plain_label bs in
    elim (sort b) [
      | is_plain e p s w ↦
          let first : one_star (b ∷ bs) ≡ 0 = rw (s, one_star) in
          let m : count (b ∷ bs) ≡ suc n = rw (first, leading_more plain_label b bs p) (zero-add (suc n)) in
          ap₂ (place_from (b ∷ bs)) first m
          ∙ no_digit n (digit b) _ ∙ rw (e, s, suc-add n)
      | is_star e p s w ↦
          let first : one_star (b ∷ bs) ≡ 1 = rw (s, one_star) in
          let m : count (b ∷ bs) ≡ suc n = rw first (one-add n) in
          ap₂ (place_from (b ∷ bs)) first m
          ∙ no_digit n (digit b) _ ∙ rw (e, s, suc-add n)
      | neither e p s ↦
          let first : one_star (b ∷ bs) ≡ 0 = rw (s, one_star) in
          let m : count (b ∷ bs) ≡ 0 = rw (first, leading_stop plain_label b bs p) in
          ap₂ (place_from (b ∷ bs)) first m ∙ rw e
    ]

-- ---- a star in front of a list

pub star_there : (xs : List ℕ) → 1 ≤ length xs → class_of (get_or xs 0 0) ≡ star_class → one_star xs ≡ 1
star_there [] some e = absurd (omega arith)
star_there (b ∷ bs) some e = rw (star_class_is b, e, one_star)

pub none_there : (xs : List ℕ) → (class_of (get_or xs 0 0) ≡ star_class → ⊥) → one_star xs ≡ 0
none_there [] n = refl
none_there (b ∷ bs) n = rw (star_class_is b, ne_eqb (class_of b) star_class n, one_star)

-- ---- the template in front of a list, by its length

-- none, since the first may not be first
pub length_none : (xs : List ℕ) → (in_label (get_or xs 0 0) && not (digit (get_or xs 0 0))) ≡ false → template_length xs ≡ 0
unfolding template_length
length_none [] t = refl
length_none (b ∷ bs) t = rw t

-- the first, those after it up to n, and a star there where the first is none
pub length_some : (xs : List ℕ) → 1 ≤ length xs → (in_label (get_or xs 0 0) && not (digit (get_or xs 0 0))) ≡ true
    → {first n : ℕ} → first ≡ class_of (get_or xs 0 0) → n ≡ 1 + leading (of_class label_class digit_class) (drop 1 xs)
    → template_length xs ≡ n + star_after (eqb first star_class) (drop n xs)
unfolding template_length
length_some [] some t class run = absurd (omega arith)
length_some (b ∷ bs) some t {first} {n} class run =
    let r : n ≡ suc (leading plain_label bs)
    = omega (arith, run, leading_same plain_label (of_class label_class digit_class) plain_class bs) in
    rw (t, class, ← star_class_is b, r) (sym (suc-add (leading plain_label bs) _))

form_of : (c : Bool) (n : ℕ) (xs : List ℕ)
    → (c && every space (drop (suc n) xs)) ≡ (not (eqb (given c (suc n)) 0) && every space (drop (given c (suc n)) xs))
form_of true n xs = rw eqb-suc-zero
form_of false n xs = refl

-- it has the form where there is one and spaces follow
label_told : (xs : List ℕ) → label_form xs ≡ (not (eqb (template_length xs) 0) && every space (drop (template_length xs) xs))
unfolding template_length label_form
label_told [] = refl
label_told (b ∷ bs) =
    label_split b bs
    ∙ form_of (in_label b && not (digit b)) (leading plain_label bs + star_after (star b) (drop (leading plain_label bs) bs)) (b ∷ bs)

module _ (xs : List ℕ) {n : ℕ} (e : n ≡ template_length xs) where
  pub label_none : n ≡ 0 → label_form xs ≡ false
  label_none z = label_told xs ∙ rw (← e, eq-eqb n 0 z)

  pub label_some : (n ≡ 0 → ⊥) → label_form xs ≡ every space (drop n xs)
  label_some z = label_told xs ∙ rw (← e, ne_eqb n 0 z)

-- ---- where a field cannot go on, by the number of its characters

module _ (n : ℕ) (xs : List ℕ) where
  pub place_none : n ≡ 0 → place_after n xs ≡ 0
  place_none z = is_true (eqb n 0) 0 (n + leading space (drop n xs)) (eq-eqb n 0 z)

  pub place_some : (n ≡ 0 → ⊥) → place_after n xs ≡ n + leading space (drop n xs)
  place_some z = is_false (eqb n 0) 0 (n + leading space (drop n xs)) (ne_eqb n 0 z)

place_of : (c : Bool) (n : ℕ) (xs : List ℕ) → given c (suc n + leading space (drop (suc n) xs)) ≡ place_after (given c (suc n)) xs
place_of true n xs = sym (place_some (suc n) xs (λ e. omega arith))
place_of false n xs = refl

-- a label template
pub place_told : (xs : List ℕ) → label_reach xs ≡ place_after (template_length xs) xs
unfolding template_length label_reach
place_told [] = refl
place_told (b ∷ bs) =
    place_split b bs
    ∙ place_of (in_label b && not (digit b)) (leading plain_label bs + star_after (star b) (drop (leading plain_label bs) bs)) (b ∷ bs)
