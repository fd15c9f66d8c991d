-- Kinds are told by their numbers, and found by section id and tag.
use mathlib.Core.Path.{◌≡◌, refl, sym, ap, ap₂, ◌∙◌}
use mathlib.Core.Bool.{Bool, true, false, not, ◌&&◌, ◌||◌, or-true}
use mathlib.Core.List.{List, [], ◌∷◌}
use mathlib.Core.Option.{Option, some}
use Prim.Native.Nat.{ℕ, zero, suc, ◌+◌, ◌*◌, ◌<◌}
use native.Mathlib.Omega.{arith}
use lib.Dec.{eqb, ltb}
use borrow.Author.Tests.{eqb-true, eq-eqb, ltb-true, not-true}
use Rattle.format.specs.Parts.{Kind, public_key, rule, transport_variant, transport_rule, export_parameters}
use Rattle.format.specs.Parts.{source_rule, token_parameters, name, information, protection, dates, application_data}
use Rattle.format.specs.Parts.{kinds, section_id, tag, is_subsection, kind_number, same_kind}
use Rattle.format.specs.Reading.{first_kind, section_kind, subsection_kind}

-- ---- two tests

-- Where two tests pass together each of them passes.
pub and_split : (a b : Bool) → (a && b) ≡ true → (a ≡ true) × (b ≡ true)
and_split true b e = (refl, e)
and_split false b e = absurd (let z : ◌≡◌ {A = ℕ} 0 1 = cc in omega arith)

-- Where each of two tests passes they pass together.
pub and_join : (a b : Bool) → a ≡ true → b ≡ true → (a && b) ≡ true
and_join true b p q = q
and_join false b p q = p

-- Where one of two tests passes, one of the two does.
pub or_left : (a b : Bool) → a ≡ true → (a || b) ≡ true
or_left a b e = ap (λ (v : Bool). v || b) e

pub or_right : (a b : Bool) → b ≡ true → (a || b) ≡ true
or_right a b e = ap (λ (v : Bool). a || v) e ∙ or-true a

-- Where one of two tests passes and it is not the first, it is the second.
pub or_else : (a b : Bool) → (a || b) ≡ true → a ≡ false → b ≡ true
or_else a b e f = sym (ap (λ (v : Bool). v || b) f) ∙ e

-- Where the second test passes so does the one in its place.
pub or_map : (a b c : Bool) → (b ≡ true → c ≡ true) → (a || b) ≡ true → (a || c) ≡ true
or_map true b c h e = refl
or_map false b c h e = h e

-- ---- kinds are told by their numbers

-- The kind with this number, if there is one.
abbrev kind_of : ℕ → Option Kind
kind_of n = first_kind (λ k. eqb (kind_number k) n) kinds

-- Every kind is found by its number.
kind_of_told : (k : Kind) → kind_of (kind_number k) ≡ some k
kind_of_told = elim [
  | public_key ↦ refl
  | rule ↦ refl
  | transport_variant ↦ refl
  | transport_rule ↦ refl
  | export_parameters ↦ refl
  | source_rule ↦ refl
  | token_parameters ↦ refl
  | name ↦ refl
  | information ↦ refl
  | protection ↦ refl
  | dates ↦ refl
  | application_data ↦ refl
]

-- Every kind of the list passes the test.
abbrev each_kind : (Kind → Bool) → List Kind → Bool
each_kind f [] = true
each_kind f (k ∷ ks) = f k && each_kind f ks

-- A kind that some test finds in a list passes each test that all of the list pass.
each_kind_found :
    (f g : Kind → Bool) (k : Kind) (ks : List Kind) → each_kind f ks ≡ true → first_kind g ks ≡ some k → f k ≡ true
each_kind_found f g k [] h e = absurd (let z : ◌≡◌ {A = ℕ} 0 1 = cc in omega arith)
each_kind_found f g k (j ∷ ks) h e =
    let p = and_split (f j) (each_kind f ks) h in
    go (g j) p.0 e (λ q. each_kind_found f g k ks p.1 q)
  where
    go :
        (b : Bool) → f j ≡ true → elim b as (λ x. Option Kind) [ true ↦ some j | false ↦ first_kind g ks ] ≡ some k
        → (first_kind g ks ≡ some k → f k ≡ true) → f k ≡ true
    go true p q i = let r : j ≡ k = cc in ap f (sym r) ∙ p
    go false p q i = i q

-- A test that the twelve kinds pass, as computing it shows, every kind passes.
pub every_kind : (f : Kind → Bool) → each_kind f kinds ≡ true → (k : Kind) → f k ≡ true
every_kind f h k = each_kind_found f (λ j. eqb (kind_number j) (kind_number k)) k kinds h (kind_of_told k)

-- Kinds with the same number are the same.
pub number_told : (j k : Kind) → kind_number j ≡ kind_number k → j ≡ k
number_told j k e = cc (kind_of_told j, kind_of_told k, ap kind_of e)

-- A kind is told by its section id and its tag.
pub kind_told : (j k : Kind) → section_id j ≡ section_id k → tag j ≡ tag k → j ≡ k
kind_told j k s t = number_told j k (ap₂ (λ (i g : ℕ). i * 65536 + g) s t)

-- Kinds that the test says are the same are the same.
pub same_kind_eq : (j k : Kind) → same_kind j k ≡ true → j ≡ k
same_kind_eq j k e = number_told j k (eqb-true (kind_number j) (kind_number k) e)

-- The test says that a kind is the same as itself.
pub same_kind_refl : (k : Kind) → same_kind k k ≡ true
same_kind_refl k = eq-eqb (kind_number k) (kind_number k) refl

-- No section id is 0.
pub section_id_pos : (k : Kind) → 0 < section_id k
section_id_pos k = ltb-true 0 (section_id k) (every_kind (λ j. ltb 0 (section_id j)) refl k)

-- ---- kinds are found by section id and tag

-- A kind that is found passes the test.
first_kind_sound : (f : Kind → Bool) (ks : List Kind) (k : Kind) → first_kind f ks ≡ some k → f k ≡ true
first_kind_sound f [] k e = absurd (let z : ◌≡◌ {A = ℕ} 0 1 = cc in omega arith)
first_kind_sound f (j ∷ ks) k e = go (f j) refl e (λ q. first_kind_sound f ks k q)
  where
    go :
        (b : Bool) → f j ≡ b → elim b as (λ x. Option Kind) [ true ↦ some j | false ↦ first_kind f ks ] ≡ some k
        → (first_kind f ks ≡ some k → f k ≡ true) → f k ≡ true
    go true p q i = let r : j ≡ k = cc in ap f (sym r) ∙ p
    go false p q i = i q

-- The one kind that passes a test is found by it in a list in which some test finds it.
first_kind_among :
    (f g : Kind → Bool) (k : Kind) → f k ≡ true → ((j : Kind) → f j ≡ true → j ≡ k)
    → (ks : List Kind) → first_kind g ks ≡ some k → first_kind f ks ≡ some k
first_kind_among f g k h u [] e = absurd (let z : ◌≡◌ {A = ℕ} 0 1 = cc in omega arith)
first_kind_among f g k h u (j ∷ ks) e = go (f j) (g j) refl e (λ q. first_kind_among f g k h u ks q)
  where
    go :
        (a b : Bool) → f j ≡ a → elim b as (λ x. Option Kind) [ true ↦ some j | false ↦ first_kind g ks ] ≡ some k
        → (first_kind g ks ≡ some k → first_kind f ks ≡ some k)
        → elim a as (λ x. Option Kind) [ true ↦ some j | false ↦ first_kind f ks ] ≡ some k
    go true b p q i = ap some (u j p)
    go false true p q i =
        let r : j ≡ k = cc in
        let s : f j ≡ f k = ap f r in
        absurd (let z : ◌≡◌ {A = ℕ} 0 1 = cc in omega arith)
    go false false p q i = i q

-- The one kind that passes a test is found by it.
first_kind_told :
    (f : Kind → Bool) (k : Kind) → f k ≡ true → ((j : Kind) → f j ≡ true → j ≡ k) → first_kind f kinds ≡ some k
first_kind_told f k h u = first_kind_among f (λ j. eqb (kind_number j) (kind_number k)) k h u kinds (kind_of_told k)

-- A kind that is no subsection has the tag 0.
pub no_tag : (k : Kind) → is_subsection k ≡ false → tag k ≡ 0
no_tag k e = go (tag k) e
  where
    go : (n : ℕ) → elim n as (λ x. Bool) [ zero ↦ false | suc m ↦ true ] ≡ false → n ≡ 0
    go zero p = refl
    go (suc n) p = absurd (let z : ◌≡◌ {A = ℕ} 0 1 = cc in omega arith)

-- The kind is the section with this id.
abbrev is_section : ℕ → Kind → Bool
is_section i k = not (is_subsection k) && eqb (section_id k) i

-- The kind is the subsection with this tag of the section with this id.
abbrev is_part_of : ℕ → ℕ → Kind → Bool
is_part_of i g k = is_subsection k && (eqb (section_id k) i && eqb (tag k) g)

-- A kind that is the section with an id is no subsection and has that id.
is_section_sound : (i : ℕ) (k : Kind) → is_section i k ≡ true → (is_subsection k ≡ false) × (section_id k ≡ i)
is_section_sound i k e =
    let p = and_split (not (is_subsection k)) (eqb (section_id k) i) e in
    (not-true (is_subsection k) p.0, eqb-true (section_id k) i p.1)

-- A kind that is the subsection with a tag of a section with an id is a subsection and has that id and tag.
is_part_of_sound :
    (i g : ℕ) (k : Kind) → is_part_of i g k ≡ true → (is_subsection k ≡ true) × (section_id k ≡ i) × (tag k ≡ g)
is_part_of_sound i g k e =
    let p = and_split (is_subsection k) (eqb (section_id k) i && eqb (tag k) g) e in
    let q = and_split (eqb (section_id k) i) (eqb (tag k) g) p.1 in
    (p.0, eqb-true (section_id k) i q.0, eqb-true (tag k) g q.1)

-- The kind that is found by a section id is a section and has that id.
pub section_kind_sound : (i : ℕ) (k : Kind) → section_kind i ≡ some k → (is_subsection k ≡ false) × (section_id k ≡ i)
section_kind_sound i k e = is_section_sound i k (first_kind_sound (is_section i) kinds k e)

-- The kind that is found by a tag in a section is a subsection, has that section's id, and has that tag.
pub subsection_kind_sound :
    (o : Kind) (g : ℕ) (k : Kind) → subsection_kind o g ≡ some k
    → (is_subsection k ≡ true) × (section_id k ≡ section_id o) × (tag k ≡ g)
subsection_kind_sound o g k e = is_part_of_sound (section_id o) g k (first_kind_sound (is_part_of (section_id o) g) kinds k e)

-- Every section is found by its id.
pub section_kind_told : (k : Kind) → is_subsection k ≡ false → section_kind (section_id k) ≡ some k
section_kind_told k e =
    let i = section_id k in
    let h = and_join (not (is_subsection k)) (eqb i i) (ap not e) (eq-eqb i i refl) in
    first_kind_told (is_section i) k h (λ j p.
    let q = is_section_sound i j p in
    kind_told j k q.1 (no_tag j q.0 ∙ sym (no_tag k e)))

-- Every subsection is found by its tag in a section of its id.
pub subsection_kind_told :
    (o k : Kind) → is_subsection k ≡ true → section_id k ≡ section_id o → subsection_kind o (tag k) ≡ some k
subsection_kind_told o k e s =
    let i = section_id o in
    let g = tag k in
    let x = and_join (eqb (section_id k) i) (eqb g g) (eq-eqb (section_id k) i s) (eq-eqb g g refl) in
    let h = and_join (is_subsection k) (eqb (section_id k) i && eqb g g) e x in
    first_kind_told (is_part_of i g) k h (λ j p.
    let q = is_part_of_sound i g j p in
    kind_told j k (q.1 ∙ sym s) q.2)
