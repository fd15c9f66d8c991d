-- Parts as a flat list and as sections with their subsections: the bytes of one after the other, and that grouping undoes
-- laying flat.
use mathlib.Core.Path.{◌≡◌, refl, sym, ap, ap₂, ◌∙◌}
use mathlib.Core.Bool.{Bool, true, false, not, ◌||◌}
use mathlib.Core.List.{List, [], ◌∷◌, ◌++◌, append_assoc, append-nil}
use Prim.Native.Nat.{ℕ, ◌+◌, ◌^◌, ◌≤◌, ◌<◌}
use native.Mathlib.Nat.{add-zero}
use native.Mathlib.Omega.{arith}
use lib.Dec.{eqb}
use lib.ListN.{length, length-append}
use borrow.Author.Tests.{eqb-true}
use Rattle.format.specs.Bytes.{All}
use Rattle.format.specs.Layout.{write}
use Rattle.format.specs.Parts.{Kind, section_id, is_subsection, layout, Part, size, subsections_length, span, write_parts, joins, Stateable}
use Rattle.format.specs.Rules.{Section, front_subs, sections_of}
use Rattle.format.specs.Reading.{parts_of}
use Rattle.format.proofs.Finding.{and_split, or_else}
use Rattle.format.proofs.Unique.{size_any}

-- ---- a choice by a test, and lists whose elements all have a property

pub is_true : {A : Type 0} (b : Bool) (x y : A) → b ≡ true → elim b as (λ c. A) [ true ↦ x | false ↦ y ] ≡ x
is_true true x y e = refl
is_true false x y e = absurd (let z : ◌≡◌ {A = ℕ} 0 1 = cc in omega arith)

pub is_false : {A : Type 0} (b : Bool) (x y : A) → b ≡ false → elim b as (λ c. A) [ true ↦ x | false ↦ y ] ≡ y
is_false false x y e = refl
is_false true x y e = absurd (let z : ◌≡◌ {A = ℕ} 0 1 = cc in omega arith)

pub all_join : {A : Type 0} (P : A → Type 0) (xs ys : List A) → All P xs → All P ys → All P (xs ++ ys)
all_join P [] ys h k = k
all_join P (x ∷ xs) ys h k = (h.0, all_join P xs ys h.1 k)

pub all_split : {A : Type 0} (P : A → Type 0) (xs ys : List A) → All P (xs ++ ys) → All P xs × All P ys
all_split P [] ys h = (tt, h)
all_split P (x ∷ xs) ys h = let i = all_split P xs ys h.1 in ((h.0, i.0), i.1)

pub all_map : {A : Type 0} (P Q : A → Type 0) → ((x : A) → P x → Q x) → (xs : List A) → All P xs → All Q xs
all_map P Q f [] h = tt
all_map P Q f (x ∷ xs) h = (f x h.0, all_map P Q f xs h.1)

-- ---- parts that may stand in this order

-- The first, where it is a subsection, belongs to the section before.
pub joins_first : (o : ℕ) (p : Part) (ps : List Part) → joins o (p ∷ ps) ≡ true → is_subsection p.kind ≡ true
    → section_id p.kind ≡ o
joins_first o p ps j e =
    eqb-true _ _ (or_else (not (is_subsection p.kind)) _ (and_split _ (joins (section_id p.kind) ps) j).0 (ap not e))

-- Those after it may stand there.
pub joins_behind : (o : ℕ) (p : Part) (ps : List Part) → joins o (p ∷ ps) ≡ true → joins (section_id p.kind) ps ≡ true
joins_behind o p ps j =
    (and_split (not (is_subsection p.kind) || eqb (section_id p.kind) o) (joins (section_id p.kind) ps) j).1

-- Where no subsection belongs to the section before, none follows it.
pub none_follow : (o : ℕ) (ps : List Part) → ((k : Kind) → is_subsection k ≡ true → section_id k ≡ o → ⊥) → joins o ps ≡ true
    → subsections_length ps ≡ 0
none_follow o [] n j = refl
none_follow o (p ∷ ps) n j = go (is_subsection p.kind) refl
  where
    go : (b : Bool) → is_subsection p.kind ≡ b → subsections_length (p ∷ ps) ≡ 0
    go false e = is_false (is_subsection p.kind) (size p + subsections_length ps) 0 e
    go true e = absurd (n p.kind e (joins_first o p ps j e))

-- ---- bytes of parts in a row

-- Each of the parts is a subsection.
abbrev pub Subs : List Part → Type 0
Subs ps = All (λ (p : Part). is_subsection p.kind ≡ true) ps

-- A section's bytes end the subsections before it.
subs_end : (ps : List Part) (q : Part) (qs : List Part) → is_subsection q.kind ≡ false
    → subsections_length (ps ++ q ∷ qs) ≡ subsections_length ps
subs_end [] q qs e = is_false (is_subsection q.kind) _ 0 e
subs_end (p ∷ ps) q qs e =
    ap (λ (n : ℕ). elim (is_subsection p.kind) as (λ b. ℕ) [ true ↦ size p + n | false ↦ 0 ]) (subs_end ps q qs e)

span_end : (p : Part) (ps : List Part) (q : Part) (qs : List Part) → is_subsection q.kind ≡ false → span p (ps ++ q ∷ qs) ≡ span p ps
span_end p ps q qs e =
    ap (λ (n : ℕ). size p + elim (is_subsection p.kind) as (λ b. ℕ) [ true ↦ 0 | false ↦ n ]) (subs_end ps q qs e)

-- A section after other parts changes none of their bytes.
pub parts_then_section : (ps : List Part) (q : Part) (qs : List Part) → is_subsection q.kind ≡ false
    → write_parts (ps ++ q ∷ qs) ≡ write_parts ps ++ write_parts (q ∷ qs)
parts_then_section [] q qs e = refl
parts_then_section (p ∷ ps) q qs e =
    ap₂ (λ (n : ℕ) (bs : List ℕ). write n (layout p.kind) p.fields ++ bs) (span_end p ps q qs e) (parts_then_section ps q qs e)
    ∙ sym (append_assoc (write (span p ps) (layout p.kind) p.fields) (write_parts ps) (write_parts (q ∷ qs)))

-- A subsection's length is its own.
pub span_sub : (p : Part) (ps : List Part) → is_subsection p.kind ≡ true → span p ps ≡ size p
span_sub p ps e =
    ap (λ (n : ℕ). size p + n) (is_true (is_subsection p.kind) 0 (subsections_length ps) e) ∙ add-zero (size p)

-- A section's length covers the subsections after it.
pub span_section : (p : Part) (ps : List Part) → is_subsection p.kind ≡ false → span p ps ≡ size p + subsections_length ps
span_section p ps e = ap (λ (n : ℕ). size p + n) (is_false (is_subsection p.kind) 0 (subsections_length ps) e)

-- Parts after subsections change none of their bytes.
pub subs_then_parts : (us ps : List Part) → Subs us → write_parts (us ++ ps) ≡ write_parts us ++ write_parts ps
subs_then_parts [] ps h = refl
subs_then_parts (u ∷ us) ps h =
    ap₂ (λ (n : ℕ) (bs : List ℕ). write n (layout u.kind) u.fields ++ bs)
    (span_sub u (us ++ ps) h.0 ∙ sym (span_sub u us h.0)) (subs_then_parts us ps h.1)
    ∙ sym (append_assoc (write (span u us) (layout u.kind) u.fields) (write_parts us) (write_parts ps))

-- Subsections are as long as their bytes.
pub subs_long : (us : List Part) → Subs us → subsections_length us ≡ length (write_parts us)
subs_long [] h = refl
subs_long (u ∷ us) h =
    let i = subs_long us h.1 in
    let n = size_any (layout u.kind) (span u us) 0 u.fields in
    let l = length-append (write (span u us) (layout u.kind) u.fields) (write_parts us) in
    is_true (is_subsection u.kind) (size u + subsections_length us) 0 h.0 ∙ omega arith

-- ---- sections in a row

-- The section's head is a section, and its other parts are subsections.
abbrev pub Grouped : Section → Type 0
Grouped s = (is_subsection s.head.kind ≡ false) × Subs s.subs

-- Parts that no subsection begins.
abbrev Opens : List Part → Type 0
Opens [] = Unit {0}
Opens (p ∷ ps) = is_subsection p.kind ≡ false

opens : (ss : List Section) → All Grouped ss → Opens (parts_of ss)
opens [] h = tt
opens (s ∷ ss) h = h.0.0

front_subs_is : (us ps : List Part) → Subs us → Opens ps → front_subs (us ++ ps) ≡ us
front_subs_is [] [] h o = refl
front_subs_is [] (p ∷ ps) h o = is_false (is_subsection p.kind) (p ∷ front_subs ps) [] o
front_subs_is (u ∷ us) ps h o =
    is_true (is_subsection u.kind) (u ∷ front_subs (us ++ ps)) [] h.0
    ∙ ap (λ (x : List Part). u ∷ x) (front_subs_is us ps h.1 o)

skip_subs : (us ps : List Part) → Subs us → sections_of (us ++ ps) ≡ sections_of ps
skip_subs [] ps h = refl
skip_subs (u ∷ us) ps h = is_true (is_subsection u.kind) (sections_of (us ++ ps)) _ h.0 ∙ skip_subs us ps h.1

-- Grouping undoes laying flat.
pub group_flat : (ss : List Section) → All Grouped ss → sections_of (parts_of ss) ≡ ss
group_flat [] h = refl
group_flat (s ∷ ss) h =
    is_false (is_subsection s.head.kind) (sections_of (s.subs ++ parts_of ss)) _ h.0.0
    ∙ ap₂ {C = List Section} (λ (us : List Part) (r : List Section). record { head = s.head; subs = us } ∷ r)
    (front_subs_is s.subs (parts_of ss) h.0.1 (opens ss h.1))
    (skip_subs s.subs (parts_of ss) h.0.1 ∙ group_flat ss h.1)

-- One section more, laid flat.
pub parts_last : (ss : List Section) (s : Section) → parts_of (ss ++ s ∷ []) ≡ parts_of ss ++ s.head ∷ s.subs
parts_last [] s = ap (λ (x : List Part). s.head ∷ x) (append-nil s.subs)
parts_last (q ∷ ss) s =
    ap (λ (x : List Part). q.head ∷ q.subs ++ x) (parts_last ss s)
    ∙ ap (λ (x : List Part). q.head ∷ x) (sym (append_assoc q.subs (parts_of ss) (s.head ∷ s.subs)))

-- ---- lengths that can be stated

-- Whatever the test says, a choice between two numbers is at most a bound of both.
choice_le : (b : Bool) (x y n : ℕ) → x ≤ n → y ≤ n → elim b as (λ c. ℕ) [ true ↦ x | false ↦ y ] ≤ n
choice_le true x y n h k = h
choice_le false x y n h k = k

-- The subsections in front are no longer than all parts.
subs_le : (ps : List Part) → subsections_length ps ≤ length (write_parts ps)
subs_le [] = omega arith
subs_le (p ∷ ps) =
    let i = subs_le ps in
    let n = size_any (layout p.kind) (span p ps) 0 p.fields in
    let l = length-append (write (span p ps) (layout p.kind) p.fields) (write_parts ps) in
    choice_le (is_subsection p.kind) (size p + subsections_length ps) 0 (length (write_parts (p ∷ ps))) (omega arith) (omega arith)

-- A part's length is at most that of all bytes from it on.
pub span_le : (p : Part) (ps : List Part) → span p ps ≤ length (write_parts (p ∷ ps))
span_le p ps =
    let i = subs_le ps in
    let n = size_any (layout p.kind) (span p ps) 0 p.fields in
    let l = length-append (write (span p ps) (layout p.kind) p.fields) (write_parts ps) in
    let c = choice_le (is_subsection p.kind) 0 (subsections_length ps) (length (write_parts ps)) (omega arith) i in
    omega arith

-- Where all bytes are few enough, each part's length can be stated.
pub stateable : (ps : List Part) → length (write_parts ps) < 256 ^ 2 → Stateable ps
stateable [] h = tt
stateable (p ∷ ps) h =
    let l = length-append (write (span p ps) (layout p.kind) p.fields) (write_parts ps) in
    let m = span_le p ps in
    (omega arith, stateable ps (omega arith))
