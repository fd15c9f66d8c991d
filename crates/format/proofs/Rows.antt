-- A legal token has at most 300 rows: 25 times the parts are at most twice the bytes they take, and 56.
use mathlib.Core.Path.{◌≡◌, refl, sym, ap, ap₂, ◌∙◌}
use mathlib.Core.Bool.{Bool, true, false, not, ◌||◌}
use mathlib.Core.List.{List, [], ◌∷◌, ◌++◌}
use Prim.Native.Nat.{ℕ, suc, ◌+◌, ◌*◌, ◌≤◌}
use native.Mathlib.Omega.{arith}
use lib.Dec.{leb}
use lib.ListN.{length, length-append, length-map}
use borrow.Author.Tests.{leb-true, not-true}
use Rattle.format.specs.Bytes.{All}
use Rattle.format.specs.Layout.{fits}
use Rattle.format.specs.Slots.{least}
use Rattle.format.specs.Parts.{Kind, public_key, rule, transport_variant, export_parameters, token_parameters}
use Rattle.format.specs.Parts.{information, application_data, is_subsection, layout, same_kind, Part, write_parts, external}
use Rattle.format.specs.Rules.{Section, sections_of, same_rule_id, may_both_stand, other_kind}
use Rattle.format.specs.Legal.{Pairwise, Legal}
use Rattle.format.specs.Reading.{parts_of}
use Rattle.format.specs.Table.{Before, after_header, after, placed, rows}
use Rattle.format.specs.declared.Row.{Row}
use Rattle.format.proofs.Finding.{or_else, every_kind, same_kind_eq}
use Rattle.format.proofs.Unique.{written_length}
use Rattle.format.proofs.Grouping.{Subs, all_map}
use Rattle.format.proofs.Sound.{GoodPart, GoodSection, GoodSections, subs_of_is}
use Rattle.format.proofs.Complete.{may_kinds}
use Rattle.format.proofs.Sizes.{least_of, parts_least}
use Rattle.format.proofs.Flat.{flat_good, choice_flat}
use Rattle.format.proofs.Accepted.{choice_parts, lawful_good}

-- ---- each section kind but the rule once, each tag once in its section

-- 1 where the test passes, else 0.
abbrev one : Bool → ℕ
one true = 1
one false = 0

-- How many of the list are of kind k.
abbrev how_often : {A : Type 0} → (A → Kind) → Kind → List A → ℕ
how_often g k [] = 0
how_often g k (x ∷ xs) = one (same_kind k (g x)) + how_often g k xs

-- A test lets none of kind k stand after one of kind k.
abbrev Apart : {A : Type 0} → (A → Kind) → (A → A → Bool) → Kind → Type 0
Apart {A} g t k = (x y : A) → t x y ≡ true → same_kind k (g x) ≡ true → same_kind k (g y) ≡ false

-- After one of kind k there is no other.
none_behind : {A : Type 0} (g : A → Kind) (t : A → A → Bool) (k : Kind) (x : A) (xs : List A) → Apart g t k
    → same_kind k (g x) ≡ true → All (λ y. t x y ≡ true) xs → how_often g k xs ≡ 0
none_behind g t k x [] h e a = refl
none_behind g t k x (y ∷ xs) h e a =
    let i = none_behind g t k x xs h e a.1 in
    let j : one (same_kind k (g y)) ≡ 0 = ap one (h x y a.0 e) in
    omega arith

-- So there is at most one of kind k.
once : {A : Type 0} (g : A → Kind) (t : A → A → Bool) (k : Kind) (xs : List A) → Apart g t k → Pairwise t xs
    → how_often g k xs ≤ 1
once g t k [] h p = omega arith
once g t k (x ∷ xs) h p = go (same_kind k (g x)) refl (once g t k xs h p.1)
  where
    go : (b : Bool) → same_kind k (g x) ≡ b → how_often g k xs ≤ 1 → one b + how_often g k xs ≤ 1
    go true e i = let n = none_behind g t k x xs h e p.0 in omega arith
    go false e i = omega arith

-- How many of the parts are of kind k.
abbrev tagged : Kind → List Part → ℕ
tagged k us = how_often (λ (p : Part). p.kind) k us

-- How many of the sections are of kind k.
abbrev headed : Kind → List Section → ℕ
headed k ss = how_often (λ (s : Section). s.head.kind) k ss

-- Two subsections of one section have different kinds.
tags_apart : (k : Kind) → Apart (λ (p : Part). p.kind) other_kind k
tags_apart k p q t e = ap (λ (j : Kind). same_kind j q.kind) (same_kind_eq k p.kind e) ∙ not-true _ t

-- Two sections that are no rules have different kinds.
sections_apart : (k : Kind) → same_kind rule k ≡ false → Apart (λ (s : Section). s.head.kind) may_both_stand k
sections_apart k r s u t e =
    let q : k ≡ s.head.kind = same_kind_eq k s.head.kind e in
    ap (λ (j : Kind). same_kind j u.head.kind) q
    ∙ may_kinds (same_kind s.head.kind u.head.kind) (same_kind rule s.head.kind)
    (same_rule_id s.head u.head) t (ap (same_kind rule) (sym q) ∙ r)

-- A tag stands once among the subsections of a section.
tagged_once : (k : Kind) (us : List Part) → Pairwise other_kind us → tagged k us ≤ 1
tagged_once k us p = once (λ (q : Part). q.kind) other_kind k us (tags_apart k) p

-- A kind of section that is no rule stands once among the sections.
headed_once : (k : Kind) (ss : List Section) → same_kind rule k ≡ false → Pairwise may_both_stand ss → headed k ss ≤ 1
headed_once k ss r p = once (λ (s : Section). s.head.kind) may_both_stand k ss (sections_apart k r) p

-- ---- rows against bytes

-- Twice the least length of a subsection is at least 25, with 9 added for a rule's tag 1, 1 for tag 3 and 5 for tag 5.
subsection_pays : (k : Kind) → is_subsection k ≡ true
    → 25 ≤ 2 * least (layout k) + 9 * one (same_kind transport_variant k) + one (same_kind export_parameters k)
    + 5 * one (same_kind token_parameters k)
subsection_pays k e =
    leb-true 25 _
    (or_else (not (is_subsection k)) _
    (every_kind
    (λ j. not (is_subsection j)
    || leb 25 (2 * least (layout j) + 9 * one (same_kind transport_variant j) + one (same_kind export_parameters j)
    + 5 * one (same_kind token_parameters j)))
    refl k)
    (ap not e))

-- Twice the least length of a section is at least 40, with 8 added for section 11, 20 for 14 and 28 for 15.
section_pays : (k : Kind) → is_subsection k ≡ false
    → 40 ≤ 2 * least (layout k) + 8 * one (same_kind public_key k) + 20 * one (same_kind information k)
    + 28 * one (same_kind application_data k)
section_pays k e =
    leb-true 40 _
    (or_else (is_subsection k) _
    (every_kind
    (λ j. is_subsection j
    || leb 40 (2 * least (layout j) + 8 * one (same_kind public_key j) + 20 * one (same_kind information j)
    + 28 * one (same_kind application_data j)))
    refl k)
    e)

-- 25 times the subsections of a section are at most twice their least bytes, with what is added for the three tags.
subsections_pay : (us : List Part) → Subs us
    → 25 * length us
    ≤ 2 * least_of us + 9 * tagged transport_variant us + tagged export_parameters us + 5 * tagged token_parameters us
subsections_pay [] h = omega arith
subsections_pay (u ∷ us) h =
    let i = subsections_pay us h.1 in
    let p = subsection_pays u.kind h.0 in
    omega arith

-- As each tag stands once in its section, at most 15 is added for its subsections.
subsections_few : (us : List Part) → Subs us → Pairwise other_kind us → 25 * length us ≤ 2 * least_of us + 15
subsections_few us h p =
    let i = subsections_pay us h in
    let a = tagged_once transport_variant us p in
    let b = tagged_once export_parameters us p in
    let c = tagged_once token_parameters us p in
    omega arith

-- The least bytes of two lists of parts add up.
least_append : (us ps : List Part) → least_of (us ++ ps) ≡ least_of us + least_of ps
least_append [] ps = omega arith
least_append (u ∷ us) ps = let i = least_append us ps in omega arith

-- 25 times the parts of sections are at most twice their least bytes, with what is added for the three kinds.
sections_pay : (full x : Bool) (ss : List Section) → All (GoodSection full x) ss
    → 25 * length (parts_of ss)
    ≤ 2 * least_of (parts_of ss) + 8 * headed public_key ss + 20 * headed information ss + 28 * headed application_data ss
sections_pay full x [] g = omega arith
sections_pay full x (s ∷ ss) g =
    let i = sections_pay full x ss g.1 in
    let h = section_pays s.head.kind g.0.head in
    let u = subsections_few s.subs (subs_of_is x s.head.kind s.subs g.0.subs) g.0.tags in
    let n = length-append s.subs (parts_of ss) in
    let l = least_append s.subs (parts_of ss) in
    omega arith

-- Good sections have few parts: 25 times their number is at most twice their bytes, and 56.
good_pay : (full x : Bool) (ss : List Section) → GoodSections full x ss
    → 25 * length (parts_of ss) ≤ 2 * length (write_parts (parts_of ss)) + 56
good_pay full x ss g =
    let i = sections_pay full x ss g.each in
    let a = headed_once public_key ss refl g.pairs in
    let b = headed_once information ss refl g.pairs in
    let c = headed_once application_data ss refl g.pairs in
    let f = all_map (GoodPart x) (λ (p : Part). fits [] (layout p.kind) p.fields ≡ true) (λ p q. q.fit)
    (parts_of ss) (flat_good full x ss g.each) in
    let l = parts_least (parts_of ss) f in
    omega arith

-- ---- rows, number by number

-- Two rows are the same where their numbers are.
pub row_same : (r t : Row) → r.kind ≡ t.kind → r.offset ≡ t.offset → r.length ≡ t.length → r.owner ≡ t.owner → r.rule ≡ t.rule → r ≡ t
row_same r t k o l w n =
    ap₂ {C = Row} (λ (x y : ℕ). record { kind = x; offset = y; length = r.length; owner = r.owner; rule = r.rule }) k o
    ∙ ap₂ {C = Row} (λ (x y : ℕ). record { kind = t.kind; offset = t.offset; length = x; owner = y; rule = r.rule }) l w
    ∙ ap {B = Row} (λ (x : ℕ). record { kind = t.kind; offset = t.offset; length = t.length; owner = t.owner; rule = x }) n

-- So are two places.
pub before_same : (b c : Before) → b.place ≡ c.place → b.rows ≡ c.rows → b.section ≡ c.section → b.rules ≡ c.rules → b ≡ c
before_same b c p r o n =
    ap₂ {C = Before} (λ (x y : ℕ). record { place = x; rows = y; section = b.section; rules = b.rules }) p r
    ∙ ap₂ {C = Before} (λ (x y : ℕ). record { place = c.place; rows = c.rows; section = x; rules = y }) o n

-- ---- the rows of a token

-- A legal token has at most 300 rows.
pub few_rows : (bs : List ℕ) (l : Legal bs) → length l.parts ≤ 300
few_rows bs l =
    let i : ℕ = l.id in
    let ps : List Part = l.parts in
    let c = l.form.choice in
    let g = lawful_good true i ps c l.lawful l.complete.within in
    let p = good_pay true (external i) (sections_of ps) g in
    let parts = choice_parts (external i) ps c.bytes c.fit l.lawful.fields in
    let flat : parts_of (sections_of ps) ≡ ps = choice_flat (external i) ps parts c.joined in
    let q : 25 * length ps ≤ 2 * length (write_parts ps) + 56 = rw flat at p in
    let w = written_length i ps in
    let s = ap length l.form.same in
    let m = l.at_most in
    omega arith

-- Each part has a row.
pub placed_count : (b : Before) (ps : List Part) → length (placed b ps) ≡ length ps
placed_count b [] = refl
placed_count b (p ∷ ps) = ap suc (placed_count (after b p) ps)

-- There are as many rows as parts.
pub row_count_is : (ps : List Part) → length (rows ps) ≡ length ps
row_count_is ps = length-map (placed after_header ps) (λ x. x.row) ∙ placed_count after_header ps
