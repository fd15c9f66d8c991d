-- The number of a row's rule: 1, 2, .. for the rules in order, the owner's for a subsection, 0 outside of rules.
use mathlib.Core.Path.{◌≡◌, refl, sym, ap, ap₂, ◌∙◌, subst}
use mathlib.Core.Bool.{Bool, true, false, not, ◌||◌}
use mathlib.Core.List.{List, [], ◌∷◌, map}
use mathlib.Core.Option.{some}
use mathlib.Core.Logic.{◌⊎◌, inl, inr}
use Prim.Native.Nat.{ℕ, zero, suc, ◌+◌, ◌/◌}
use native.Mathlib.Nat.{zero-add}
use native.Mathlib.Omega.{arith}
use lib.Dec.{eqb}
use lib.ListN.{get_elem?}
use borrow.Author.Tests.{eqb-true, ne_eqb, not-true}
use Rattle.format.specs.Parts.{Kind, rule, section_id, is_subsection, kind_number, same_kind, Part, joins}
use Rattle.format.specs.Legal.{Legal, rule_count}
use Rattle.format.specs.Table.{Placed, Before, after_header, rules_to, rule_of, after, placed, rows}
use Rattle.format.specs.Claims.{IsRow, rule_numbers, following, last_of}
use Rattle.format.proofs.Finding.{or_else, every_kind, same_kind_eq, section_id_pos}
use Rattle.format.proofs.Grouping.{is_true, is_false, joins_first, joins_behind}
use Rattle.format.proofs.Elements.{some_inj}
use Rattle.format.proofs.Owners.{section_owner}

-- ---- the rules in order

-- A rule's number is one more than the rules before it.
rule_number : (b : Before) (p : Part) → same_kind rule p.kind ≡ true → rule_of b p ≡ suc b.rules
rule_number b p e =
    subst (λ (k : Kind). rule_of b (record { kind = k; fields = p.fields }) ≡ suc b.rules) (same_kind_eq rule p.kind e) refl

-- The rules of parts after others are numbered on from those before.
numbered_from : (b : Before) (ps : List Part)
    → rule_numbers (map (λ x. x.row) (placed b ps)) ≡ following b.rules (rule_count ps)
numbered_from b [] = refl
numbered_from b (p ∷ ps) = go (same_kind rule p.kind) refl (numbered_from (after b p) ps)
  where
    rest : List ℕ
    rest = rule_numbers (map (λ x. x.row) (placed (after b p) ps))

    go : (t : Bool) → same_kind rule p.kind ≡ t → rest ≡ following (rules_to b p) (rule_count ps)
        → elim t as (λ c. List ℕ) [ true ↦ rule_of b p ∷ rest | false ↦ rest ]
        ≡ following b.rules (elim t as (λ c. ℕ) [ true ↦ 1 | false ↦ 0 ] + rule_count ps)
    go true e i =
        let one : suc (rule_count ps) ≡ 1 + rule_count ps = omega arith in
        ap₂ (λ (n : ℕ) (ns : List ℕ). n ∷ ns) (rule_number b p e)
        (i
        ∙ ap (λ (n : ℕ). following n (rule_count ps)) (is_true (same_kind rule p.kind) (suc b.rules) b.rules e))
        ∙ ap (following b.rules) one
    go false e i =
        i
        ∙ ap₂ following (is_false (same_kind rule p.kind) (suc b.rules) b.rules e) (sym (zero-add (rule_count ps)))

pub rules_numbered : (ps : List Part) → rule_numbers (rows ps) ≡ following 0 (rule_count ps)
rules_numbered ps = numbered_from after_header ps

-- The last of n numbers that follow k is n more than k.
last_following : (k n : ℕ) → last_of k (following k n) ≡ k + n
last_following k zero = omega arith
last_following k (suc n) = last_following (suc k) n ∙ omega arith

pub last_number : (ps : List Part) → last_of 0 (rule_numbers (rows ps)) ≡ rule_count ps
last_number ps = ap (last_of 0) (rules_numbered ps) ∙ last_following 0 (rule_count ps) ∙ omega arith

-- ---- outside of rules

-- The section id of a kind is in its number.
id_of_kind : (k : Kind) → kind_number k / 65536 ≡ section_id k
id_of_kind k = eqb-true _ _ (every_kind (λ j. eqb (kind_number j / 65536) (section_id j)) refl k)

-- A row of another section has 0.
none_from : (b : Before) (ps : List Part) (k : ℕ) (x : Placed) → get_elem? (placed b ps) k ≡ some x
    → (x.row.kind / 65536 ≡ section_id rule → ⊥) → x.row.rule ≡ 0
none_from b [] k x e h = absurd (let z : ◌≡◌ {A = ℕ} 0 1 = cc in omega arith)
none_from b (p ∷ ps) zero x e h =
    let q = some_inj e in
    let i : section_id p.kind ≡ x.row.kind / 65536 = sym (id_of_kind p.kind) ∙ ap (λ (y : Placed). y.row.kind / 65536) q in
    ap (λ (y : Placed). y.row.rule) (sym q)
    ∙ is_false (eqb (section_id p.kind) (section_id rule)) _ 0
    (ne_eqb (section_id p.kind) (section_id rule) (λ z. h (sym i ∙ z)))
none_from b (p ∷ ps) (suc k) x e h = none_from (after b p) ps k x e h

-- ---- a subsection has its owner's number

-- The number of a row in a section with this id, n being the rules up to it.
abbrev pub number_in : ℕ → ℕ → ℕ
number_in i n = elim (eqb i (section_id rule)) as (λ c. ℕ) [ true ↦ n | false ↦ 0 ]

-- No subsection is a rule.
pub sub_no_rule : (k : Kind) → is_subsection k ≡ true → same_kind rule k ≡ false
sub_no_rule k e =
    not-true (same_kind rule k)
    (or_else (not (is_subsection k)) _ (every_kind (λ j. not (is_subsection j) || not (same_kind rule j)) refl k) (ap not e))

-- A subsection after these rows has the number of the section before.
pub sub_number : (b : Before) (i : ℕ) (p : Part) (ps : List Part) → joins i (p ∷ ps) ≡ true → is_subsection p.kind ≡ true
    → rule_of b p ≡ number_in i b.rules
sub_number b i p ps j s =
    ap₂ number_in (joins_first i p ps j s)
    (is_false (same_kind rule p.kind) (suc b.rules) b.rules (sub_no_rule p.kind s))

-- The first of these rows, where there is one, is a subsection's.
abbrev SubFirst : List Placed → Type 0
SubFirst xs = (y : Placed) → get_elem? xs 0 ≡ some y → is_subsection y.part.kind ≡ true

first_sub : (y : Placed) (xs : List Placed) → is_subsection y.part.kind ≡ true → SubFirst (y ∷ xs)
first_sub y xs s z e = ap (λ (v : Placed). is_subsection v.part.kind) (sym (some_inj e)) ∙ s

-- A row's owner is the section before these rows and it has that one's number, or its owner is among them with its number.
abbrev OwnersRule : Before → ℕ → List Placed → Placed → Type 0
OwnersRule b i xs x =
    (SubFirst xs × (x.row.owner ≡ b.section) × (x.row.rule ≡ number_in i b.rules))
    ⊎ ((m : ℕ) × (y : Placed) × (x.row.owner ≡ b.rows + m) × (get_elem? xs m ≡ some y) × (x.row.rule ≡ y.row.rule))

-- One part more in front.
one_more : (b : Before) (i : ℕ) (p : Part) (ps : List Part) (x : Placed) (t : Bool) → is_subsection p.kind ≡ t
    → joins i (p ∷ ps) ≡ true → OwnersRule (after b p) (section_id p.kind) (placed (after b p) ps) x
    → OwnersRule b i (placed b (p ∷ ps)) x
one_more b i p ps x t s j (inr h) = inr (suc h.0, h.1, (let e = h.2 in omega arith), h.3, h.4)
one_more b i p ps x true s j (inl h) =
    inl (
      first_sub _ (placed (after b p) ps) s,
      h.1 ∙ is_true (is_subsection p.kind) b.section b.rows s,
      h.2 ∙ sub_number b i p ps j s,
    )
one_more b i p ps x false s j (inl h) =
    inr (0, _, h.1 ∙ is_false (is_subsection p.kind) b.section b.rows s ∙ omega arith, refl, h.2)

owner_from : (b : Before) (i : ℕ) (ps : List Part) (k : ℕ) (x : Placed) → joins i ps ≡ true
    → get_elem? (placed b ps) k ≡ some x → is_subsection x.part.kind ≡ true → OwnersRule b i (placed b ps) x
owner_from b i [] k x j e s = absurd (let z : ◌≡◌ {A = ℕ} 0 1 = cc in omega arith)
owner_from b i (p ∷ ps) zero x j e s =
    let q = some_inj e in
    let f : is_subsection p.kind ≡ true = ap (λ (y : Placed). is_subsection y.part.kind) q ∙ s in
    inl (
      first_sub _ (placed (after b p) ps) f,
      ap (λ (y : Placed). y.row.owner) (sym q) ∙ is_true (is_subsection p.kind) b.section b.rows f,
      ap (λ (y : Placed). y.row.rule) (sym q) ∙ sub_number b i p ps j f,
    )
owner_from b i (p ∷ ps) (suc k) x j e s =
    one_more b i p ps x (is_subsection p.kind) refl j
    (owner_from (after b p) (section_id p.kind) ps k x (joins_behind i p ps j) e s)

-- A token's first part is no subsection, so that the owner is among its rows.
sub_rule : (ps : List Part) (x y : Placed) → joins 0 ps ≡ true → OwnersRule after_header 0 (placed after_header ps) x
    → get_elem? (placed after_header ps) x.row.owner ≡ some y → x.row.rule ≡ y.row.rule
sub_rule [] x y j h e = absurd (let z : ◌≡◌ {A = ℕ} 0 1 = cc in omega arith)
sub_rule (p ∷ ps) x y j (inl h) e =
    absurd (let i = joins_first 0 p ps j (h.0 _ refl) in let n = section_id_pos p.kind in omega arith)
sub_rule (p ∷ ps) x y j (inr h) e =
    let m : x.row.owner ≡ h.0 = h.2 ∙ omega arith in
    let q : h.1 ≡ y = some_inj (sym h.3 ∙ ap (get_elem? (placed after_header (p ∷ ps))) (sym m) ∙ e) in
    h.4 ∙ ap (λ (v : Placed). v.row.rule) q

owners_rule : (bs : List ℕ) (l : Legal bs) (k : ℕ) (x y : Placed) → IsRow bs l k x → IsRow bs l x.row.owner y
    → x.row.rule ≡ y.row.rule
owners_rule bs l k x y e f = go (is_subsection x.part.kind) refl
  where
    go : (t : Bool) → is_subsection x.part.kind ≡ t → x.row.rule ≡ y.row.rule
    go true s =
        let j = l.form.choice.joined in
        sub_rule l.parts x y j (owner_from after_header 0 l.parts k x j e s) f
    go false s =
        let q : x ≡ y = some_inj (sym e ∙ ap (get_elem? (placed after_header l.parts)) (sym (section_owner l.parts k x e s)) ∙ f) in
        ap (λ (v : Placed). v.row.rule) q

-- The number of a row is its owner's, and 0 where its section is no rule.
pub row_rule_is : (bs : List ℕ) (l : Legal bs) (k : ℕ) (x : Placed) → IsRow bs l k x
    → ((y : Placed) → IsRow bs l x.row.owner y → x.row.rule ≡ y.row.rule)
    × ((x.row.kind / 65536 ≡ 0x12 → ⊥) → x.row.rule ≡ 0)
row_rule_is bs l k x e = ((λ y f. owners_rule bs l k x y e f), λ h. none_from after_header l.parts k x e h)
