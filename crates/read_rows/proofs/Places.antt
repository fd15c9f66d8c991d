-- Going over the parts of an accepted token: where it starts, the part at a place, its row, and the place after it.
use mathlib.Core.Path.{◌≡◌, refl, sym, ap, ap₂, ◌∙◌, subst}
use mathlib.Core.Bool.{Bool, true, false, not, ◌||◌}
use mathlib.Core.List.{List, [], ◌∷◌}
use Prim.Native.Nat.{ℕ, suc, ◌+◌, ◌*◌, ◌<◌, ◌≤◌}
use native.Mathlib.Omega.{arith}
use lib.Dec.{eqb, ltb}
use lib.ListN.{length, get_or, take, drop, length-drop}
use lib.Seq.{take_all, drop-drop}
use borrow.Author.Tests.{ne_eqb, ltb-true, not-true}
use Rattle.format.specs.Bytes.{Bytes, number, bytes_at}
use Rattle.format.specs.Parts.{Kind, rule, section_id, tag, is_subsection, same_kind, Part, size, subsections_length, span, joins, write_parts}
use Rattle.format.specs.Rules.{Section}
use Rattle.format.specs.Reading.{found, id_of, stated, reading, parts_of}
use Rattle.format.specs.Table.{Before, after_header, owner_of, rules_to, rule_of, part_row, after}
use Rattle.format.specs.declared.Row.{Row}
use Rattle.format.proofs.Numbers.{number_one}
use Rattle.format.proofs.Finding.{or_else, every_kind, same_kind_eq, no_tag, section_id_pos}
use Rattle.format.proofs.PartForm.{Framed}
use Rattle.format.proofs.Grouping.{is_true, is_false, joins_first, joins_behind, none_follow, span_sub, span_section}
use Rattle.format.proofs.Accepted.{reading_sound, whole_token, good_choice}
use Rattle.format.proofs.Rows.{row_same, before_same}
use Rattle.format.proofs.RuleNumbers.{sub_no_rule, sub_number}
use Rattle.read_rows.specs.Places.{own_length, rules_with, rule_in, Left, Begins}
use Rattle.read_rows.proofs.Rows.{Here, here, section_here, sub_here, own_size}

-- ---- what a section's id tells

pub own_twenty : {i : ℕ} (n : ℕ) → i ≡ 0x12 → 20 ≡ own_length i n
unfolding own_length
own_twenty n e = rw e

pub own_ten : {i : ℕ} (n : ℕ) → i ≡ 0x14 → 10 ≡ own_length i n
unfolding own_length
own_ten n e = rw e

pub own_stated : (i n : ℕ) → (i ≡ 0x12 → ⊥) → (i ≡ 0x14 → ⊥) → n ≡ own_length i n
unfolding own_length
own_stated i n a b =
    sym (ap₂ (λ (x y : Bool). elim x as (λ z. ℕ) [ true ↦ 20 | false ↦ elim y as (λ z. ℕ) [ true ↦ 10 | false ↦ n ] ])
    (ne_eqb i 0x12 a) (ne_eqb i 0x14 b))

pub one_rule_more : {i : ℕ} (n : ℕ) → i ≡ 0x12 → n + 1 ≡ rules_with i n
unfolding rules_with
one_rule_more n e = rw e

pub no_rule_more : (i n : ℕ) → (i ≡ 0x12 → ⊥) → n ≡ rules_with i n
unfolding rules_with
no_rule_more i n h = sym (is_false (eqb i 0x12) (n + 1) n (ne_eqb i 0x12 h))

pub in_rule : {i : ℕ} (n : ℕ) → i ≡ 0x12 → n ≡ rule_in i n
unfolding rule_in
in_rule n e = rw e

pub in_no_rule : (i n : ℕ) → (i ≡ 0x12 → ⊥) → 0 ≡ rule_in i n
unfolding rule_in
in_no_rule i n h = sym (is_false (eqb i 0x12) n 0 (ne_eqb i 0x12 h))

-- A section adds one rule at most.
pub rules_most : (i n : ℕ) → rules_with i n ≤ n + 1
unfolding rules_with
rules_most i n = go (eqb i 0x12)
  where
    go : (t : Bool) → elim t as (λ c. ℕ) [ true ↦ n + 1 | false ↦ n ] ≤ n + 1
    go true = omega arith
    go false = omega arith

-- A section is a rule exactly where it has a rule's id.
section_rule : (k : Kind) → is_subsection k ≡ false → eqb (section_id k) 0x12 ≡ same_kind rule k
section_rule k f = go (same_kind rule k) refl
  where
    go : (t : Bool) → same_kind rule k ≡ t → eqb (section_id k) 0x12 ≡ t
    go true e = ap (λ (j : Kind). eqb (section_id j) 0x12) (sym (same_kind_eq rule k e))
    go false e =
        not-true (eqb (section_id k) 0x12)
        (or_else (is_subsection k || same_kind rule k) _
        (every_kind (λ j. (is_subsection j || same_kind rule j) || not (eqb (section_id j) 0x12)) refl k) (ap₂ (λ (x y : Bool). x || y) f e))

rules_section : (b : Before) (q : Part) → is_subsection q.kind ≡ false → rules_with (section_id q.kind) b.rules ≡ rules_to b q
unfolding rules_with
rules_section b q f =
    ap₂ (λ (t : Bool) (n : ℕ). elim t as (λ c. ℕ) [ true ↦ n | false ↦ b.rules ]) (section_rule q.kind f) (omega arith)

rule_section : (b : Before) (q : Part) → is_subsection q.kind ≡ false
    → rule_in (section_id q.kind) (rules_with (section_id q.kind) b.rules) ≡ rule_of b q
unfolding rule_in
rule_section b q f =
    ap (λ (n : ℕ). elim (eqb (section_id q.kind) 0x12) as (λ c. ℕ) [ true ↦ n | false ↦ 0 ]) (rules_section b q f)

rule_sub_is : (b : Before) (i : ℕ) (q : Part) (qs : List Part) → joins i (q ∷ qs) ≡ true → is_subsection q.kind ≡ true
    → rule_in i b.rules ≡ rule_of b q
unfolding rule_in
rule_sub_is b i q qs j f = sym (sub_number b i q qs j f)

-- ---- what the part at a place says

-- The length that the part at p states.
framed_length : (b : Bool) (i g n : ℕ) (r : List ℕ) → Framed b i g n r → stated r ≡ n
framed_length false i g n r f = f.2
framed_length true i g n r f = f.2

stated_here : (s : List ℕ) (p : ℕ) (q : Part) (qs : List Part) {v : ℕ} → Here s p q qs → v ≡ number (bytes_at s (p + 2) 2) → v ≡ span q qs
unfolding bytes_at
stated_here s p q qs w e =
    e
    ∙ ap (λ (r : List ℕ). number (take 2 r)) (sym (drop-drop 2 p s))
    ∙ framed_length (is_subsection q.kind) (section_id q.kind) (tag q.kind) (span q qs) (drop p s) w.frame

-- The id of the section at p.
id_here : (s : List ℕ) (p : ℕ) (q : Part) (qs : List Part) → Here s p q qs → is_subsection q.kind ≡ false → p < length s
    → get_or s p 0 ≡ section_id q.kind
unfolding bytes_at
id_here s p q qs w f h =
    sym (number_one s p h)
    ∙ (subst (λ (b : Bool). Framed b (section_id q.kind) (tag q.kind) (span q qs) (drop p s)) f w.frame).0

-- The tag of the subsection at p.
tag_here : (s : List ℕ) (p : ℕ) (q : Part) (qs : List Part) {v : ℕ} → Here s p q qs → is_subsection q.kind ≡ true
    → v ≡ number (bytes_at s p 2) → v ≡ tag q.kind
unfolding bytes_at
tag_here s p q qs w f e =
    e ∙ (subst (λ (b : Bool). Framed b (section_id q.kind) (tag q.kind) (span q qs) (drop p s)) f w.frame).0

-- A section id is a byte.
id_byte : (k : Kind) → section_id k < 256
id_byte k = ltb-true (section_id k) 256 (every_kind (λ j. ltb (section_id j) 256) refl k)

-- ---- the start

-- No subsection stands first.
first_section : (ps : List Part) → joins 0 ps ≡ true → subsections_length ps ≡ 0
first_section ps j = none_follow 0 ps (λ k s e. omega (arith, section_id_pos k)) j

pub starts : (s : List ℕ) (ss : List Section) → Bytes s → reading true s ≡ found ss → Left s after_header 8 0 (parts_of ss)
starts s ss b e =
    let r = reading_sound true s ss b e in
    let n = whole_token s ss e in
    let c = good_choice true (id_of s) ss r.byte r.good in
    record {
      front = omega (arith, r.eight);
      short = omega (arith, r.most);
      bytes = ap (drop 8) (sym (r.form ∙ take_all (stated s) s (omega arith)));
      ends = omega (arith, first_section (parts_of ss) c.joined);
      owned = c.joined;
      byte = omega arith;
      owners = omega arith;
      few = omega arith;
      ruled = omega arith;
      fit = c.fit;
    }

module _ {s : List ℕ} {b : Before} {e i : ℕ} where
  -- The bytes of the parts reach to the token's end.
  pub left_length : {ps : List Part} → Left s b e i ps → b.place + length (write_parts ps) ≡ length s
  left_length {ps} l = let d = length-drop b.place s in let w = ap length l.bytes in omega (arith, l.front)

  -- Before it a part begins at the place, and at it none.
  pub begins : (ps : List Part) → Left s b e i ps → b.place < length s → Begins s b e i
  begins [] l h = absurd (let n = left_length l in omega arith)
  begins (q ∷ qs) l h = record { part = q; behind = qs; left = l }

  -- ---- the part at a place

  pub there : (q : Part) (qs : List Part) → Left s b e i (q ∷ qs) → Here s b.place q qs
  there q qs l = here s b.place q qs l.front l.short l.fit.0 l.bytes

  -- What of the part is in the token.
  pub four : (w : Begins s b e i) → b.place + 4 ≤ length s
  four w = let a = there w.part w.behind w.left in omega (arith, a.ends, a.least)

  -- A section stands where the one before it ends, a subsection elsewhere.
  is_section_is : (q : Part) (qs : List Part) → Left s b e i (q ∷ qs) → b.place ≡ e → is_subsection q.kind ≡ false
  is_section_is q qs l h = section_here q qs (omega (arith, l.ends))

  is_sub : (q : Part) (qs : List Part) → Left s b e i (q ∷ qs) → (b.place ≡ e → ⊥) → is_subsection q.kind ≡ true
  is_sub q qs l h = sub_here q qs (λ z. h (omega (arith, l.ends)))

  -- The id of the section at the place.
  id_at_is : (q : Part) (qs : List Part) → Left s b e i (q ∷ qs) → b.place ≡ e → get_or s b.place 0 ≡ section_id q.kind
  id_at_is q qs l h =
      let a = there q qs l in
      id_here s b.place q qs a (is_section_is q qs l h) (omega (arith, a.ends, a.least))

  pub id_below : (w : Begins s b e i) → b.place ≡ e → get_or s b.place 0 < 256
  id_below w h = let k = id_at_is w.part w.behind w.left h in omega (arith, k, id_byte w.part.kind)

  -- ---- its row

  pub section_row : (q : Part) (qs : List Part) → Left s b e i (q ∷ qs) → b.place ≡ e → {l n : ℕ}
      → l ≡ number (bytes_at s (b.place + 2) 2) → n ≡ rule_in (get_or s b.place 0) (rules_with (get_or s b.place 0) b.rules)
      → ◌≡◌ {A = Row}
      (record { kind = get_or s b.place 0 * 65536; offset = b.place; length = l; owner = b.rows; rule = n }) (part_row b q qs)
  section_row q qs y h el en =
      let f = is_section_is q qs y h in
      let k = id_at_is q qs y h in
      row_same _ (part_row b q qs) (omega (arith, k, no_tag q.kind f)) refl (stated_here s b.place q qs (there q qs y) el)
      (sym (is_false (is_subsection q.kind) b.section b.rows f))
      (en ∙ ap (λ (j : ℕ). rule_in j (rules_with j b.rules)) k ∙ rule_section b q f)

  pub sub_row : (q : Part) (qs : List Part) → Left s b e i (q ∷ qs) → (b.place ≡ e → ⊥) → {l g n : ℕ}
      → l ≡ number (bytes_at s (b.place + 2) 2) → g ≡ number (bytes_at s b.place 2) → n ≡ rule_in i b.rules
      → ◌≡◌ {A = Row}
      (record { kind = i * 65536 + g; offset = b.place; length = l; owner = b.section; rule = n }) (part_row b q qs)
  sub_row q qs y h el eg en =
      let f = is_sub q qs y h in
      let k = joins_first i q qs y.owned f in
      let t = tag_here s b.place q qs (there q qs y) f eg in
      row_same _ (part_row b q qs) (omega (arith, k, t)) refl (stated_here s b.place q qs (there q qs y) el)
      (sym (is_true (is_subsection q.kind) b.section b.rows f))
      (en ∙ rule_sub_is b i q qs y.owned f)

  -- ---- the place after it

  -- After a section: it ends where its length says, and is in the row that was next.
  pub section_after : (q : Part) (qs : List Part) → Left s b e i (q ∷ qs) → b.place ≡ e → {l m n : ℕ}
      → l ≡ number (bytes_at s (b.place + 2) 2) → m ≡ own_length (get_or s b.place 0) l → n ≡ rules_with (get_or s b.place 0) b.rules
      → (◌≡◌ {A = Before} (record { place = b.place + m; rows = b.rows + 1; section = b.rows; rules = n }) (after b q))
      × Left s (after b q) (b.place + l) (get_or s b.place 0) qs
  section_after q qs y h {l} {m} {n} el em en =
      let a = there q qs y in
      let f = is_section_is q qs y h in
      let el' : l ≡ span q qs = stated_here s b.place q qs a el in
      let k : get_or s b.place 0 ≡ section_id q.kind = id_at_is q qs y h in
      let j = joins_behind i q qs y.owned in
      let em' : m ≡ size q = em ∙ ap₂ own_length k el' ∙ own_size s b.place q qs a f j in
      let o : owner_of b q ≡ b.rows = is_false (is_subsection q.kind) b.section b.rows f in
      let r : n ≡ rules_to b q = en ∙ ap (λ (x : ℕ). rules_with x b.rules) k ∙ rules_section b q f in
      let sp = span_section q qs f in
      let most = rules_most (get_or s b.place 0) b.rules in (
        before_same _ (after b q) (omega arith) (omega arith) (sym o) r,
        record {
          front = omega (arith, a.ends);
          short = y.short;
          bytes = a.behind;
          ends = omega arith;
          owned = ap (λ (x : ℕ). joins x qs) k ∙ j;
          byte = omega (arith, id_byte q.kind);
          owners = omega arith;
          few = omega (arith, y.few, a.least);
          ruled = omega (arith, y.ruled);
          fit = y.fit.1;
        },
      )

  -- After a subsection: the section goes on.
  pub sub_after : (q : Part) (qs : List Part) → Left s b e i (q ∷ qs) → (b.place ≡ e → ⊥) → {l : ℕ}
      → l ≡ number (bytes_at s (b.place + 2) 2)
      → (◌≡◌ {A = Before} (record { place = b.place + l; rows = b.rows + 1; section = b.section; rules = b.rules }) (after b q))
      × Left s (after b q) e i qs
  sub_after q qs y h {l} el =
      let a = there q qs y in
      let f = is_sub q qs y h in
      let el' : l ≡ size q = stated_here s b.place q qs a el ∙ span_sub q qs f in
      let k : section_id q.kind ≡ i = joins_first i q qs y.owned f in
      let o : owner_of b q ≡ b.section = is_true (is_subsection q.kind) b.section b.rows f in
      let r : rules_to b q ≡ b.rules = is_false (same_kind rule q.kind) (suc b.rules) b.rules (sub_no_rule q.kind f) in
      let sp : subsections_length (q ∷ qs) ≡ size q + subsections_length qs = is_true (is_subsection q.kind) (size q + subsections_length qs) 0 f in (
        before_same _ (after b q) (omega arith) (omega arith) (sym o) (sym r),
        record {
          front = omega (arith, a.ends);
          short = y.short;
          bytes = a.behind;
          ends = omega (arith, y.ends);
          owned = ap (λ (x : ℕ). joins x qs) (sym k) ∙ joins_behind i q qs y.owned;
          byte = y.byte;
          owners = omega (arith, y.owners);
          few = omega (arith, y.few, a.least);
          ruled = omega (arith, y.ruled);
          fit = y.fit.1;
        },
      )
