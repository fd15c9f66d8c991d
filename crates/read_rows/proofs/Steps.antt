-- The second pass, turn by turn: where it starts, a section's row, a subsection's row, and where it ends.
use mathlib.Core.Path.{◌≡◌, refl, sym, ap, ◌∙◌, subst}
use mathlib.Core.Bool.{Bool, true, ◌&&◌}
use mathlib.Core.List.{List, [], ◌∷◌, ◌++◌, map}
use Prim.Native.Nat.{ℕ, suc, ◌+◌, ◌*◌, ◌<◌, ◌≤◌}
use native.Mathlib.Omega.{arith}
use lib.Dec.{eqb}
use lib.ListN.{length, get_or}
use lib.Seq.{sets, length-sets}
use borrow.Author.Tests.{eqb-true, eq-eqb, ne_eqb}
use Rattle.format.specs.Bytes.{number, bytes_at}
use Rattle.format.specs.Parts.{Part}
use Rattle.format.specs.Rules.{longest, Section}
use Rattle.format.specs.Reading.{parts_of}
use Rattle.format.specs.Table.{Before, after_header, part_row, after, placed, rows, row_numbers, table_of}
use Rattle.format.specs.declared.Row.{Row}
use Rattle.format.proofs.Tests.{found_inj}
use Rattle.format.proofs.Finding.{and_split}
use Rattle.read_rows.specs.Places.{own_length, rules_with, rule_in, Left, Begins}
use Rattle.read_rows.specs.Filling.{Fillable, IsFilled, Rest, Filling, standing, end_in, InSection, bare_rule}
use Rattle.read_rows.proofs.Places.{own_twenty, in_rule, starts, left_length, there, four, section_row, sub_row, section_after, sub_after}

-- ---- a turn

-- What is left begins with a part, and the table has room for its row.
pub record Next (s t₀ t : List ℕ) (b : Before) (e i : ℕ) : Type 0 where
  pub here : Begins s b e i
  pub rest : Rest s t₀ t b (here.part ∷ here.behind)
  pub row : 5 * b.rows + 5 ≤ length t

-- The row of the part at a place is stored, and what is left after it.
row_stored : {s t₀ t u : List ℕ} (b c : Before) (q : Part) (qs : List Part) (r : Row) → r ≡ part_row b q qs → c ≡ after b q
    → u ≡ sets t (5 * b.rows) (row_numbers r) → Rest s t₀ t b (q ∷ qs) → Rest s t₀ u c qs
row_stored {s} {t₀} {t} {u} b c q qs r er ec eu w =
    let rest : List ℕ = table_of (map (λ x. x.row) (placed (after b q) qs)) in
    let five : 5 * suc b.rows ≡ suc (suc (suc (suc (suc (5 * b.rows))))) = omega arith in
    subst (λ (d : Before). Rest s t₀ u d qs) (sym ec)
    (record {
      sections = w.sections;
      read = w.read;
      long = ap length eu ∙ length-sets t (5 * b.rows) (row_numbers r) ∙ w.long;
      room = omega (arith, w.room);
      stored =
          ap (λ (a : ℕ). sets u a rest) five
          ∙ ap (λ (v : List ℕ). sets v (suc (suc (suc (suc (suc (5 * b.rows)))))) rest) eu
          ∙ ap (λ (x : Row). sets t (5 * b.rows) (row_numbers x ++ rest)) er
          ∙ w.stored;
    })

module _ {s t₀ t : List ℕ} {b : Before} {e i : ℕ} where
  pub next : Filling s t₀ t b e i → b.place < length s → Next s t₀ t b e i
  next w h = go w.parts w.left w.rest
    where
      go : (ps : List Part) → Left s b e i ps → Rest s t₀ t b ps → Next s t₀ t b e i
      go [] l r = absurd (let n = left_length l in omega arith)
      go (q ∷ qs) l r = record {
        here = record { part = q; behind = qs; left = l };
        rest = r;
        row = omega (arith, r.room, r.long);
      }

  -- A section: its row is its own owner, and it ends where its length says.
  pub section_on : {u : List ℕ} (w : Next s t₀ t b e i) → b.place ≡ e → {l m n k : ℕ} → l ≡ number (bytes_at s (b.place + 2) 2)
      → m ≡ own_length (get_or s b.place 0) l → n ≡ rules_with (get_or s b.place 0) b.rules → k ≡ rule_in (get_or s b.place 0) n
      → u ≡ sets t (5 * b.rows) (get_or s b.place 0 * 65536 ∷ b.place ∷ l ∷ b.rows ∷ k ∷ [])
      → (4 ≤ m)
      × Filling s t₀ u (record { place = b.place + m; rows = b.rows + 1; section = b.rows; rules = n }) (b.place + l) (get_or s b.place 0)
  section_on {u} w h {l} {m} {n} {k} el em en ek eu =
      let q : Part = w.here.part in
      let qs : List Part = w.here.behind in
      let y = w.here.left in
      let c = section_after q qs y h el em en in
      let r = section_row q qs y h el (ek ∙ ap (rule_in (get_or s b.place 0)) en) in
      let size' = ap (λ (d : Before). d.place) c.0 in (
        omega (arith, (there q qs y).least),
        record {
          parts = qs;
          left = subst (λ (d : Before). Left s d (b.place + l) (get_or s b.place 0) qs) (sym c.0) c.1;
          rest = row_stored b _ q qs _ r c.0 eu w.rest;
        },
      )

  -- A subsection: its row's owner is the section before it.
  pub sub_on : {u : List ℕ} (w : Next s t₀ t b e i) → (b.place ≡ e → ⊥) → {l g k : ℕ} → l ≡ number (bytes_at s (b.place + 2) 2)
      → g ≡ number (bytes_at s b.place 2) → k ≡ rule_in i b.rules
      → u ≡ sets t (5 * b.rows) ((i * 65536 + g) ∷ b.place ∷ l ∷ b.section ∷ k ∷ [])
      → (4 ≤ l) × Filling s t₀ u (record { place = b.place + l; rows = b.rows + 1; section = b.section; rules = b.rules }) e i
  sub_on {u} w h {l} {g} {k} el eg ek eu =
      let q : Part = w.here.part in
      let qs : List Part = w.here.behind in
      let y = w.here.left in
      let c = sub_after q qs y h el in
      let r = sub_row q qs y h el eg ek in
      let size' = ap (λ (d : Before). d.place) c.0 in (
        omega (arith, (there q qs y).least),
        record {
          parts = qs;
          left = subst (λ (d : Before). Left s d e i qs) (sym c.0) c.1;
          rest = row_stored b _ q qs _ r c.0 eu w.rest;
        },
      )

-- ---- the subsections of a section

module _ {s t₀ t : List ℕ} {n p : ℕ} {r : Row} {rules i : ℕ} where
  -- A part stands before the section's end.
  sub_next : InSection s t₀ t n p r rules i → p < end_in r → Next s t₀ t (standing p n r.owner rules) (end_in r) i
  sub_next w h = go w.filling.parts w.filling.left w.filling.rest
    where
      go : (ps : List Part) → Left s (standing p n r.owner rules) (end_in r) i ps → Rest s t₀ t (standing p n r.owner rules) ps
          → Next s t₀ t (standing p n r.owner rules) (end_in r) i
      go [] l x = absurd (let y = l.ends in omega arith)
      go (q ∷ qs) l x = next (record { parts = q ∷ qs; left = l; rest = x }) (let a = there q qs l in omega (arith, a.ends, a.least))

  -- What of it is in the token, the numbers before it, and the room for its row.
  pub sub_inside : InSection s t₀ t n p r rules i → p < end_in r
      → (p + 4 ≤ length s) × (length s ≤ longest) × (n ≤ p) × (r.kind < 16777216) × (5 * n + 5 ≤ length t)
  sub_inside w h =
      let x = sub_next w h in
      let l = x.here.left in
      (four x.here, l.short, l.few, omega (arith, w.kinds, l.byte), x.row)

  -- Its row is stored.
  pub sub_turn : {u : List ℕ} → InSection s t₀ t n p r rules i → p < end_in r → {l g : ℕ} → l ≡ number (bytes_at s (p + 2) 2) → g ≡ number (bytes_at s p 2)
      → u ≡ sets t (5 * n) (row_numbers (record r { kind = r.kind + g; offset = p; length = l }))
      → (4 ≤ l) × InSection s t₀ u (n + 1) (p + l) r rules i × (length u ≡ length t)
  sub_turn {u} w h {l} {g} el eg eu =
      let f = sub_on (sub_next w h) (λ z. omega arith) el eg w.number
      (eu ∙ ap (λ (k : ℕ). sets t (5 * n) ((k + g) ∷ p ∷ l ∷ r.owner ∷ r.rule ∷ [])) w.kinds) in (
        f.0,
        record { filling = f.1; kinds = w.kinds; number = w.number },
        ap length eu ∙ length-sets t (5 * n) ((r.kind + g) ∷ p ∷ l ∷ r.owner ∷ r.rule ∷ []),
      )

  -- At the section's end no more of them are left.
  pub subs_end : InSection s t₀ t n p r rules i → end_in r ≤ p → Filling s t₀ t (standing (end_in r) n r.owner rules) (end_in r) i
  subs_end w h =
      let x = w.filling.left.ends in
      let q : p ≡ end_in r = omega arith in
      subst (λ (d : ℕ). Filling s t₀ t (standing d n r.owner rules) (end_in r) i) q w.filling

-- ---- a rule without subsections

pub has_id : (i n : ℕ) → i ≡ 0x12 → eqb n 20 ≡ bare_rule i n
unfolding bare_rule
has_id i n e = sym (ap (λ (b : Bool). b && eqb n 20) (eq-eqb i 0x12 e))

pub no_id : (i n : ℕ) → (i ≡ 0x12 → ⊥) → eqb i 0x12 ≡ bare_rule i n
unfolding bare_rule
no_id i n e = let f = ne_eqb i 0x12 e in f ∙ sym (ap (λ (b : Bool). b && eqb n 20) f)

pub bare_rule_is : {r : Bool} (i n : ℕ) → r ≡ bare_rule i n → r ≡ true → (i ≡ 0x12) × (n ≡ 20)
unfolding bare_rule
bare_rule_is i n e t =
    let b = and_split (eqb i 0x12) (eqb n 20) (sym e ∙ t) in
    (eqb-true i 0x12 b.0, eqb-true n 20 b.1)

module _ {s t₀ t u : List ℕ} {b : Before} {e i : ℕ} where
  pub bare_on : (w : Next s t₀ t b e i) → b.place ≡ e → {l n : ℕ} → l ≡ number (bytes_at s (b.place + 2) 2)
      → n ≡ rules_with (get_or s b.place 0) b.rules → get_or s b.place 0 ≡ 0x12 → l ≡ 20
      → u ≡ sets t (5 * b.rows) (0x120000 ∷ b.place ∷ 20 ∷ b.rows ∷ n ∷ [])
      → Filling s t₀ u (standing (b.place + 20) (b.rows + 1) b.rows n) (b.place + 20) (get_or s b.place 0)
  bare_on w h {l} {n} el en ei l20 eu =
      let k : 0x120000 ≡ get_or s b.place 0 * 65536 = omega arith in
      (section_on w h (sym l20 ∙ el) (own_twenty 20 ei) en (in_rule n ei)
      (eu ∙ ap (λ (x : ℕ). sets t (5 * b.rows) (x ∷ b.place ∷ 20 ∷ b.rows ∷ n ∷ [])) k)).1

-- ---- the start and the end

pub start : {s t : List ℕ} → Fillable s t → Filling s t t after_header 8 0
start {s} {t} f = record {
  parts = parts_of f.sections;
  left = starts s f.sections f.bytes f.read;
  rest = record {
    sections = f.sections;
    read = f.read;
    long = refl;
    room = omega (arith, f.room);
    stored = refl;
  };
}

-- Nothing is left at the end.
pub end : {s t₀ t : List ℕ} {b : Before} {e i : ℕ} → Filling s t₀ t b e i → length s ≤ b.place → IsFilled s t₀ t
end {s} {t₀} {t} {b} {e} {i} w h ss r = go w.parts w.left w.rest
  where
    go : (ps : List Part) → Left s b e i ps → Rest s t₀ t b ps → t ≡ sets t₀ 0 (table_of (rows (parts_of ss)))
    go [] l x = x.stored ∙ ap (λ (y : List Section). sets t₀ 0 (table_of (rows (parts_of y)))) (found_inj (sym x.read ∙ r))
    go (q ∷ qs) l x = absurd (let a = there q qs l in omega (arith, a.ends, a.least))
