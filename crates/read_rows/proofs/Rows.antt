-- The second pass: the part at p, its row, and what is left to store after it.
use mathlib.Core.Path.{◌≡◌, refl, sym, ap, ap₂, ◌∙◌, subst}
use mathlib.Core.Bool.{Bool, true, false, not, ◌&&◌, ◌||◌}
use mathlib.Core.List.{List, [], ◌∷◌}
use Prim.Native.Nat.{ℕ, ◌+◌, ◌≤◌}
use native.Mathlib.Nat.{add-zero}
use native.Mathlib.Omega.{arith}
use lib.Dec.{eqb}
use lib.ListN.{length, drop, length-append, length-drop}
use lib.Seq.{drop_at, drop-drop}
use borrow.Author.Tests.{not-true}
use Rattle.format.specs.Layout.{fits, write}
use Rattle.format.specs.Slots.{least}
use Rattle.format.specs.Parts.{Kind, rule, information, section_id, tag, is_subsection, same_kind, layout, Part, size, subsections_length, span, write_parts, joins}
use Rattle.format.specs.Rules.{longest}
use Rattle.format.specs.Reading.{holds_subs, made_length}
use Rattle.format.proofs.Finding.{and_split, every_kind, same_kind_eq}
use Rattle.format.proofs.Fitting.{part_fits}
use Rattle.format.proofs.Unique.{size_any, size_pos}
use Rattle.format.proofs.PartForm.{Framed, part_read}
use Rattle.format.proofs.Grouping.{none_follow, span_le, span_section}
use Rattle.format.proofs.Sound.{fixed_made}
use Rattle.format.proofs.Complete.{owner_holds}
use Rattle.read_rows.specs.Places.{own_length}

-- ---- the part at p

-- What is known of the part that stands at p, before qs.
pub record Here (s : List ℕ) (p : ℕ) (q : Part) (qs : List Part) : Type 0 where
  pub frame : Framed (is_subsection q.kind) (section_id q.kind) (tag q.kind) (span q qs) (drop p s)
  pub made : made_length q.kind (drop p s) ≡ size q
  pub behind : drop (p + size q) s ≡ write_parts qs
  pub least : 4 ≤ size q
  pub inside : size q ≤ span q qs
  pub ends : p + size q + length (write_parts qs) ≡ length s
  pub spans : p + span q qs ≤ length s

pub here : (s : List ℕ) (p : ℕ) (q : Part) (qs : List Part) → p ≤ length s → length s ≤ longest
    → fits [] (layout q.kind) q.fields ≡ true → drop p s ≡ write_parts (q ∷ qs) → Here s p q qs
here s p q qs h m f e =
    let a : List ℕ = write (span q qs) (layout q.kind) q.fields in
    let n = size_any (layout q.kind) (span q qs) 0 q.fields in
    let l = length-append a (write_parts qs) in
    let d = length-drop p s in
    let le = ap length e in
    let sp = span_le q qs in
    let pos = size_pos q in
    let r = part_read q (span q qs) (drop p s) (write_parts qs) (part_fits q.kind (span q qs) q.fields (omega arith) f) e in
    record {
      frame = r.0;
      made = r.3;
      behind = sym (drop-drop (size q) p s) ∙ ap (drop (size q)) e ∙ drop_at a (write_parts qs) (size q) n;
      least = pos;
      inside = omega arith;
      ends = omega arith;
      spans = omega arith;
    }

-- ---- section or subsection

-- A part is told to be a section, or a subsection, by the bytes that are left of the section before it.
sub_long : (b : Bool) (q : Part) (n : ℕ) → ◌≡◌ {A = ℕ} (elim b [ true ↦ size q + n | false ↦ 0 ]) 0 → b ≡ false
sub_long false q n e = refl
sub_long true q n e = absurd (let z = size_pos q in omega arith)

pub section_here : (q : Part) (qs : List Part) → subsections_length (q ∷ qs) ≡ 0 → is_subsection q.kind ≡ false
section_here q qs e = sub_long (is_subsection q.kind) q (subsections_length qs) e

section_none : (b : Bool) (q : Part) (n : ℕ) → (◌≡◌ {A = ℕ} (elim b [ true ↦ size q + n | false ↦ 0 ]) 0 → ⊥) → b ≡ true
section_none true q n e = refl
section_none false q n e = absurd (e refl)

pub sub_here : (q : Part) (qs : List Part) → (subsections_length (q ∷ qs) ≡ 0 → ⊥) → is_subsection q.kind ≡ true
sub_here q qs e = section_none (is_subsection q.kind) q (subsections_length qs) e

own_rule : (n : ℕ) → own_length (section_id rule) n ≡ least (layout rule)
unfolding own_length
own_rule n = refl

own_information : (n : ℕ) → own_length (section_id information) n ≡ least (layout information)
unfolding own_length
own_information n = refl

-- The kinds of sections that have no subsections are told by their ids.
other_id : (k : Kind) → is_subsection k ≡ false → holds_subs k ≡ false → (n : ℕ) → own_length (section_id k) n ≡ n
unfolding own_length
other_id k f h n =
    let t = every_kind (λ j. is_subsection j || (holds_subs j || (not (eqb (section_id j) 0x12) && not (eqb (section_id j) 0x14)))) refl k in
    let u : (not (eqb (section_id k) 0x12) && not (eqb (section_id k) 0x14)) ≡ true =
    sym (ap₂ (λ (a b : Bool). a || (b || (not (eqb (section_id k) 0x12) && not (eqb (section_id k) 0x14)))) f h) ∙ t in
    let v = and_split (not (eqb (section_id k) 0x12)) (not (eqb (section_id k) 0x14)) u in
    ap₂ (λ (a b : Bool). elim a as (λ y. ℕ) [ true ↦ 20 | false ↦ elim b as (λ z. ℕ) [ true ↦ 10 | false ↦ n ] ]) (not-true (eqb (section_id k) 0x12) v.0) (not-true (eqb (section_id k) 0x14) v.1)

-- A section that holds no subsections is followed by none.
no_subs : (k : Kind) (qs : List Part) → is_subsection k ≡ false → holds_subs k ≡ false → joins (section_id k) qs ≡ true → subsections_length qs ≡ 0
no_subs k qs f h j =
    none_follow (section_id k) qs
    (λ u e o. let z : true ≡ false = sym (owner_holds u k e o f) ∙ h in let y : ◌≡◌ {A = ℕ} 0 1 = cc in omega arith) j

-- The length of a section's own fields, from its id and the length that it states.
pub own_size : (s : List ℕ) (p : ℕ) (q : Part) (qs : List Part) → Here s p q qs → is_subsection q.kind ≡ false
    → joins (section_id q.kind) qs ≡ true → own_length (section_id q.kind) (span q qs) ≡ size q
own_size s p q qs w f j = go (holds_subs q.kind) refl
  where
    fixed : (k j : Kind) → same_kind j k ≡ true → own_length (section_id j) (span q qs) ≡ least (layout j) → own_length (section_id k) (span q qs) ≡ least (layout k)
    fixed k j e = subst (λ (y : Kind). own_length (section_id y) (span q qs) ≡ least (layout y)) (same_kind_eq j k e)

    held : (k : Kind) (b : Bool) → same_kind rule k ≡ b → holds_subs k ≡ true → own_length (section_id k) (span q qs) ≡ least (layout k)
    held k true e h = fixed k rule e (own_rule (span q qs))
    held k false e h = fixed k information (sym (ap (λ (b : Bool). b || same_kind information k) e) ∙ h) (own_information (span q qs))

    go : (b : Bool) → holds_subs q.kind ≡ b → own_length (section_id q.kind) (span q qs) ≡ size q
    go true h = held q.kind (same_kind rule q.kind) refl h ∙ sym (fixed_made q.kind (drop p s) h) ∙ w.made
    go false h =
        other_id q.kind f h (span q qs)
        ∙ span_section q qs f
        ∙ ap (λ (n : ℕ). size q + n) (no_subs q.kind qs f h j)
        ∙ add-zero (size q)
