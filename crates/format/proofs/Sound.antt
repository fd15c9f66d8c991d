-- What the reading accepts is written so and keeps the rules: part by part, section by section.
use mathlib.Core.Path.{◌≡◌, refl, sym, ap, ap₂, ◌∙◌, subst}
use mathlib.Core.Bool.{Bool, true, false, not, ◌&&◌, ◌||◌}
use mathlib.Core.List.{List, [], ◌∷◌, ◌++◌, append_assoc, append-nil}
use mathlib.Core.Option.{Option, none, some}
use Prim.Native.Nat.{ℕ, zero, suc, ◌+◌, ◌-◌, ◌≤◌}
use native.Mathlib.Omega.{arith}
use lib.Dec.{eqb, leb}
use lib.ListN.{length, get_or, take, drop, length-append, length-drop, take-append-drop}
use lib.Seq.{take_at, take-add, length-take-le, drop-drop}
use borrow.Author.Tests.{eqb-true, eqb-false, leb-true, not-true, ne_eqb}
use Rattle.format.specs.Bytes.{All, Bytes, number, bytes_at}
use Rattle.format.specs.Layout.{Item, code, zeros, own, count, fixed, counted, fits, write}
use Rattle.format.specs.Slots.{least, slots, fields_in}
use Rattle.format.specs.Parts.{Kind, rule, information, section_id, tag, body, kind_number, same_kind, is_subsection, layout, Part, size, span, write_parts}
use Rattle.format.specs.Reading.{frame_length, section_kind, subsection_kind}
use Rattle.format.specs.Rules.{checks, Section, has, same_rule_id, may_both_stand, other_kind, mask_covers, has_required}
use Rattle.format.specs.Legal.{Pairwise}
use Rattle.format.specs.Reading.{Outcome, refused, found, fault, id_of, stated, body_slots, made_length, part_in, zero_checks, located, field_checks}
use Rattle.format.specs.Reading.{tested, subsection_checks, subsection, subsections, holds_subs, kind_before, rule_before, section_checks}
use Rattle.format.specs.Reading.{after_subsections, section_rest, section, sections, parts_of}
use Rattle.format.proofs.Numbers.{bytes_take, bytes_drop, same_sym}
use Rattle.format.proofs.Finding.{and_split, same_kind_eq, section_kind_sound, subsection_kind_sound}
use Rattle.format.proofs.Fitting.{Fits-fits}
use Rattle.format.proofs.Unique.{size_any, size_pos}
use Rattle.format.proofs.Tests.{refused_not, found_inj, needed, followed, tests_passed, hold_split, Kept, located_kept}
use Rattle.format.proofs.PartForm.{Framed, part_written}
use Rattle.format.proofs.Grouping.{all_join, Subs, parts_then_section, span_sub, span_section, subs_then_parts, subs_long, parts_last}

-- ---- what is known of a part and of a section that were read

-- The part's fields fit, are bytes and keep their rules; x for an external token.
pub record GoodPart (x : Bool) (p : Part) : Type 0 where
  pub fit : fits [] (layout p.kind) p.fields ≡ true
  pub bytes : All Bytes p.fields
  pub kept : Kept (checks x p.kind p.fields)

-- The part is a subsection of a section of kind o.
pub record GoodSub (x : Bool) (o : Kind) (p : Part) : Type 0 where
  pub sub : is_subsection p.kind ≡ true
  pub owner : section_id p.kind ≡ section_id o
  pub part : GoodPart x p

-- The section and its subsections keep their rules, those of refusal 20 where the reading is full.
pub record GoodSection (full x : Bool) (s : Section) : Type 0 where
  pub head : is_subsection s.head.kind ≡ false
  pub part : GoodPart x s.head
  pub subs : All (GoodSub x s.head.kind) s.subs
  pub tags : Pairwise other_kind s.subs
  pub masks : mask_covers s.subs ≡ true
  pub required : (not full || has_required s) ≡ true

-- ---- small laws

-- The fields in the slots of bytes are bytes.
fields_bytes : (l : List Item) (ns r : List ℕ) (o : ℕ) → Bytes r → All Bytes (fields_in r (slots ns l r o))
unfolding bytes_at
fields_bytes [] ns r o b = tt
fields_bytes (code w v ∷ l) ns r o b = fields_bytes l ns r (o + w) b
fields_bytes (zeros n q ∷ l) ns r o b = fields_bytes l ns r (o + n) b
fields_bytes (own w ∷ l) ns r o b = fields_bytes l ns r (o + w) b
fields_bytes (count w k ∷ l) ns r o b = fields_bytes l _ r (o + w) b
fields_bytes (fixed n ∷ l) ns r o b = (bytes_take n (drop o r) (bytes_drop o r b), fields_bytes l ns r (o + n) b)
fields_bytes (counted c ∷ l) ns r o b =
    (bytes_take (get_or ns c 0) (drop o r) (bytes_drop o r b), fields_bytes l ns r (o + get_or ns c 0) b)

-- A list with one more element at the end.
pairwise_last : {A : Type 0} (f : A → A → Bool) (xs : List A) (x : A) → Pairwise f xs → All (λ y. f y x ≡ true) xs
    → Pairwise f (xs ++ x ∷ [])
pairwise_last f [] x h k = (tt, tt)
pairwise_last f (y ∷ xs) x h k =
    (all_join (λ z. f y z ≡ true) xs (x ∷ []) h.0 (k.0, tt), pairwise_last f xs x h.1 k.1)

-- The order in which two kinds are compared does not matter.
pub kinds_differ : (j k : Kind) → same_kind j k ≡ false → same_kind k j ≡ false
kinds_differ j k e = ne_eqb (kind_number k) (kind_number j) (λ q. eqb-false (kind_number j) (kind_number k) e (sym q))

neither : (a b : Bool) → (a || b) ≡ false → (a ≡ false) × (b ≡ false)
neither false b e = (refl, e)
neither true b e = absurd (let z : ◌≡◌ {A = ℕ} 0 1 = cc in omega arith)

-- A kind that is not among parts differs from each of them.
others : (k : Kind) (p : Part) (us : List Part) → p.kind ≡ k → has k us ≡ false → All (λ u. other_kind u p ≡ true) us
others k p [] q e = tt
others k p (u ∷ us) q e =
    let n = neither (same_kind k u.kind) (has k us) e in
    let d : same_kind u.kind p.kind ≡ false = rw q (kinds_differ k u.kind n.0) in
    (ap not d, others k p us q n.1)

-- A written part and what follows it make the bytes: its size is the length that its counts make.
written_size : (k : Kind) (t : ℕ) (r : List ℕ) → made_length k r ≤ length r
    → write t (layout k) (part_in k r).fields ++ drop (made_length k r) r ≡ r → size (part_in k r) ≡ made_length k r
written_size k t r h e =
    let n = size_any (layout k) t 0 (part_in k r).fields in
    let l = length-append (write t (layout k) (part_in k r).fields) (drop (made_length k r) r) in
    let d = length-drop (made_length k r) r in
    let w = ap length e in
    omega arith

-- Where the counts make the stated length, the part's own bytes are all of it.
whole_form : (k : Kind) (t : ℕ) (r : List ℕ) → made_length k r ≡ t → size (part_in k r) ≡ made_length k r
    → write t (layout k) (part_in k r).fields ++ drop (made_length k r) r ≡ r
    → write (size (part_in k r)) (layout k) (part_in k r).fields ++ drop (size (part_in k r)) r ≡ r
whole_form k t r made long e =
    ap₂ (λ (m d : ℕ). write m (layout k) (part_in k r).fields ++ drop d r) (long ∙ made) long ∙ e

-- ---- subsections

-- What an accepted subsection says.
record SubRead (x : Bool) (o : Kind) (before : List Part) (n : ℕ) (r : List ℕ) (p : Part) : Type 0 where
  good : GoodSub x o p
  new : All (λ u. other_kind u p ≡ true) before
  long : stated r ≡ size p
  ends : stated r ≤ n
  form : write (size p) (layout p.kind) p.fields ++ drop (size p) r ≡ r

sub_known : (x : Bool) (o k : Kind) (before : List Part) (at n : ℕ) (r : List ℕ) (p : Part)
    → subsection_kind o (number (bytes_at r 0 2)) ≡ some k → n ≤ length r → Bytes r
    → tested at (subsection_checks x k (has k before) n r) (found (part_in k r)) ≡ found p → SubRead x o before n r p
sub_known x o k before at n r p q h b e =
    let t = tests_passed at (subsection_checks x k (has k before) n r) (found (part_in k r)) p e in
    let s = subsection_kind_sound o (number (bytes_at r 0 2)) k q in
    let c = t.0 in
    let w = and_split (leb (least (layout k)) (stated r)) (leb (stated r) n) c.0 in
    let fs = hold_split (zero_checks r (body_slots k r)) (located (slots [] (layout k) r 0) (checks x k (part_in k r).fields)) c.1.1.1.1 in
    let ends : stated r ≤ n = leb-true (stated r) n w.1 in
    let made : made_length k r ≡ stated r = eqb-true (made_length k r) (stated r) c.1.1.1.0 in
    let framed : Framed (is_subsection k) (section_id k) (tag k) (stated r) r =
    subst (λ (y : Bool). Framed y (section_id k) (tag k) (stated r) r) (sym s.0) (sym s.2, c.1.1.0, refl) in
    let pw = part_written k (stated r) r b framed fs.0 (omega arith) in
    let long = written_size k (stated r) r (omega arith) pw.1 in
    subst (λ (y : Part). SubRead x o before n r y) (found_inj t.1)
    (record {
      good = record { sub = s.0; owner = s.1; part = record { fit = Fits-fits (layout k) (stated r) [] _ pw.0; bytes = fields_bytes (body k) [] r (frame_length k) b; kept = located_kept (slots [] (layout k) r 0) (checks x k (part_in k r).fields) fs.1 } };
      new = others k (part_in k r) before refl (not-true (has k before) c.1.0);
      long = sym (long ∙ made);
      ends = ends;
      form = whole_form k (stated r) r made long pw.1;
    })

sub_read : (x : Bool) (o : Kind) (before : List Part) (at n : ℕ) (r : List ℕ) (p : Part) → n ≤ length r → Bytes r
    → subsection x o before at n r ≡ found p → SubRead x o before n r p
unfolding subsection
sub_read x o before at n r p h b e = go (subsection_kind o (number (bytes_at r 0 2))) refl (needed _ _ _ p e).1
  where
    go : (m : Option Kind) → subsection_kind o (number (bytes_at r 0 2)) ≡ m
        → elim m as (λ k. Outcome Part) [ none ↦ refused (fault 13 at at) | some k ↦ tested at (subsection_checks x k (has k before) n r) (found (part_in k r)) ] ≡ found p
        → SubRead x o before n r p
    go none q w = absurd (refused_not w)
    go (some k) q w = sub_known x o k before at n r p q h b w

-- What the accepted subsections of a section of kind o say.
abbrev GoodSubs : Bool → Kind → List Part → Type 0
GoodSubs x o us = All (GoodSub x o) us × Pairwise other_kind us

pub subs_of_is : (x : Bool) (o : Kind) (us : List Part) → All (GoodSub x o) us → Subs us
subs_of_is x o [] h = tt
subs_of_is x o (u ∷ us) h = (h.0.sub, subs_of_is x o us h.1)

-- One subsection more after the earlier ones.
sub_bytes_is : (x : Bool) (o : Kind) (before : List Part) (p : Part) (n : ℕ) (r : List ℕ) → All (GoodSub x o) before
    → SubRead x o before n r p → n ≤ length r
    → (write_parts (before ++ p ∷ []) ++ take (n - stated r) (drop (stated r) r) ≡ write_parts before ++ take n r)
sub_bytes_is x o before p n r g s h =
    let m : ℕ = stated r in
    let a : List ℕ = write (size p) (layout p.kind) p.fields in
    let z : List ℕ = take (n - m) (drop m r) in
    let la : length a ≡ m = size_any (layout p.kind) (size p) 0 p.fields ∙ sym s.long in
    let front : a ≡ take m r = sym (ap (take m) (sym s.form) ∙ take_at a (drop (size p) r) m la) in
    let ends = s.ends in
    let sum : n ≡ m + (n - m) = omega arith in
    let one : write_parts (p ∷ []) ≡ a =
    append-nil _ ∙ ap (λ (t : ℕ). write t (layout p.kind) p.fields) (span_sub p [] s.good.sub) in
    ap (λ (y : List ℕ). y ++ z) (subs_then_parts before (p ∷ []) (subs_of_is x o before g) ∙ ap (λ (y : List ℕ). write_parts before ++ y) (one ∙ front))
    ∙ append_assoc (write_parts before) (take m r) z
    ∙ ap (λ (y : List ℕ). write_parts before ++ y) (sym (take-add m (n - m) r) ∙ ap (λ (y : ℕ). take y r) (sym sum))

-- The subsections that a reading finds keep their rules, and after the earlier ones they are the bytes read.
subs_read : (d : ℕ) (x : Bool) (o : Kind) (before : List Part) (at n : ℕ) (r : List ℕ) (us : List Part) → n ≤ length r → Bytes r
    → GoodSubs x o before → subsections d x o before at n r ≡ found us
    → GoodSubs x o us × (write_parts us ≡ write_parts before ++ take n r)
unfolding subsections
subs_read zero x o before at n r us h b g e = absurd (refused_not e)
subs_read (suc d) x o before at zero r us h b g e =
    let q : before ≡ us = found_inj e in
    (subst (GoodSubs x o) q g, ap write_parts (sym q) ∙ sym (append-nil (write_parts before)))
subs_read (suc d) x o before at (suc m) r us h b g e =
    let f = followed (subsection x o before at (suc m) r) _ us e in
    let s = sub_read x o before at (suc m) r f.0 h b f.1 in
    let ends = s.ends in
    let l = length-drop (stated r) r in
    let i = subs_read d x o (before ++ f.0 ∷ []) (at + stated r) (suc m - stated r) (drop (stated r) r) us (omega arith)
    (bytes_drop (stated r) r b)
    (all_join (GoodSub x o) before (f.0 ∷ []) g.0 (s.good, tt), pairwise_last other_kind before f.0 g.1 s.new)
    f.2 in
    (i.0, i.1 ∙ sub_bytes_is x o before f.0 (suc m) r g.0 s h)

-- ---- sections

-- A section whose kind does not stand before may stand after all earlier ones.
new_kind : (k : Kind) (s : Section) (before : List Section) → s.head.kind ≡ k → kind_before k before ≡ false
    → All (λ b. may_both_stand b s ≡ true) before
new_kind k s [] q e = tt
new_kind k s (b ∷ before) q e =
    let n = neither (same_kind k b.head.kind) (kind_before k before) e in
    let d : same_kind b.head.kind s.head.kind ≡ false = rw q (kinds_differ k b.head.kind n.0) in
    (ap (λ (y : Bool). not y || (same_kind rule b.head.kind && not (same_rule_id b.head s.head))) d, new_kind k s before q n.1)

-- A rule whose Rule ID does not stand before may, too.
new_rule : (s : Section) (before : List Section) → s.head.kind ≡ rule → rule_before s.head before ≡ false
    → All (λ b. may_both_stand b s ≡ true) before
new_rule s [] q e = tt
new_rule s (b ∷ before) q e =
    let n = neither (same_kind rule b.head.kind && same_rule_id s.head b.head) (rule_before s.head before) e in
    (go (same_kind b.head.kind s.head.kind) refl n.0, new_rule s before q n.1)
  where
    last : (r y : Bool) → r ≡ true → (r && y) ≡ false → (r && not y) ≡ true
    last true true p w = sym w
    last true false p w = refl
    last false y p w = p

    go : (y : Bool) → same_kind b.head.kind s.head.kind ≡ y
        → (same_kind rule b.head.kind && same_rule_id s.head b.head) ≡ false → may_both_stand b s ≡ true
    go false w z = ap (λ (v : Bool). not v || (same_kind rule b.head.kind && not (same_rule_id b.head s.head))) w
    go true w z =
        let j : b.head.kind ≡ rule = same_kind_eq b.head.kind s.head.kind w ∙ q in
        let t : same_kind rule b.head.kind ≡ true = ap (same_kind rule) j in
        let m : (same_kind rule b.head.kind && same_rule_id b.head s.head) ≡ false =
        ap (λ (v : Bool). same_kind rule b.head.kind && v) (same_sym _ _) ∙ z in
        ap (λ (v : Bool). not v || (same_kind rule b.head.kind && not (same_rule_id b.head s.head))) w
        ∙ last (same_kind rule b.head.kind) (same_rule_id b.head s.head) t m

-- What an accepted section says.
pub record SectionRead (full x : Bool) (before : List Section) (r : List ℕ) (s : Section) : Type 0 where
  pub good : GoodSection full x s
  pub new : All (λ b. may_both_stand b s ≡ true) before
  pub least : 4 ≤ stated r
  pub ends : stated r ≤ length r
  pub form : write_parts (s.head ∷ s.subs) ++ drop (stated r) r ≡ r

-- A section that has subsections is as long, without them, as its plain number.
pub fixed_made : (k : Kind) (r : List ℕ) → holds_subs k ≡ true → made_length k r ≡ least (layout k)
fixed_made k r e = go (same_kind rule k) refl
  where
    of : (j : Kind) → same_kind j k ≡ true → made_length j r ≡ least (layout j) → made_length k r ≡ least (layout k)
    of j q = subst (λ (y : Kind). made_length y r ≡ least (layout y)) (same_kind_eq j k q)

    go : (b : Bool) → same_kind rule k ≡ b → made_length k r ≡ least (layout k)
    go true q = of rule q refl
    go false q = of information (sym (ap (λ (y : Bool). y || same_kind information k) q) ∙ e) refl

-- The part itself ends within the stated length.
pub made_le : (k : Kind) (r : List ℕ) → least (layout k) ≤ stated r → (holds_subs k || eqb (made_length k r) (stated r)) ≡ true
    → made_length k r ≤ stated r
made_le k r h e = go (holds_subs k) refl
  where
    go : (b : Bool) → holds_subs k ≡ b → made_length k r ≤ stated r
    go true q = let m = fixed_made k r q in omega arith
    go false q =
        let m = eqb-true (made_length k r) (stated r) (sym (ap (λ (y : Bool). y || eqb (made_length k r) (stated r)) q) ∙ e) in
        omega arith

-- A section that passed its tests on repeats may stand after all earlier ones.
new_section : (k : Kind) (s : Section) (before : List Section) → s.head.kind ≡ k
    → (same_kind rule k || not (kind_before k before)) ≡ true → not (same_kind rule k && rule_before s.head before) ≡ true
    → All (λ b. may_both_stand b s ≡ true) before
new_section k s before q e f = go (same_kind rule k) refl
  where
    go : (b : Bool) → same_kind rule k ≡ b → All (λ c. may_both_stand c s ≡ true) before
    go true w =
        new_rule s before (q ∙ sym (same_kind_eq rule k w))
        (sym (ap (λ (y : Bool). y && rule_before s.head before) w) ∙ not-true _ f)
    go false w =
        new_kind k s before q (not-true (kind_before k before) (sym (ap (λ (y : Bool). y || not (kind_before k before)) w) ∙ e))

-- The head's own bytes, its subsections' and what follows make the bytes.
section_bytes_is : (k : Kind) (us : List Part) (r : List ℕ) → is_subsection k ≡ false → Subs us → made_length k r ≤ stated r
    → stated r ≤ length r → size (part_in k r) ≡ made_length k r
    → write (stated r) (layout k) (part_in k r).fields ++ drop (made_length k r) r ≡ r
    → write_parts us ≡ take (stated r - made_length k r) (drop (made_length k r) r)
    → write_parts (part_in k r ∷ us) ++ drop (stated r) r ≡ r
section_bytes_is k us r h g ml sl sz w u =
    let m : ℕ = made_length k r in
    let n : ℕ = stated r - made_length k r in
    let z : List ℕ = drop m r in
    let ld = length-drop m r in
    let lu : length (write_parts us) ≡ n = ap length u ∙ length-take-le n z (omega arith) in
    let sp : span (part_in k r) us ≡ stated r =
    span_section (part_in k r) us h ∙ (let a = subs_long us g in omega arith) in
    let a : List ℕ = write (stated r) (layout k) (part_in k r).fields in
    let sum : m + n ≡ stated r = omega arith in
    let rest : drop (stated r) r ≡ drop n z = sym (drop-drop n m r ∙ ap (λ (y : ℕ). drop y r) sum) in
    ap₂ (λ (x y : List ℕ). (x ++ y) ++ drop (stated r) r) (ap (λ (y : ℕ). write y (layout k) (part_in k r).fields) sp) u
    ∙ append_assoc a (take n z) (drop (stated r) r)
    ∙ ap (λ (y : List ℕ). a ++ (take n z ++ y)) rest
    ∙ ap (λ (y : List ℕ). a ++ y) (take-append-drop n z)
    ∙ w

section_known : (full x : Bool) (k : Kind) (before : List Section) (at : ℕ) (r : List ℕ) (s : Section)
    → section_kind (id_of r) ≡ some k → 4 ≤ length r → Bytes r
    → tested at (section_checks x k (kind_before k before) (rule_before (part_in k r) before) r) (section_rest full x k at r) ≡ found s
    → SectionRead full x before r s
unfolding section_rest after_subsections
section_known full x k before at r s q h b e =
    let t = tests_passed at (section_checks x k (kind_before k before) (rule_before (part_in k r) before) r) _ s e in
    let id = section_kind_sound (id_of r) k q in
    let c = t.0 in
    let w = and_split (leb (least (layout k)) (stated r)) (leb (stated r) (length r)) c.1.0 in
    let lo : least (layout k) ≤ stated r = leb-true (least (layout k)) (stated r) w.0 in
    let ends : stated r ≤ length r = leb-true (stated r) (length r) w.1 in
    let fc = hold_split (field_checks x k r) _ c.1.1.1.1 in
    let fs = hold_split (zero_checks r (body_slots k r)) (located (slots [] (layout k) r 0) (checks x k (part_in k r).fields)) fc.0 in
    let framed : Framed (is_subsection k) (section_id k) (tag k) (stated r) r =
    subst (λ (y : Bool). Framed y (section_id k) (tag k) (stated r) r) (sym id.0) (sym id.1, c.0, refl) in
    let ml = made_le k r lo c.1.1.1.0 in
    let pw = part_written k (stated r) r b framed fs.0 (omega arith) in
    let sz = written_size k (stated r) r (omega arith) pw.1 in
    let f = followed (subsections (suc (stated r)) x k [] (at + made_length k r) (stated r - made_length k r) (drop (made_length k r) r)) _ s t.1 in
    let us : List Part = f.0 in
    let d : Section = record { head = part_in k r; subs = us } in
    let n1 = needed (mask_covers us) _ _ s f.2 in
    let n2 = needed (not full || has_required d) _ _ s n1.1 in
    let ld = length-drop (made_length k r) r in
    let su = subs_read (suc (stated r)) x k [] (at + made_length k r) (stated r - made_length k r) (drop (made_length k r) r) us (omega arith)
    (bytes_drop (made_length k r) r b) (tt, tt) f.1 in
    let sp = size_pos (part_in k r) in
    subst (λ (y : Section). SectionRead full x before r y) (found_inj n2.1)
    (record {
      good = record {
        head = id.0;
        part = record { fit = Fits-fits (layout k) (stated r) [] _ pw.0; bytes = fields_bytes (body k) [] r (frame_length k) b; kept = located_kept (slots [] (layout k) r 0) (checks x k (part_in k r).fields) fs.1 };
        subs = su.0.0;
        tags = su.0.1;
        masks = n1.0;
        required = n2.0;
      };
      new = new_section k d before refl c.1.1.0 fc.1.0;
      least = omega arith;
      ends = ends;
      form = section_bytes_is k us r id.0 (subs_of_is x k us su.0.0) ml ends sz pw.1 su.1;
    })

pub section_read : (full x : Bool) (before : List Section) (at : ℕ) (r : List ℕ) (s : Section) → Bytes r
    → section full x before at r ≡ found s → SectionRead full x before r s
unfolding section
section_read full x before at r s b e =
    let n = needed (leb 4 (length r)) _ _ s e in
    go (leb-true 4 (length r) n.0) (section_kind (id_of r)) refl n.1
  where
    go : 4 ≤ length r → (m : Option Kind) → section_kind (id_of r) ≡ m
        → elim m as (λ k. Outcome Section) [
          | none ↦ refused (fault 7 at at)
          | some k ↦ tested at (section_checks x k (kind_before k before) (rule_before (part_in k r) before) r) (section_rest full x k at r)
        ] ≡ found s
        → SectionRead full x before r s
    go h none q w = absurd (refused_not w)
    go h (some k) q w = section_known full x k before at r s q h b w

-- What is known of the sections that were read, after each other.
pub record GoodSections (full x : Bool) (ss : List Section) : Type 0 where
  pub each : All (GoodSection full x) ss
  pub pairs : Pairwise may_both_stand ss

-- One section more.
more : (full x : Bool) (before : List Section) (r : List ℕ) (s : Section) → GoodSections full x before
    → SectionRead full x before r s → GoodSections full x (before ++ s ∷ [])
more full x before r s g w = record {
  each = all_join (GoodSection full x) before (s ∷ []) g.each (w.good, tt);
  pairs = pairwise_last may_both_stand before s g.pairs w.new;
}

-- Its bytes stand after those of the earlier ones.
section_more : (full x : Bool) (before : List Section) (r : List ℕ) (s : Section) → SectionRead full x before r s
    → write_parts (parts_of (before ++ s ∷ [])) ++ drop (stated r) r ≡ write_parts (parts_of before) ++ r
section_more full x before r s w =
    ap (λ (y : List Part). write_parts y ++ drop (stated r) r) (parts_last before s)
    ∙ ap (λ (y : List ℕ). y ++ drop (stated r) r) (parts_then_section (parts_of before) s.head s.subs w.good.head)
    ∙ append_assoc (write_parts (parts_of before)) (write_parts (s.head ∷ s.subs)) (drop (stated r) r)
    ∙ ap (λ (y : List ℕ). write_parts (parts_of before) ++ y) w.form

-- The sections that a reading finds keep their rules, and after the earlier ones they are the bytes read.
pub sections_read : (d : ℕ) (full x : Bool) (before : List Section) (at : ℕ) (r : List ℕ) (ss : List Section) → Bytes r
    → GoodSections full x before → sections d full x before at r ≡ found ss
    → GoodSections full x ss × (write_parts (parts_of ss) ≡ write_parts (parts_of before) ++ r)
    × ((not full || kind_before information ss) ≡ true)
unfolding sections
sections_read zero full x before at r ss b g e = absurd (refused_not e)
sections_read (suc d) full x before at [] ss b g e =
    let n = needed (not full || kind_before information before) _ _ ss e in
    let q : before ≡ ss = found_inj n.1 in (
      subst (GoodSections full x) q g,
      ap (λ (y : List Section). write_parts (parts_of y)) (sym q) ∙ sym (append-nil (write_parts (parts_of before))),
      rw q at n.0,
    )
sections_read (suc d) full x before at (c ∷ cs) ss b g e =
    let r : List ℕ = c ∷ cs in
    let f = followed (section full x before at r) _ ss e in
    let w = section_read full x before at r f.0 b f.1 in
    let i = sections_read d full x (before ++ f.0 ∷ []) (at + stated r) (drop (stated r) r) ss (bytes_drop (stated r) r b)
    (more full x before r f.0 g w) f.2 in
    (i.0, i.1 ∙ section_more full x before r f.0 w, i.2)
