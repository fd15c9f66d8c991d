-- The addition of a section that may stand only once and has no subsections: its place, then the rules on its fields.
-- Assumes nothing.
use mathlib.Core.Path.{◌≡◌, refl, sym, ap, ap₂, ◌∙◌, subst}
use mathlib.Core.Bool.{Bool, true, false, not, ◌&&◌, ◌||◌}
use mathlib.Core.List.{List, [], ◌∷◌, ◌++◌, append-nil}
use mathlib.Core.Option.{some}
use Prim.Native.Nat.{ℕ, suc, ◌+◌, ◌-◌, ◌^◌, ◌≤◌, ◌<◌}
use native.Mathlib.Omega.{arith}
use lib.Dec.{eqb, leb}
use lib.ListN.{length, take, drop}
use borrow.Author.Tests.{eqb-true, eq-eqb, le-leb, leb-true}
use Rattle.format.specs.Bytes.{All, Bytes}
use Rattle.format.specs.Layout.{Fields, fits, write}
use Rattle.format.specs.Slots.{least, offset_of}
use Rattle.format.specs.Parts.{Kind, rule, section_id, tag, same_kind, is_subsection, layout, Part, size, external}
use Rattle.format.specs.Rules.{longest, check, checks, Section}
use Rattle.format.specs.Reading.{Fault, fault, Outcome, refused, found, need, and_then, Test, tested, located, id_of, stated, section_kind, part_in, part_slots, body_slots, made_length}
use Rattle.format.specs.Reading.{zero_checks, field_checks, section_checks, holds_subs, kind_before, rule_before, after_subsections, section_rest, section, reading, subsections}
use Rattle.format.specs.Writer.{addition}
use Rattle.format.proofs.Finding.{and_join, and_split, every_kind, or_right, same_kind_eq, same_kind_refl, section_kind_told}
use Rattle.format.proofs.Fitting.{part_fits}
use Rattle.format.proofs.Unique.{size_any, size_pos}
use Rattle.format.proofs.Tests.{need_passed, then_found, tests_lead}
use Rattle.format.proofs.Numbering.{tested_both}
use Rattle.format.proofs.Turns.{then_same, subs_from, subs_none}
use Rattle.format.proofs.PartForm.{Framed, part_read}
use Rattle.format.proofs.Sound.{GoodSection}
use Rattle.format.proofs.Complete.{least_le, part_stated}
use Rattle.format.proofs.Accepted.{reading_sound}
use Rattle.write_appended_part.specs.Appended.{grown, appended}
use Rattle.write_section.specs.Adding.{section_added}
use Rattle.write_section.proofs.Alone.{known}
use Rattle.write_section.proofs.Additions.{same_need, section_same}
use Rattle.write_judged_section.specs.Placing.{id_among, place_for}
use Rattle.write_judged_section.proofs.Longer.{reading_after}

-- ---- chains of tests

-- What follows tests.
need_then : {A B : Type 0} (b : Bool) (f : Fault) (rest : Outcome A) (next : A → Outcome B) → and_then (need b f rest) next ≡ need b f (and_then rest next)
unfolding need and_then
need_then true f rest next = refl
need_then false f rest next = refl

tested_then : {A B : Type 0} (at : ℕ) (cs : List Test) (rest : Outcome A) (next : A → Outcome B)
    → and_then (tested at cs rest) next ≡ tested at cs (and_then rest next)
unfolding tested
tested_then at [] rest next = refl
tested_then at (c ∷ cs) rest next =
    need_then c.holds (fault c.refusal at (at + c.offset)) (tested at cs rest) next
    ∙ ap (need c.holds (fault c.refusal at (at + c.offset))) (tested_then at cs rest next)

-- Outcomes that follow each other.
then_then : {A B C : Type 0} (o : Outcome A) (f : A → Outcome B) (g : B → Outcome C) → and_then (and_then o f) g ≡ and_then o (λ a. and_then (f a) g)
unfolding and_then
then_then (refused e) f g = refl
then_then (found a) f g = refl

-- ---- one section

-- A section is told by its id.
same_id : (j k : Kind) → is_subsection j ≡ false → is_subsection k ≡ false → same_kind k j ≡ eqb (section_id j) (section_id k)
same_id j k a b = go (eqb (section_id j) (section_id k)) refl
  where
    inj : {x y : Kind} → some x ≡ some y → x ≡ y
    inj e = cc

    go : (v : Bool) → eqb (section_id j) (section_id k) ≡ v → same_kind k j ≡ v
    go true q =
        let e : j ≡ k = inj (sym (section_kind_told j a) ∙ ap section_kind (eqb-true (section_id j) (section_id k) q) ∙ section_kind_told k b) in
        ap (same_kind k) e ∙ same_kind_refl k
    go false q = apart (same_kind k j) refl
      where
        apart : (u : Bool) → same_kind k j ≡ u → same_kind k j ≡ false
        apart false p = p
        apart true p = absurd (let z : ◌≡◌ {A = ℕ} 0 1 = clash (sym (eq-eqb (section_id j) (section_id k) (ap section_id (sym (same_kind_eq k j p)))) ∙ q) in omega arith)
          where
            clash : ◌≡◌ {A = Bool} true false → ◌≡◌ {A = ℕ} 0 1
            clash e = cc

pub before_among : (x : Bool) (k : Kind) (ss : List Section) → is_subsection k ≡ false → All (GoodSection false x) ss → kind_before k ss ≡ id_among (section_id k) ss
before_among x k [] h g = refl
before_among x k (s ∷ ss) h g =
    ap₂ (λ (u v : Bool). u || v) (same_id s.head.kind k g.0.head h) (before_among x k ss h g.1)

-- A kind of section that may stand only once and has no subsections.
pub record Single (k : Kind) : Type 0 where
  pub section : is_subsection k ≡ false
  pub bare : holds_subs k ≡ false
  pub once : same_kind rule k ≡ false

-- Its first field is its start.
starts : (k : Kind) (w : List ℕ) → offset_of (part_slots k w) 0 ≡ 0
starts k w = eqb-true (offset_of (part_slots k w) 0) 0 (every_kind (λ j. eqb (offset_of (part_slots j w) 0) 0) refl k)

-- Such a section as it is written: 9 where its kind stands before, then the rules on its fields.
judged_section : (x : Bool) (before : List Section) (at : ℕ) (p : Part) (w : List ℕ) → Single p.kind
    → fits [] (layout p.kind) p.fields ≡ true → size p < 256 ^ 2 → w ≡ write (size p) (layout p.kind) p.fields
    → section false x before at w
    ≡ need (not (kind_before p.kind before)) (fault 9 at at) (tested at (located (part_slots p.kind w) (checks x p.kind p.fields)) (found (record { head = p; subs = [] })))
unfolding tested section_rest after_subsections
judged_section x before at p w s fit small e =
    let k : Kind = p.kind in
    let t : ℕ = size p in
    let seen : Bool = kind_before k before in
    let f = part_fits k t p.fields small fit in
    let form : w ≡ write t (layout k) p.fields ++ [] = e ∙ sym (append-nil (write t (layout k) p.fields)) in
    let i = part_read p t w [] f form in
    let framed : Framed false (section_id k) (tag k) t w = subst (λ (y : Bool). Framed y (section_id k) (tag k) t w) s.section i.0 in
    let kind : section_kind (id_of w) ≡ some k = ap section_kind framed.0 ∙ section_kind_told k s.section in
    let st : stated w ≡ t = framed.2 in
    let lo = least_le (layout k) t [] p.fields f in
    let sz = size_any (layout k) t 0 p.fields in
    let lw = ap length e in
    let pos = size_pos p in
    let fields : (part_in k w).fields ≡ p.fields = ap (λ (q : Part). q.fields) i.2 in
    let repeated : Bool = rule_before (part_in k w) before in
    let made = i.3 in
    let left : stated w - made_length k w ≡ 0 = omega arith in
    let rest : section_rest false x k at w ≡ found (record { head = p; subs = [] }) =
    then_found _ (ap (λ (n : ℕ). subsections (suc (stated w)) x k [] (at + made_length k w) n (drop (made_length k w) w)) left
    ∙ subs_from (suc (stated w)) x k [] (at + made_length k w) 0 (drop (made_length k w) w) (omega arith)
    ∙ subs_none x k [] (at + made_length k w) (drop (made_length k w) w))
    ∙ need_passed true _ _ refl
    ∙ need_passed true _ _ refl
    ∙ ap (λ (q : Part). found (record { head = q; subs = [] })) i.2 in
    let ids : List Test = located (part_slots k w) (check 0 9 (not (same_kind rule k && repeated)) ∷ []) in
    let after : tested at (field_checks x k w ++ ids) (section_rest false x k at w) ≡ tested at (located (part_slots k w) (checks x k p.fields)) (found (record { head = p; subs = [] })) =
    tested_both at (field_checks x k w) ids (section_rest false x k at w)
    ∙ ap (tested at (field_checks x k w)) (tests_lead at ids (section_rest false x k at w) (ap (λ (v : Bool). not (v && repeated)) s.once, tt) ∙ rest)
    ∙ tested_both at (zero_checks w (body_slots k w)) (located (part_slots k w) (checks x k (part_in k w).fields)) _
    ∙ tests_lead at (zero_checks w (body_slots k w)) _ i.1
    ∙ ap (λ (y : Fields). tested at (located (part_slots k w) (checks x k y)) (found (record { head = p; subs = [] }))) fields in
    let cs : List Test = section_checks x k seen repeated w in
    let nine : at + (offset_of (part_slots k w) 0 + 0) ≡ at = omega (arith, starts k w) in
    let rest' : Outcome Section = section_rest false x k at w in
    known x k before at w (omega arith) kind
    ∙ tests_lead at (take 2 cs) (tested at (drop 2 cs) rest')
    (framed.1, (and_join _ _ (le-leb (least (layout k)) (stated w) (omega arith)) (le-leb (stated w) (length w) (omega arith)), tt))
    ∙ ap (λ (q : ℕ). need (same_kind rule k || not seen) (fault 9 at q) (tested at (drop 3 cs) rest')) nine
    ∙ ap₂ (λ (v : Bool) (o : Outcome Section). need (v || not seen) (fault 9 at at) o) s.once
    (tests_lead at (take 1 (drop 3 cs)) (tested at (drop 4 cs) rest') (or_right (holds_subs k) _ (eq-eqb (made_length k w) (stated w) (omega arith)), tt) ∙ after)

-- ---- its addition

-- The longer draft: 9, then the rules on the fields, else the new bytes.
judged_longer : (d : List ℕ) (ss : List Section) (p : Part) (w : List ℕ) → Single p.kind → fits [] (layout p.kind) p.fields ≡ true
    → Bytes d → reading false d ≡ found ss → stated d + length w ≤ longest → length w ≡ size p → w ≡ write (size p) (layout p.kind) p.fields
    → and_then (reading false (grown d 0 w)) (λ ts. found (grown d 0 w))
    ≡ need (not (id_among (section_id p.kind) ss)) (fault 9 (stated d) (stated d))
    (tested (stated d) (located (part_slots p.kind w) (checks (external (id_of d)) p.kind p.fields)) (found (grown d 0 w)))
unfolding and_then
judged_longer d ss p w s fit b e m l form =
    let k : Kind = p.kind in
    let x : Bool = external (id_of d) in
    let L : ℕ = stated d in
    let g : List ℕ = grown d 0 w in
    let cs : List Test = located (part_slots k w) (checks x k p.fields) in
    let pos = size_pos p in
    let says : stated w ≡ length w =
    ap stated form ∙ part_stated p (size p) (write (size p) (layout k) p.fields) [] (omega arith) fit (sym (append-nil (write (size p) (layout k) p.fields))) ∙ sym l in
    let good = (reading_sound false d ss b e).good.each in
    ap (λ (o : Outcome (List Section)). and_then o (λ ts. found g))
    (reading_after d w ss b e m (omega arith) says
    ∙ ap (λ (o : Outcome Section). and_then o (λ t. found (ss ++ t ∷ []))) (judged_section x ss L p w s fit (omega arith) form))
    ∙ then_then (need (not (kind_before k ss)) (fault 9 L L) (tested L cs (found (record { head = p; subs = [] })))) (λ t. found (ss ++ t ∷ [])) (λ ts. found g)
    ∙ need_then (not (kind_before k ss)) (fault 9 L L) (tested L cs (found (record { head = p; subs = [] }))) (λ t. and_then (found (ss ++ t ∷ [])) (λ ts. found g))
    ∙ ap₂ (λ (v : Bool) (o : Outcome (List ℕ)). need (not v) (fault 9 L L) o) (before_among x k ss s.section good)
    (tested_then L cs (found (record { head = p; subs = [] })) (λ t. and_then (found (ss ++ t ∷ [])) (λ ts. found g)))

-- The addition: the place, then the rules on the fields, else the longer draft.
pub judged : (k : Kind) (fs : Fields) (d w : List ℕ) → Single k → fits [] (layout k) fs ≡ true → Bytes d
    → w ≡ write (size (record { kind = k; fields = fs })) (layout k) fs
    → addition k fs d
    ≡ and_then (place_for (section_id k) (length w) d) (λ l. tested l (located (part_slots k w) (checks (external (id_of d)) k fs)) (found (grown d 0 w)))
unfolding section_added appended place_for and_then
judged k fs d w s fit b form =
    let p : Part = record { kind = k; fields = fs } in
    let L : ℕ = stated d in
    let room : Bool = leb (L + length w) longest && leb (L + length w) (length d) in
    let l : length w ≡ size p = ap length form ∙ size_any (layout k) (size p) 0 fs in
    let next : ℕ → Outcome (List ℕ) = λ n. tested n (located (part_slots k w) (checks (external (id_of d)) k fs)) (found (grown d 0 w)) in
    section_same k fs d w (size p) s.section fit form (sym l) b
    ∙ then_same (reading false d) _ _
    (λ ss e.
    same_need room room (fault 23 L L) _ _ refl
    (λ q. judged_longer d ss p w s fit b e (leb-true (L + length w) longest (and_split (leb (L + length w) longest) _ q).0) l form
    ∙ sym (need_then (not (id_among (section_id k) ss)) (fault 9 L L) (found L) next))
    ∙ sym (need_then room (fault 23 L L) _ next))
    ∙ sym (then_then (reading false d) _ next)
