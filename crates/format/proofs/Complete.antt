-- The reading accepts what is written and keeps the rules: part by part, section by section.
use mathlib.Core.Path.{◌≡◌, refl, sym, ap, ap₂, ◌∙◌, subst}
use mathlib.Core.Bool.{Bool, true, false, not, ◌&&◌, ◌||◌}
use mathlib.Core.List.{List, [], ◌∷◌, ◌++◌, append_assoc, append-nil}
use mathlib.Core.Option.{Option, none, some}
use Prim.Native.Nat.{ℕ, zero, suc, ◌+◌, ◌-◌, ◌^◌, ◌≤◌, ◌<◌}
use native.Mathlib.Omega.{arith}
use lib.Dec.{eqb, leb}
use lib.ListN.{length, get_or, drop, length-append, length-replicate}
use lib.Seq.{drop_at}
use borrow.Author.Tests.{eq-eqb, le-leb, not-true}
use Rattle.format.specs.Bytes.{All, number, bytes_at}
use Rattle.format.specs.Layout.{Item, code, zeros, own, count, fixed, counted, Fields, fits, write}
use Rattle.format.specs.Slots.{least, slots}
use Rattle.format.specs.Parts.{Kind, rule, information, section_id, tag, same_kind, is_subsection, layout, Part, size, subsections_length, span, write_parts}
use Rattle.format.specs.Reading.{section_kind, subsection_kind}
use Rattle.format.specs.Rules.{checks, Section, has, same_rule_id, may_both_stand, other_kind, mask_covers, has_required}
use Rattle.format.specs.Legal.{Pairwise}
use Rattle.format.specs.Reading.{Outcome, refused, found, fault, need, and_then, id_of, stated, body_slots, made_length, part_in, zero_checks, located, field_checks}
use Rattle.format.specs.Reading.{tested, subsection_checks, subsection, subsections, holds_subs, kind_before, rule_before, section_checks}
use Rattle.format.specs.Reading.{after_subsections, section_rest, section, sections, parts_of}
use Rattle.format.proofs.Numbers.{big_endian_length, same_sym}
use Rattle.format.proofs.Finding.{and_join, or_left, or_right, or_else, every_kind, same_kind_eq, section_kind_told, subsection_kind_told}
use Rattle.format.proofs.Fitting.{Fits, part_fits}
use Rattle.format.proofs.Unique.{size_any, size_pos}
use Rattle.format.proofs.Tests.{need_passed, then_found, Hold, tests_lead, hold_join, kept_located}
use Rattle.format.proofs.PartForm.{Framed, part_read}
use Rattle.format.proofs.Grouping.{all_split, parts_then_section, span_sub, span_section, subs_long}
use Rattle.format.proofs.Sound.{GoodSub, GoodSection, kinds_differ, subs_of_is}

-- ---- small laws

-- What is written is at least as long as the plain number.
pub least_le : (l : List Item) (t : ℕ) (ns : List ℕ) (fs : Fields) → Fits t ns l fs → least l ≤ length (write t l fs)
least_le [] t ns fs f = omega arith
least_le (code w v ∷ l) t ns fs f =
    let i = least_le l t ns fs f.1 in simp (length-append, big_endian_length) (omega arith)
least_le (zeros n q ∷ l) t ns fs f =
    let i = least_le l t ns fs f in let m = length-replicate {A = ℕ} n 0 in simp length-append (omega arith)
least_le (own w ∷ l) t ns fs f =
    let i = least_le l t ns fs f.1 in simp (length-append, big_endian_length) (omega arith)
least_le (count w k ∷ l) t ns fs f =
    let i = least_le l t (ns ++ (length (get_or fs k []) ∷ [])) fs f.1 in simp (length-append, big_endian_length) (omega arith)
least_le (fixed n ∷ l) t ns [] f = absurd f
least_le (fixed n ∷ l) t ns (g ∷ fs) f =
    let i = least_le l t ns fs f.1 in let m = f.0 in simp length-append (omega arith)
least_le (counted c ∷ l) t ns [] f = absurd f
least_le (counted c ∷ l) t ns (g ∷ fs) f = let i = least_le l t ns fs f.1 in simp length-append (omega arith)

-- Parts that all differ from a part have none of its kind.
none_of : (p : Part) (us : List Part) → All (λ u. other_kind u p ≡ true) us → has p.kind us ≡ false
none_of p [] h = refl
none_of p (u ∷ us) h =
    ap₂ (λ (a b : Bool). a || b) (kinds_differ u.kind p.kind (not-true _ h.0)) (none_of p us h.1)

-- Of a list in which any two pass a test: the part after the earlier ones, and the rest with it.
pairwise_at : {A : Type 0} (f : A → A → Bool) (xs : List A) (x : A) (ys : List A) → Pairwise f (xs ++ x ∷ ys) → All (λ y. f y x ≡ true) xs
pairwise_at f [] x ys h = tt
pairwise_at f (y ∷ xs) x ys h = ((all_split (λ z. f y z ≡ true) xs (x ∷ ys) h.0).1.0, pairwise_at f xs x ys h.1)

-- ---- subsections

-- A subsection that is written, keeps its rules and is new in its section is found.
sub_found : (x : Bool) (o : Kind) (before : List Part) (at n : ℕ) (p : Part) (r z : List ℕ) → GoodSub x o p
    → All (λ u. other_kind u p ≡ true) before → size p ≤ n → size p < 256 ^ 2
    → r ≡ write (size p) (layout p.kind) p.fields ++ z → subsection x o before at n r ≡ found p
unfolding subsection
sub_found x o before at n p r z g new ends small e =
    let k : Kind = p.kind in
    let f = part_fits k (size p) p.fields small g.part.fit in
    let i = part_read p (size p) r z f e in
    let framed : Framed true (section_id k) (tag k) (size p) r = subst (λ (y : Bool). Framed y (section_id k) (tag k) (size p) r) g.sub i.0 in
    let told : subsection_kind o (number (bytes_at r 0 2)) ≡ some k =
    ap (subsection_kind o) framed.0 ∙ subsection_kind_told o k g.sub g.owner in
    let long : stated r ≡ size p = framed.2 in
    let lo = least_le (layout k) (size p) [] p.fields f in
    let sz = size_any (layout k) (size p) 0 p.fields in
    let pos = size_pos p in
    let fields : (part_in k r).fields ≡ p.fields = ap (λ (q : Part). q.fields) i.2 in
    let hold : Hold (subsection_checks x k (has k before) n r) = (
      and_join _ _ (le-leb (least (layout k)) (stated r) (omega arith)) (le-leb (stated r) n (omega arith)),
      (
        ap not (none_of p before new),
        (
          framed.1,
          (
            eq-eqb (made_length k r) (stated r) (i.3 ∙ sym long),
            hold_join (zero_checks r (body_slots k r)) (located (slots [] (layout k) r 0) (checks x k (part_in k r).fields)) i.1 (kept_located (slots [] (layout k) r 0) (checks x k (part_in k r).fields) (rw fields g.part.kept)),
          ),
        ),
      ),
    ) in
    need_passed (leb 4 n) (fault 12 at at) _ (le-leb 4 n (omega arith))
    ∙ ap (λ (m : Option Kind). elim m as (λ y. Outcome Part) [ none ↦ refused (fault 13 at at) | some j ↦ tested at (subsection_checks x j (has j before) n r) (found (part_in j r)) ]) told
    ∙ tests_lead at (subsection_checks x k (has k before) n r) (found (part_in k r)) hold
    ∙ ap {B = Outcome Part} found i.2

-- A turn of the loop over subsections.
subs_turn : (d : ℕ) (x : Bool) (o : Kind) (before : List Part) (at n : ℕ) (r : List ℕ) → 0 < n
    → subsections (suc d) x o before at n r
    ≡ and_then (subsection x o before at n r) (λ p. subsections d x o (before ++ p ∷ []) (at + stated r) (n - stated r) (drop (stated r) r))
unfolding subsections
subs_turn d x o before at zero r h = absurd (omega arith)
subs_turn d x o before at (suc m) r h = refl

-- The loop ends where no byte is left.
subs_end : (d : ℕ) (x : Bool) (o : Kind) (before : List Part) (at : ℕ) (r : List ℕ) → subsections (suc d) x o before at 0 r ≡ found before
unfolding subsections
subs_end d x o before at r = refl

-- A written part states its length.
framed_stated : (b : Bool) (i g t : ℕ) (r : List ℕ) → Framed b i g t r → stated r ≡ t
framed_stated false i g t r f = f.2
framed_stated true i g t r f = f.2

pub part_stated : (p : Part) (t : ℕ) (r z : List ℕ) → t < 256 ^ 2 → fits [] (layout p.kind) p.fields ≡ true
    → r ≡ write t (layout p.kind) p.fields ++ z → stated r ≡ t
part_stated p t r z h f e =
    framed_stated (is_subsection p.kind) (section_id p.kind) (tag p.kind) t r
    (part_read p t r z (part_fits p.kind t p.fields h f) e).0

-- Subsections that are written and keep their rules are found, after the earlier ones.
subs_found : (d : ℕ) (x : Bool) (o : Kind) (before : List Part) (at : ℕ) (us : List Part) (z : List ℕ)
    → length (write_parts us) < d → length (write_parts us) < 256 ^ 2 → All (GoodSub x o) us → Pairwise other_kind (before ++ us)
    → subsections d x o before at (length (write_parts us)) (write_parts us ++ z) ≡ found (before ++ us)
subs_found zero x o before at us z h small g w = absurd (omega arith)
subs_found (suc d) x o before at [] z h small g w =
    subs_end d x o before at z ∙ ap {B = Outcome (List Part)} found (sym (append-nil before))
subs_found (suc d) x o before at (u ∷ us) z h small g w =
    let a : List ℕ = write (size u) (layout u.kind) u.fields in
    let r : List ℕ = write_parts (u ∷ us) ++ z in
    let n : ℕ = length (write_parts (u ∷ us)) in
    let sp = span_sub u us g.0.sub in
    let form : write_parts (u ∷ us) ≡ a ++ write_parts us = ap (λ (t : ℕ). write t (layout u.kind) u.fields ++ write_parts us) sp in
    let e : r ≡ a ++ (write_parts us ++ z) = ap (λ (y : List ℕ). y ++ z) form ∙ append_assoc a (write_parts us) z in
    let la : length a ≡ size u = size_any (layout u.kind) (size u) 0 u.fields in
    let ln : n ≡ length a + length (write_parts us) = ap length form ∙ length-append a (write_parts us) in
    let pos = size_pos u in
    let s = sub_found x o before at n u r (write_parts us ++ z) g.0 (pairwise_at other_kind before u us w) (omega arith) (omega arith) e in
    let st : stated r ≡ size u = part_stated u (size u) r (write_parts us ++ z) (omega arith) g.0.part.fit e in
    let left : n - stated r ≡ length (write_parts us) = omega arith in
    let rest : drop (stated r) r ≡ write_parts us ++ z =
    ap₂ (λ (k : ℕ) (y : List ℕ). drop k y) st e ∙ drop_at a (write_parts us ++ z) (size u) la in
    let w' : Pairwise other_kind ((before ++ u ∷ []) ++ us) = rw (append_assoc before (u ∷ []) us) w in
    subs_turn d x o before at n r (omega arith)
    ∙ then_found _ s
    ∙ ap₂ (λ (k : ℕ) (y : List ℕ). subsections d x o (before ++ u ∷ []) (at + stated r) k y) left rest
    ∙ subs_found d x o (before ++ u ∷ []) (at + stated r) us z (omega arith) (omega arith) g.1 w'
    ∙ ap {B = Outcome (List Part)} found (append_assoc before (u ∷ []) us)

-- ---- sections

-- Only sections 12 and 14 have subsections.
abbrev owning : ℕ → Bool
owning i = eqb i 0x12 || eqb i 0x14

pub owner_holds : (u k : Kind) → is_subsection u ≡ true → section_id u ≡ section_id k → is_subsection k ≡ false → holds_subs k ≡ true
owner_holds u k a e f =
    let i = or_else _ _ (every_kind (λ j. not (is_subsection j) || owning (section_id j)) refl u) (ap not a) in
    let o = or_else _ _ (every_kind (λ j. is_subsection j || (not (owning (section_id j)) || holds_subs j)) refl k) f in
    or_else _ _ o (ap (λ (n : ℕ). not (owning n)) (sym e) ∙ ap not i)

-- The rule on two sections, by cases.
pub may_kinds : (v w y : Bool) → (not v || (w && not y)) ≡ true → w ≡ false → v ≡ false
may_kinds false w y e f = refl
may_kinds true true y e f = f
may_kinds true false y e f = sym e

may_ids : (v w y : Bool) → (not v || (w && not y)) ≡ true → v ≡ true → y ≡ false
may_ids v w false e f = refl
may_ids true true true e f = sym e
may_ids true false true e f = sym e
may_ids false w true e f = absurd (let z : ◌≡◌ {A = ℕ} 0 1 = cc in omega arith)

-- A section that is no rule, and may stand after all earlier ones, has none of its kind among them.
none_before : (s : Section) (bs : List Section) → same_kind rule s.head.kind ≡ false → All (λ b. may_both_stand b s ≡ true) bs
    → kind_before s.head.kind bs ≡ false
none_before s [] r g = refl
none_before s (b ∷ bs) r g =
    ap₂ (λ (v w : Bool). v || w) (kinds_differ b.head.kind s.head.kind (apart (same_kind b.head.kind s.head.kind) refl)) (none_before s bs r g.1)
  where
    apart : (v : Bool) → same_kind b.head.kind s.head.kind ≡ v → same_kind b.head.kind s.head.kind ≡ false
    apart false q = q
    apart true q =
        may_kinds (same_kind b.head.kind s.head.kind) (same_kind rule b.head.kind) (same_rule_id b.head s.head) g.0
        (ap (same_kind rule) (same_kind_eq b.head.kind s.head.kind q) ∙ r)

kind_new : (s : Section) (before : List Section) → All (λ b. may_both_stand b s ≡ true) before
    → (same_kind rule s.head.kind || not (kind_before s.head.kind before)) ≡ true
kind_new s before h = go (same_kind rule s.head.kind) refl
  where
    go : (v : Bool) → same_kind rule s.head.kind ≡ v → (same_kind rule s.head.kind || not (kind_before s.head.kind before)) ≡ true
    go true q = or_left _ _ q
    go false q = or_right (same_kind rule s.head.kind) _ (ap not (none_before s before q h))

-- A rule that may stand after all earlier sections has a Rule ID of its own.
no_rule_before : (s : Section) (bs : List Section) → same_kind rule s.head.kind ≡ true → All (λ b. may_both_stand b s ≡ true) bs
    → rule_before s.head bs ≡ false
no_rule_before s [] r g = refl
no_rule_before s (b ∷ bs) r g =
    ap₂ (λ (v w : Bool). v || w) (apart (same_kind rule b.head.kind) refl) (no_rule_before s bs r g.1)
  where
    apart : (v : Bool) → same_kind rule b.head.kind ≡ v → (same_kind rule b.head.kind && same_rule_id s.head b.head) ≡ false
    apart false q = ap (λ (w : Bool). w && same_rule_id s.head b.head) q
    apart true q =
        let same : same_kind b.head.kind s.head.kind ≡ true =
        subst (λ (j : Kind). same_kind j s.head.kind ≡ true) (same_kind_eq rule b.head.kind q) r in
        ap (λ (w : Bool). w && same_rule_id s.head b.head) q
        ∙ same_sym _ _
        ∙ may_ids (same_kind b.head.kind s.head.kind) (same_kind rule b.head.kind) (same_rule_id b.head s.head) g.0 same

rule_new : (s : Section) (before : List Section) → All (λ b. may_both_stand b s ≡ true) before
    → not (same_kind rule s.head.kind && rule_before s.head before) ≡ true
rule_new s before h = go (same_kind rule s.head.kind) refl
  where
    go : (v : Bool) → same_kind rule s.head.kind ≡ v → not (same_kind rule s.head.kind && rule_before s.head before) ≡ true
    go false q = ap (λ (w : Bool). not (w && rule_before s.head before)) q
    go true q = ap₂ (λ (v w : Bool). not (v && w)) q (no_rule_before s before q h)

-- The inner lengths make the section's: it has subsections, or its own fields are all of it.
made_whole : (x : Bool) (k : Kind) (us : List Part) (m n t : ℕ) → is_subsection k ≡ false → All (GoodSub x k) us → m ≡ n
    → t ≡ n + subsections_length us → (holds_subs k || eqb m t) ≡ true
made_whole x k [] m n t f g a b = or_right (holds_subs k) _ (eq-eqb m t (omega arith))
made_whole x k (u ∷ us) m n t f g a b = or_left _ _ (owner_holds u.kind k g.0.sub g.0.owner f)

-- A section that is written, keeps its rules and may stand after the earlier ones is found.
pub section_found : (full x : Bool) (before : List Section) (at : ℕ) (s : Section) (r z : List ℕ) → GoodSection full x s
    → All (λ b. may_both_stand b s ≡ true) before → length (write_parts (s.head ∷ s.subs)) < 256 ^ 2
    → r ≡ write_parts (s.head ∷ s.subs) ++ z
    → (section full x before at r ≡ found s) × (stated r ≡ length (write_parts (s.head ∷ s.subs)))
unfolding section section_rest after_subsections
section_found full x before at s r z g new small e =
    let p : Part = s.head in
    let us : List Part = s.subs in
    let k : Kind = p.kind in
    let t : ℕ = span p us in
    let a : List ℕ = write t (layout k) p.fields in
    let form : r ≡ a ++ (write_parts us ++ z) = e ∙ append_assoc a (write_parts us) z in
    let la : length a ≡ size p = size_any (layout k) t 0 p.fields in
    let ln : length (write_parts (p ∷ us)) ≡ length a + length (write_parts us) = length-append a (write_parts us) in
    let lt : t ≡ size p + subsections_length us = span_section p us g.head in
    let lu = subs_long us (subs_of_is x k us g.subs) in
    let f = part_fits k t p.fields (omega arith) g.part.fit in
    let i = part_read p t r (write_parts us ++ z) f form in
    let framed : Framed false (section_id k) (tag k) t r = subst (λ (y : Bool). Framed y (section_id k) (tag k) t r) g.head i.0 in
    let told : section_kind (id_of r) ≡ some k = ap section_kind framed.0 ∙ section_kind_told k g.head in
    let st : stated r ≡ t = framed.2 in
    let lo = least_le (layout k) t [] p.fields f in
    let lr : length r ≡ length a + length (write_parts us ++ z) = ap length form ∙ length-append a (write_parts us ++ z) in
    let lz = length-append (write_parts us) z in
    let fields : (part_in k r).fields ≡ p.fields = ap (λ (q : Part). q.fields) i.2 in
    let hold : Hold (section_checks x k (kind_before k before) (rule_before (part_in k r) before) r) = (
      framed.1,
      (
        and_join _ _ (le-leb (least (layout k)) (stated r) (omega arith)) (le-leb (stated r) (length r) (omega arith)),
        (
          kind_new s before new,
          (
            made_whole x k us (made_length k r) (size p) (stated r) g.head g.subs i.3 (st ∙ lt),
            hold_join (field_checks x k r) _
                (hold_join (zero_checks r (body_slots k r)) (located (slots [] (layout k) r 0) (checks x k (part_in k r).fields)) i.1 (kept_located (slots [] (layout k) r 0) (checks x k (part_in k r).fields) (rw fields g.part.kept)))
                (ap (λ (q : Part). not (same_kind rule k && rule_before q before)) i.2 ∙ rule_new s before new, tt),
          ),
        ),
      ),
    ) in
    let left : stated r - made_length k r ≡ length (write_parts us) = (let m = i.3 in omega arith) in
    let rest : drop (made_length k r) r ≡ write_parts us ++ z =
    ap₂ (λ (n : ℕ) (y : List ℕ). drop n y) i.3 form ∙ drop_at a (write_parts us ++ z) (size p) la in
    let subs = ap₂ (λ (n : ℕ) (y : List ℕ). subsections (suc (stated r)) x k [] (at + made_length k r) n y) left rest
    ∙ subs_found (suc (stated r)) x k [] (at + made_length k r) us z (omega arith) (omega arith) g.subs g.tags in (
      need_passed (leb 4 (length r)) (fault 6 at at) _ (le-leb 4 (length r) (let q = size_pos p in omega arith))
          ∙ ap (λ (m : Option Kind). elim m as (λ y. Outcome Section) [ none ↦ refused (fault 7 at at) | some j ↦ tested at (section_checks x j (kind_before j before) (rule_before (part_in j r) before) r) (section_rest full x j at r) ]) told
          ∙ tests_lead at (section_checks x k (kind_before k before) (rule_before (part_in k r) before) r) _ hold
          ∙ then_found _ subs
          ∙ ap (λ (q : Part). after_subsections full at (at + made_length k r) (record { head = q; subs = us })) i.2
          ∙ need_passed (mask_covers us) _ _ g.masks
          ∙ need_passed (not full || has_required s) _ _ g.required,
      st ∙ omega arith,
    )

-- The bytes of a section and of those after it.
section_apart : (full x : Bool) (s : Section) (ss : List Section) → GoodSection full x s → All (GoodSection full x) ss
    → write_parts (parts_of (s ∷ ss)) ≡ write_parts (s.head ∷ s.subs) ++ write_parts (parts_of ss)
section_apart full x s [] g h =
    ap write_parts (append-nil (s.head ∷ s.subs)) ∙ sym (append-nil (write_parts (s.head ∷ s.subs)))
section_apart full x s (q ∷ ss) g h = parts_then_section (s.head ∷ s.subs) q.head (q.subs ++ parts_of ss) h.0.head

-- A turn of the loop over sections.
sections_turn : (d : ℕ) (full x : Bool) (before : List Section) (at : ℕ) (r : List ℕ) → 0 < length r
    → sections (suc d) full x before at r
    ≡ and_then (section full x before at r) (λ s. sections d full x (before ++ s ∷ []) (at + stated r) (drop (stated r) r))
unfolding sections
sections_turn d full x before at [] h = absurd (omega arith)
sections_turn d full x before at (b ∷ bs) h = refl

-- The loop ends where no byte is left.
sections_end_is : (d : ℕ) (full x : Bool) (before : List Section) (at : ℕ)
    → sections (suc d) full x before at [] ≡ need (not full || kind_before information before) (fault 20 at at) (found before)
unfolding sections
sections_end_is d full x before at = refl

-- Sections that are written and keep their rules are found, after the earlier ones.
pub sections_found : (d : ℕ) (full x : Bool) (before : List Section) (at : ℕ) (ss : List Section)
    → length (write_parts (parts_of ss)) < d → length (write_parts (parts_of ss)) < 256 ^ 2 → All (GoodSection full x) ss
    → Pairwise may_both_stand (before ++ ss) → (not full || kind_before information (before ++ ss)) ≡ true
    → sections d full x before at (write_parts (parts_of ss)) ≡ found (before ++ ss)
sections_found zero full x before at ss h small g w i = absurd (omega arith)
sections_found (suc d) full x before at [] h small g w i =
    let e : before ++ [] ≡ before = append-nil before in
    sections_end_is d full x before at
    ∙ need_passed _ (fault 20 at at) (found before) (rw e at i)
    ∙ ap {B = Outcome (List Section)} found (sym e)
sections_found (suc d) full x before at (s ∷ ss) h small g w i =
    let a : List ℕ = write_parts (s.head ∷ s.subs) in
    let r : List ℕ = write_parts (parts_of (s ∷ ss)) in
    let form : r ≡ a ++ write_parts (parts_of ss) = section_apart full x s ss g.0 g.1 in
    let lr : length r ≡ length a + length (write_parts (parts_of ss)) = ap length form ∙ length-append a (write_parts (parts_of ss)) in
    let la = length-append (write (span s.head s.subs) (layout s.head.kind) s.head.fields) (write_parts s.subs) in
    let sz = size_any (layout s.head.kind) (span s.head s.subs) 0 s.head.fields in
    let pos = size_pos s.head in
    let f = section_found full x before at s r (write_parts (parts_of ss)) g.0 (pairwise_at may_both_stand before s ss w) (omega arith) form in
    let rest : drop (stated r) r ≡ write_parts (parts_of ss) =
    ap₂ (λ (n : ℕ) (y : List ℕ). drop n y) f.1 form ∙ drop_at a (write_parts (parts_of ss)) (length a) refl in
    let e : (before ++ s ∷ []) ++ ss ≡ before ++ s ∷ ss = append_assoc before (s ∷ []) ss in
    sections_turn d full x before at r (omega arith)
    ∙ then_found _ f.0
    ∙ ap (λ (y : List ℕ). sections d full x (before ++ s ∷ []) (at + stated r) y) rest
    ∙ sections_found d full x (before ++ s ∷ []) (at + stated r) ss (omega arith) (omega arith) g.1 (rw e w) (rw e i)
    ∙ ap {B = Outcome (List Section)} found e
