-- Where the longer draft is refused after the head of its last section, the draft reads up to that section: what is left of
-- its reading is that section, read alone. Assumes nothing.
use mathlib.Core.Path.{◌≡◌, refl, sym, ap, ap₂, ◌∙◌, subst}
use mathlib.Core.Bool.{Bool, true, false, not, ◌&&◌, ◌||◌, and-false}
use mathlib.Core.List.{List, [], ◌∷◌, ◌++◌}
use mathlib.Core.Option.{some}
use mathlib.Core.Logic.{⊎_elim}
use Prim.Native.Nat.{ℕ, suc, ◌+◌, ◌-◌, ◌≤◌, ◌<◌}
use native.Mathlib.Omega.{arith}
use lib.Dec.{eqb}
use lib.ListN.{length, take, drop, length-append, length-drop}
use lib.Seq.{take_all, take-append-le, drop-append-le, length-take-le}
use borrow.Author.Tests.{le-leb, eqb-true}
use Rattle.format.specs.Bytes.{Bytes, bytes_at, all_zero}
use Rattle.format.specs.Parts.{Kind, rule, information, layout, same_kind, Part, external}
use Rattle.format.specs.Rules.{longest, check, checks, Section}
use Rattle.format.specs.Reading.{Fault, Outcome, refused, found, and_then, id_of, stated, section_kind, part_in, part_slots, Test, located, kind_before, rule_before, field_checks, holds_subs, section_checks, section_rest, section, header_checks, reading}
use Rattle.format.specs.Writer.{write_answer, draft_after}
use Rattle.format.specs.Layout.{Fields}
use Rattle.format.specs.Answers.{Refused}
use Rattle.format.specs.Slots.{least}
use Rattle.format.proofs.Tests.{Hold, Kept, refused_not, tests_lead, hold_split, hold_join}
use Rattle.format.proofs.Offsets.{Inner, fields_inner}
use Rattle.format.proofs.Changes.{restate}
use Rattle.format.proofs.Numbers.{bytes_take, bytes_drop}
use Rattle.format.proofs.Grouping.{all_join}
use Rattle.format.proofs.Finding.{and_join, or_left, or_right, every_kind}
use Rattle.format.proofs.Numbering.{low, inner_low}
use Rattle.format.proofs.Sound.{fixed_made}
use Rattle.format.proofs.Turns.{sections_from, sections_from_is}
use Rattle.read_token.proofs.Headers.{lengths}
use Rattle.write_last_part.specs.Tiling.{LastAt}
use Rattle.write_last_part.proofs.Tiling.{passed, passed_then}
use Rattle.write_appended_part.specs.Appended.{grown, appended}
use Rattle.write_appended_part.proofs.Longer.{restate_long, grown_long}
use Rattle.write_appended_part.proofs.Outcomes.{told_refused}
use Rattle.write_appended_part.proofs.Restating.{behind_restated, restate_id, restate_stated, restate_bytes, id_taken}
use Rattle.write_section.proofs.Calls.{appended_refused}
use Rattle.write_section.proofs.Refusals.{Late, sections_front, tests_late, header_inner}
use Rattle.write_section.proofs.Alone.{known, alone}
use Rattle.write_subsection.specs.LastSection.{moved, holds_subsections, fixed_fields, LastOpen}
use Rattle.write_subsection.proofs.SubsectionFronts.{grown_cut, before_last, last_bytes}
use Rattle.write_subsection.proofs.FixedFields.{fixed_rule, fixed_other}
use Rattle.write_subsection.proofs.Moving.{rest_moved}
use Rattle.write_subsection.proofs.Adding.{last_standing}

-- ---- the head with another length

-- A field of the section, in the longer one.
field_same : (m : ℕ) (z w : List ℕ) (p n : ℕ) → 4 ≤ p → p + n ≤ length z → bytes_at (restate 0 m z ++ w) p n ≡ bytes_at z p n
unfolding bytes_at
field_same m z w p n h k =
    let l = restate_long 0 m z in
    let e = length-drop p z in
    ap (take n) (drop-append-le p (restate 0 m z) w (omega arith) ∙ ap (λ (y : List ℕ). y ++ w) (behind_restated p m z h))
    ∙ take-append-le n (drop p z) w (omega arith)

-- Its version.
version_same : (m : ℕ) (z w : List ℕ) → 4 ≤ length z → bytes_at (restate 0 m z ++ w) 1 1 ≡ bytes_at z 1 1
unfolding bytes_at
version_same m [] w h = absurd (omega arith)
version_same m (a ∷ []) w h = absurd (omega arith)
version_same m (a ∷ b ∷ []) w h = absurd (omega arith)
version_same m (a ∷ b ∷ c ∷ []) w h = absurd (omega arith)
version_same m (a ∷ b ∷ c ∷ e ∷ bs) w h = refl

cons : {a b : List ℕ} {fs gs : Fields} → a ≡ b → fs ≡ gs → (a ∷ fs) ≡ (b ∷ gs)
cons e f = ap₂ (λ (x : List ℕ) (y : Fields). x ∷ y) e f

-- The head's tests pass in the section where they pass in the longer one, if those of its fields do.
same_head : (x : Bool) (k : Kind) (seen : Bool) (ss : List Section) (m : ℕ) (z w : List ℕ) → holds_subs k ≡ true → least (layout k) ≤ length z
    → 4 ≤ length z → stated z ≡ length z
    → (Hold (field_checks x k (restate 0 m z ++ w) ++ located (part_slots k (restate 0 m z ++ w)) (check 0 9 (not (same_kind rule k && rule_before (part_in k (restate 0 m z ++ w)) ss)) ∷ []))
    → Hold (field_checks x k z ++ located (part_slots k z) (check 0 9 (not (same_kind rule k && rule_before (part_in k z) ss)) ∷ [])))
    → Hold (section_checks x k seen (rule_before (part_in k (restate 0 m z ++ w)) ss) (restate 0 m z ++ w))
    → Hold (section_checks x k seen (rule_before (part_in k z) ss) z)
same_head x k seen ss m z w hs l four e fields h = (
  ap all_zero (sym (version_same m z w four)) ∙ h.0,
  (
    and_join _ _ (le-leb (least (layout k)) (stated z) (omega arith)) (le-leb (stated z) (length z) (omega arith)),
    (h.1.1.0, (or_left (holds_subs k) _ hs, fields h.1.1.1.1)),
  ),
)

rule_head : (x seen : Bool) (ss : List Section) (m : ℕ) (z w : List ℕ) → 20 ≤ length z → stated z ≡ length z
    → Hold (section_checks x rule seen (rule_before (part_in rule (restate 0 m z ++ w)) ss) (restate 0 m z ++ w))
    → Hold (section_checks x rule seen (rule_before (part_in rule z) ss) z)
rule_head x seen ss m z w l e =
    let same : part_in rule (restate 0 m z ++ w) ≡ part_in rule z =
    ap (λ (fs : Fields). record { kind = rule; fields = fs })
    (cons (field_same m z w 4 8 (omega arith) (omega arith))
    (cons (field_same m z w 12 4 (omega arith) (omega arith))
    (cons (field_same m z w 16 1 (omega arith) (omega arith))
    (cons (field_same m z w 17 1 (omega arith) (omega arith))
    (cons (field_same m z w 18 1 (omega arith) (omega arith))
    (cons (field_same m z w 19 1 (omega arith) (omega arith)) refl)))))) in
    same_head x rule seen ss m z w refl (omega arith) (omega arith) e
    (subst (λ (q : Part). Kept (checks x rule q.fields ++ (check 0 9 (not (same_kind rule rule && rule_before q ss)) ∷ []))) same)

information_head : (x seen : Bool) (ss : List Section) (m : ℕ) (z w : List ℕ) → 10 ≤ length z → stated z ≡ length z
    → Hold (section_checks x information seen (rule_before (part_in information (restate 0 m z ++ w)) ss) (restate 0 m z ++ w))
    → Hold (section_checks x information seen (rule_before (part_in information z) ss) z)
information_head x seen ss m z w l e =
    let same : part_in information (restate 0 m z ++ w) ≡ part_in information z =
    ap (λ (fs : Fields). record { kind = information; fields = fs }) (cons (field_same m z w 6 4 (omega arith) (omega arith)) refl) in
    same_head x information seen ss m z w refl (omega arith) (omega arith) e
    (λ h. (
      ap all_zero (sym (field_same m z w 4 2 (omega arith) (omega arith))) ∙ h.0,
      subst (λ (q : Part). Kept (checks x information q.fields ++ (check 0 9 (not (same_kind rule information && rule_before q ss)) ∷ []))) same h.1,
    ))

-- ---- the last section

-- The head of a section passes its tests as the first one too.
first_head : (x : Bool) (k : Kind) (ss : List Section) (z : List ℕ) → Hold (section_checks x k (kind_before k ss) (rule_before (part_in k z) ss) z)
    → Hold (section_checks x k (kind_before k []) (rule_before (part_in k z) []) z)
first_head x k ss z h = (
  h.0,
  (
    h.1.0,
    (
      or_right (same_kind rule k) _ refl,
      (
        h.1.1.1.0,
        hold_join (field_checks x k z) _ (hold_split (field_checks x k z) _ h.1.1.1.1).0 (ap not (and-false (same_kind rule k)), tt),
      ),
    ),
  ),
)

-- What follows a section is put after it, wherever the section was read.
joined : (j : ℕ) (ss : List Section) (o : Outcome Section)
    → and_then (moved j o) (λ s. found (ss ++ s ∷ [])) ≡ and_then (moved j (and_then o (λ s. found (s ∷ [])))) (λ ts. found (ss ++ ts))
unfolding and_then
joined j ss (refused f) = refl
joined j ss (found s) = refl

-- The longer section is refused after its head: the head passes in both, and what is left of the draft is the section itself,
-- read alone.
rest_left : (x : Bool) (k : Kind) (ss : List Section) (at m n : ℕ) (z w : List ℕ) (f : Fault) → 8 ≤ at → 4 ≤ length z → stated z ≡ length z
    → m ≡ length z + length w → m < 65536 → section_kind (id_of z) ≡ some k → Inner n (section_checks x k (kind_before k ss) (rule_before (part_in k (restate 0 m z ++ w)) ss) (restate 0 m z ++ w))
    → (Hold (section_checks x k (kind_before k ss) (rule_before (part_in k (restate 0 m z ++ w)) ss) (restate 0 m z ++ w))
    → Hold (section_checks x k (kind_before k ss) (rule_before (part_in k z) ss) z))
    → sections_from false x ss at (restate 0 m z ++ w) ≡ refused f → at + n ≤ f.place
    → sections_from false x ss at z ≡ and_then (moved (at - 8) (sections_from false x [] 8 z)) (λ ts. found (ss ++ ts))
unfolding and_then
rest_left x k ss at m n z w f eight four same em small kind inner heads e late =
    let r : List ℕ = restate 0 m z ++ w in
    let lr = restate_long 0 m z in
    let la = length-append (restate 0 m z) w in
    let st : stated r ≡ m = restate_stated m z w four small in
    let id : section_kind (id_of r) ≡ some k = ap section_kind (restate_id m z w four) ∙ kind in
    let one : and_then (section false x ss at r) (λ s. found (ss ++ s ∷ [])) ≡ refused f = sym (alone x ss at r (omega arith) (omega arith)) ∙ e in
    let tests = tests_late at n (section_checks x k (kind_before k ss) (rule_before (part_in k r) ss) r) (section_rest false x k at r) f inner
    (sym (known x k ss at r (omega arith) id) ∙ refusal (section false x ss at r) one) in
    let hold = heads (⊎_elim (λ q. absurd (omega arith)) (λ q. q.0) tests) in
    let place : 8 + (at - 8) ≡ at = omega arith in
    let first : sections_from false x [] 8 z ≡ and_then (section_rest false x k 8 z) (λ s. found (s ∷ [])) =
    alone x [] 8 z four same
    ∙ ap (λ (o : Outcome Section). and_then o (λ s. found (s ∷ []))) (known x k [] 8 z four kind ∙ tests_lead 8 _ _ (first_head x k ss z hold)) in
    alone x ss at z four same
    ∙ ap (λ (o : Outcome Section). and_then o (λ s. found (ss ++ s ∷ [])))
    (known x k ss at z four kind
    ∙ tests_lead at _ _ hold
    ∙ ap (λ (q : ℕ). section_rest false x k q z) (sym place)
    ∙ rest_moved (at - 8) false x k 8 z)
    ∙ joined (at - 8) ss (section_rest false x k 8 z)
    ∙ ap (λ (o : Outcome (List Section)). and_then (moved (at - 8) o) (λ ts. found (ss ++ ts))) (sym first)
  where
    inside : {g : Fault} → ◌≡◌ {A = Outcome (List Section)} (refused g) (refused f) → g ≡ f
    inside q = cc

    refusal : (o : Outcome Section) → and_then o (λ s. found (ss ++ s ∷ [])) ≡ refused f → o ≡ refused f
    refusal (refused g) q = ap refused (inside q)
    refusal (found s) q = absurd (refused_not (sym q))

-- The tests of a section that has subsections look at its own fields.
head_inner : (x : Bool) (k : Kind) (seen repeated : Bool) (r : List ℕ) (n : ℕ) → holds_subs k ≡ true → least (layout k) ≡ n
    → Inner n (section_checks x k seen repeated r)
head_inner x k seen repeated r n hs e =
    let f = inner_low (least (layout k)) (take 4 (section_checks x k seen repeated r))
    (every_kind (λ j. low (least (layout j)) (take 4 (section_checks x j seen repeated r))) refl k) in
    let fields = subst (λ (n : ℕ). Inner n (field_checks x k r)) (fixed_made k r hs) (fields_inner x k r) in
    let id = located (part_slots k r) (check 0 9 (not (same_kind rule k && repeated)) ∷ []) in
    let last = inner_low (least (layout k)) id (every_kind (λ j. low (least (layout j)) (located (part_slots j r) (check 0 9 (not (same_kind rule k && repeated)) ∷ []))) refl k) in
    subst (λ (m : ℕ). Inner m (section_checks x k seen repeated r)) e
    (f.0, (f.1.0, (f.1.1.0, (f.1.1.1.0, all_join (λ (c : Test). c.holds ≡ false → c.offset < least (layout k)) (field_checks x k r) id fields last))))

-- What is known of a section z of kind k that has w after it in the longer draft: its kind by its id, that its head's tests
-- look at its first n bytes, and that they pass where the longer one's do.
abbrev Heads : Bool → List Section → ℕ → ℕ → List ℕ → List ℕ → Kind → Type 0
Heads x ss m n z w k =
    (section_kind (id_of z) ≡ some k)
    × Inner n (section_checks x k (kind_before k ss) (rule_before (part_in k (restate 0 m z ++ w)) ss) (restate 0 m z ++ w))
    × (Hold (section_checks x k (kind_before k ss) (rule_before (part_in k (restate 0 m z ++ w)) ss) (restate 0 m z ++ w))
    → Hold (section_checks x k (kind_before k ss) (rule_before (part_in k z) ss) z))

-- The kinds of sections 12 and 14,
abbrev holder_kind : ℕ → Kind
holder_kind i = elim (eqb i 0x12) [ true ↦ rule | false ↦ information ]

-- of which this is known.
holder : (x : Bool) (ss : List Section) (i m : ℕ) (z w : List ℕ) → holds_subsections i ≡ true → id_of z ≡ i → fixed_fields i ≤ length z → stated z ≡ length z
    → Heads x ss m (fixed_fields i) z w (holder_kind i)
holder x ss i m z w hs id l e = go (eqb i 0x12) refl
  where
    go : (b : Bool) → eqb i 0x12 ≡ b → Heads x ss m (fixed_fields i) z w (elim b as (λ v. Kind) [ true ↦ rule | false ↦ information ])
    go true q =
        let n = eqb-true i 0x12 q in
        let k = fixed_rule n in
        (ap section_kind (id ∙ n), head_inner x rule (kind_before rule ss) (rule_before (part_in rule (restate 0 m z ++ w)) ss) (restate 0 m z ++ w) (fixed_fields i) refl k, rule_head x (kind_before rule ss) ss m z w (omega arith) e)
    go false q =
        let n = eqb-true i 0x14 (sym (ap (λ (v : Bool). v || eqb i 0x14) q) ∙ hs) in
        let k : 10 ≡ fixed_fields i = fixed_other (λ (y : i ≡ 0x12). omega arith) in
        (ap section_kind (id ∙ n), head_inner x information (kind_before information ss) (rule_before (part_in information (restate 0 m z ++ w)) ss) (restate 0 m z ++ w) (fixed_fields i) refl k, information_head x (kind_before information ss) ss m z w (omega arith) e)

-- ---- the draft

-- What is left of the draft's reading is its last section, read alone.
last_left : (d w : List ℕ) (o i : ℕ) (f : Fault) → Bytes d → Bytes w → Hold (header_checks false d) → stated d + length w ≤ longest
    → LastAt (take (stated d) d) 8 o → id_of (drop o d) ≡ i → holds_subsections i ≡ true → o + fixed_fields i ≤ stated d
    → reading false (grown d o w) ≡ refused f → o + fixed_fields i ≤ f.place
    → (ss : List Section) × (reading false d ≡ and_then (moved (o - 8) (sections_from false (external (id_of d)) [] 8 (drop o (take (stated d) d)))) (λ ts. found (ss ++ ts)))
unfolding reading
last_left d w o i f b c h most la id hs fx e late =
    let D : List ℕ = take (stated d) d in
    let z : List ℕ = drop o D in
    let n : ℕ = stated d + length w in
    let m : ℕ = stated (drop o d) + length w in
    let g : List ℕ = grown d o w in
    let Y : List ℕ = restate 0 m z ++ w in
    let x : Bool = external (id_of d) in
    let k = lengths false d h in
    let front = la.front in
    let t = la.tiled in
    let v = last_bytes d o k.within la in
    let long = v.long in
    let four = v.four in
    let states = v.states in
    let same = v.same in
    let ld = length-take-le (stated d) d k.within in
    let lo = length-take-le o D (omega arith) in
    let lg = grown_long d o w (last_standing d o h la) in
    let cut = grown_cut d w o front (omega arith) k.within in
    let idg : id_of g ≡ id_of d = ap id_of cut ∙ restate_id n (take o D) Y (omega arith) ∙ id_taken D o (omega arith) ∙ id_taken d (stated d) (omega arith) in
    let st : stated g ≡ n = ap stated cut ∙ restate_stated n (take o D) Y (omega arith) (omega arith) in
    let lt = restate_long 0 n (take o D) in
    let before = before_last D o (passed t) front (omega arith) (passed_then t) in
    let lb = ap length before in
    let l8 = length-drop 8 (take o D) in
    let place : 8 + length (passed t) ≡ o = omega arith in
    let body : drop 8 (take (stated g) g) ≡ passed t ++ Y =
    ap (drop 8) (take_all (stated g) g (omega arith) ∙ cut)
    ∙ drop-append-le 8 (restate 0 n (take o D)) Y (omega arith)
    ∙ ap (λ (y : List ℕ). y ++ Y) (behind_restated 8 n (take o D) (omega arith) ∙ before) in
    let lbody = ap length body in
    let ly = length-append (passed t) Y in
    let lz = restate_long 0 m z in
    let lw = length-append (restate 0 m z) w in
    ⊎_elim
    (λ q. absurd (omega arith))
    (λ q.
    let from : sections_from false x [] 8 (passed t ++ Y) ≡ refused f =
    sym (sections_from_is (suc (stated g)) false (external (id_of g)) [] 8 (drop 8 (take (stated g) g)) (omega arith)
    ∙ ap₂ (λ (j : ℕ) (y : List ℕ). sections_from false (external j) [] 8 y) idg body)
    ∙ q.1 in
    let b_d = bytes_take (stated d) d b in
    let by = all_join (λ (y : ℕ). y < 256) (passed t) Y
    (subst Bytes before (bytes_drop 8 (take o D) (bytes_take o D b_d)))
    (all_join (λ (y : ℕ). y < 256) (restate 0 m z) w (restate_bytes 0 m z (bytes_drop o D b_d)) c) in
    let r = sections_front x Y t [] 8 by (omega arith) (subst (Late (8 + length (passed t))) (sym from) (omega arith)) in
    let hold = holder x r.0 i m z w hs (v.id ∙ id) (omega arith) states in
    let rest = rest_left x (holder_kind i) r.0 (8 + length (passed t)) m (fixed_fields i) z w f (omega arith) four states (omega arith) (omega arith) hold.0 hold.1 hold.2
    (sym (r.1 Y) ∙ from) (omega arith) in (
      r.0,
      tests_lead 0 (header_checks false d) _ h
          ∙ sections_from_is (suc (stated d)) false x [] 8 (drop 8 D) (let l = length-drop 8 D in omega arith)
          ∙ ap (sections_from false x [] 8) (passed_then t)
          ∙ r.1 z
          ∙ rest
          ∙ ap (λ (j : ℕ). and_then (moved (j - 8) (sections_from false x [] 8 z)) (λ ts. found (r.0 ++ ts))) place,
    ))
    (tests_late 0 8 (header_checks false g) _ f (header_inner false g) e)

-- ---- what the call finds

module _ (d w : List ℕ) (o first : ℕ) (b : Bytes d) (c : Bytes w) (l : LastOpen d o first) where
  -- The draft after a refusal, as it was, and its bytes.
  same_bytes : {number at n : ℕ} {new : List ℕ} → Refused number at ≡ write_answer (appended d o w) → n ≡ stated d → new ≡ draft_after (appended d o w) d
      → take n new ≡ take (stated d) d
  same_bytes a en s =
      let t = told_refused length (appended d o w) a in
      ap₂ (λ (n : ℕ) (y : List ℕ). take n y) en (s ∙ ap (λ (y : Outcome (List ℕ)). draft_after y d) t.is)

  -- Where the refusal comes after the section's own fields, what is left of the draft's reading is that section, read alone.
  pub left : {number at n : ℕ} {new : List ℕ} → Refused number at ≡ write_answer (appended d o w) → (number ≡ 23 → ⊥) → first ≤ at → n ≡ stated d
      → new ≡ draft_after (appended d o w) d
      → (ss : List Section)
      × (reading false d ≡ and_then (moved (o - 8) (sections_from false (external (id_of (take n new))) [] 8 (drop o (take n new)))) (λ ts. found (ss ++ ts)))
  left {number} {at} {n} {new} a other late en s =
      let f = appended_refused d o w a other in
      let place = f.1.1.1 in
      let ends = l.ends in
      let fixed = l.fixed in
      let r = last_left d w o l.id f.1.0 b c l.header f.0 l.last l.there l.holds (omega arith) f.1.1.0 (omega arith) in
      let k = lengths false d l.header in
      let least = k.least in
      let same = same_bytes a en s in
      let id : id_of (take n new) ≡ id_of d = ap id_of same ∙ id_taken d (stated d) (omega arith) in (
        r.0,
        r.1
            ∙ ap₂ (λ (j : ℕ) (y : List ℕ). and_then (moved (o - 8) (sections_from false (external j) [] 8 (drop o y))) (λ ts. found (r.0 ++ ts))) (sym id) (sym same),
      )
