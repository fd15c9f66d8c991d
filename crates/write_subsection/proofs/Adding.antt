-- An addition of a subsection that reads the longer draft first is the addition of the definition. Assumes nothing.
use mathlib.Core.Path.{◌≡◌, refl, sym, ap, ◌∙◌, subst}
use mathlib.Core.Bool.{Bool, true, false}
use mathlib.Core.List.{List, [], ◌∷◌}
use mathlib.Core.Logic.{inr}
use Prim.Native.Nat.{ℕ, ◌+◌, ◌≤◌, ◌<◌}
use native.Mathlib.Omega.{arith}
use lib.Dec.{eqb}
use lib.ListN.{length, get_or, take, drop, length-append, length-drop}
use lib.Seq.{drop_at, drop-drop, length-take-le}
use borrow.Author.Tests.{eq-eqb, ne_eqb}
use Rattle.format.specs.Bytes.{All, Bytes}
use Rattle.format.specs.Layout.{write}
use Rattle.format.specs.Parts.{Kind, section_id, layout, span, write_parts, external}
use Rattle.format.specs.Rules.{Section}
use Rattle.format.specs.Reading.{refused, found, fault, id_of, stated, header_checks, reading}
use Rattle.format.proofs.Tests.{Hold, need_passed, need_failed}
use Rattle.format.proofs.Turns.{then_same}
use Rattle.format.proofs.Unique.{size_any}
use Rattle.format.proofs.Grouping.{Grouped, all_split, all_map}
use Rattle.format.proofs.Sound.{GoodPart, GoodSub, GoodSection, subs_of_is}
use Rattle.format.proofs.Flat.{grouped}
use Rattle.format.proofs.Accepted.{reading_sound}
use Rattle.read_token.proofs.Headers.{lengths}
use Rattle.write_last_part.specs.Tiling.{Tiled, LastAt}
use Rattle.write_last_part.proofs.Tiling.{laid, laid_tiled, id_at_is}
use Rattle.write_last_part.proofs.LaidSections.{Laid, last_read, section_bytes, sub_bytes, subs_laid, subs_state, draft_laid, section_id_is}
use Rattle.write_appended_part.specs.Appended.{Standing, appended}
use Rattle.write_section.specs.Adding.{last_place, refused_after, own_first, subsection_added}
use Rattle.write_section.proofs.Calls.{own_first_is, appended_passed}
use Rattle.write_section.proofs.Additions.{last_behind, id_known}
use Rattle.write_subsection.specs.LastSection.{holds_subsections, fixed_fields}
use Rattle.write_subsection.proofs.SubsectionFronts.{sub_front, last_bytes}
use Rattle.write_subsection.proofs.FixedFields.{head_fixed, holds_small}

-- The last section that is read is the one that the walk found.
last_place_is : (d : List ℕ) (ss : List Section) (o : ℕ) → Bytes d → reading false d ≡ found ss → LastAt (take (stated d) d) 8 o → last_place 0 8 ss ≡ o
last_place_is d ss o b e w =
    let l = last_read d ss o b e w in
    let x : Bool = external (id_of d) in
    let r = reading_sound false d ss b e in
    let g = grouped false x ss r.good.each in
    let gs = all_split Grouped l.before (l.last ∷ []) (subst (All Grouped) l.whole g) in
    ap (last_place 0 8) l.whole ∙ last_behind 0 [] l.before l.last gs.0 ∙ l.place

-- 25: it has another id.
pub other_last : (d w : List ℕ) (o i : ℕ) → Bytes d → LastAt (take (stated d) d) 8 o → o < length d → (get_or d o 0 ≡ i → ⊥)
    → refused_after d 25 (stated d) ≡ subsection_added i d w
unfolding subsection_added
other_last d w o i b la h n =
    then_same (reading false d) _ _
    (λ ss e.
    sym (need_failed _ _ _
    (ap (λ (k : ℕ). eqb (id_of (drop k d)) i) (last_place_is d ss o b e la) ∙ ne_eqb (id_of (drop o d)) i (λ q. n (sym (id_at_is d o h) ∙ q)))))

-- A draft of a header alone has no sections.
empty : (d : List ℕ) (ss : List Section) → Bytes d → reading false d ≡ found ss → stated d ≡ 8 → ss ≡ []
empty d ss b e s = go ss (draft_laid d ss b e)
  where
    go : (ts : List Section) → Laid d ts → ts ≡ []
    go [] w = refl
    go (t ∷ ts) w =
        absurd
        (let n = ap length w.bytes in
        let m = length-append (section_bytes t) (laid section_bytes ts) in
        let four = w.states.0.four in
        let l = length-drop 8 (take (stated d) d) in
        let q = length-take-le (stated d) d (reading_sound false d ss b e).ends in
        omega arith)

-- 25: there is none.
pub none_last : (d w : List ℕ) (i : ℕ) → Bytes d → Hold (header_checks false d) → stated d ≡ 8 → holds_subsections i ≡ true
    → refused_after d 25 8 ≡ subsection_added i d w
unfolding subsection_added
none_last d w i b h s hs =
    then_same (reading false d) _ _
    (λ ss e.
    ap (λ (n : ℕ). refused (fault 25 n n)) (sym s)
    ∙ sym (need_failed _ _ _ (ap (λ (y : List Section). eqb (id_of (drop (last_place 0 8 y) d)) i) (empty d ss b e s) ∙ apart)))
  where
    apart : eqb (id_of d) i ≡ false
    apart =
        let k = id_known (id_of d) h.1.0 in
        let j = holds_small i hs in
        ne_eqb (id_of d) i (λ q. omega arith)

-- Where the draft reads and its last section has the id, that section's fixed fields are there and its subsections are tiled.
pub last_subs : (d : List ℕ) (ss : List Section) (o i : ℕ) → Bytes d → reading false d ≡ found ss → LastAt (take (stated d) d) 8 o
    → id_of (drop o d) ≡ i → holds_subsections i ≡ true
    → (o + fixed_fields i ≤ stated d) × Tiled (drop (o + fixed_fields i) (take (stated d) d))
last_subs d ss o i b e la id hs =
    let D : List ℕ = take (stated d) d in
    let x : Bool = external (id_of d) in
    let f : ℕ = fixed_fields i in
    let l = last_read d ss o b e la in
    let r = reading_sound false d ss b e in
    let g = (all_split (GoodSection false x) l.before (l.last ∷ []) (subst (All (GoodSection false x)) l.whole r.good.each)).1.0 in
    let v = last_bytes d o r.ends la in
    let t : Section = l.last in
    let k : Kind = t.head.kind in
    let same : section_id k ≡ i = sym (section_id_is x t g) ∙ sym (ap id_of l.bytes) ∙ v.id ∙ id in
    let S : List ℕ = write (span t.head t.subs) (layout k) t.head.fields in
    let ls : length S ≡ f =
    size_any (layout k) (span t.head t.subs) 0 t.head.fields ∙ head_fixed t.head i g.head g.part.fit same hs in
    let lt = length-append S (write_parts t.subs) in
    let lb = ap length l.bytes in
    let long = v.long in
    let most = r.most in
    let subs = subs_of_is x k t.subs g.subs in
    let rest : drop (o + f) D ≡ laid sub_bytes t.subs =
    sym (drop-drop f o D) ∙ ap (drop f) l.bytes ∙ drop_at S (write_parts t.subs) f ls ∙ subs_laid t.subs subs in
    let ll = ap length (subs_laid t.subs subs) in
    let states = subs_state x t.subs (all_map (GoodSub x k) (GoodPart x) (λ p q. q.part) t.subs g.subs) (omega arith) in
    (omega arith, laid_tiled sub_bytes t.subs (drop (o + f) D) states rest)

pub sub_tried : (d w : List ℕ) (o i : ℕ) → Bytes d → Bytes w → Hold (header_checks false d) → LastAt (take (stated d) d) 8 o → o < length d
    → get_or d o 0 ≡ i → holds_subsections i ≡ true → o + fixed_fields i ≤ stated d → Tiled (drop (o + fixed_fields i) (take (stated d) d))
    → own_first d (appended d o w) ≡ subsection_added i d w
unfolding subsection_added
sub_tried d w o i b c h la l q hs fx u =
    let id : id_of (drop o d) ≡ i = id_at_is d o l ∙ q in
    own_first_is d (appended d o w)
    (λ bs e. let p = appended_passed d o w bs e in sub_front d w p.1.0 o i b c h p.0 la id hs fx u p.1.1)
    ∙ then_same (reading false d) _ _
    (λ ss e.
    let place = last_place_is d ss o b e la in
    sym (need_passed _ _ _ (ap (λ (k : ℕ). eqb (id_of (drop k d)) i) place ∙ eq-eqb (id_of (drop o d)) i id)
    ∙ ap (λ (k : ℕ). appended d k w) place))

-- The last section stands in the draft.
pub last_standing : (d : List ℕ) (o : ℕ) → Hold (header_checks false d) → LastAt (take (stated d) d) 8 o → Standing d o
last_standing d o h la =
    let k = lengths false d h in
    let v = last_bytes d o k.within la in
    let long = v.long in
    let four = v.four in
    let states = v.states in
    let same = v.same in
    record { least = k.least; most = k.most; there = k.within; head = omega arith; ends = omega arith; apart = inr la.front }

-- It begins before the lent bytes end.
pub last_inside : (d : List ℕ) (o : ℕ) → Hold (header_checks false d) → LastAt (take (stated d) d) 8 o → o < length d
last_inside d o h la = let v = last_standing d o h la in let e = v.head in let t = v.there in omega arith
