-- The addition of a kind with its fields is the addition of the bytes that they are written as.
use mathlib.Core.Path.{◌≡◌, refl, sym, ap, ap₂, ◌∙◌, subst}
use mathlib.Core.Bool.{Bool, true, false, ◌&&◌, ◌||◌}
use mathlib.Core.List.{List, [], ◌∷◌, ◌++◌, append_assoc, append-nil}
use mathlib.Core.Logic.{◌⊎◌, inl, inr, ⊎_elim}
use Prim.Native.Nat.{ℕ, ◌+◌, ◌≤◌}
use native.Mathlib.Omega.{arith}
use lib.Dec.{eqb, leb}
use lib.ListN.{length, take, drop}
use borrow.Author.Tests.{eqb-true, ne_eqb}
use Rattle.format.specs.Bytes.{All, Bytes}
use Rattle.format.specs.Layout.{Fields, fits, write}
use Rattle.format.specs.Parts.{Kind, section_id, is_subsection, layout, Part, size, span, joins, external, known_id}
use Rattle.format.specs.Rules.{longest, Section}
use Rattle.format.specs.Reading.{Fault, Outcome, refused, found, fault, need, and_then, id_of, stated, reading, parts_of}
use Rattle.format.specs.Writer.{write_answer, draft_after, longer, addition}
use Rattle.format.specs.Answers.{Answer}
use Rattle.format.proofs.Finding.{section_id_pos}
use Rattle.format.proofs.Unique.{size_any}
use Rattle.format.proofs.Tests.{need_passed, need_failed}
use Rattle.format.proofs.Turns.{then_same}
use Rattle.format.proofs.Grouping.{Grouped, all_split}
use Rattle.format.proofs.Sound.{GoodSection, subs_of_is}
use Rattle.format.proofs.Flat.{grouped, flat_joins}
use Rattle.format.proofs.Accepted.{reading_sound}
use Rattle.format.proofs.Writing.{draft_front, draft_header}
use Rattle.format.proofs.Changes.{restate, sections_end, section_added_is, sub_added}
use Rattle.format.proofs.Additions.{any_draft}
use Rattle.write_appended_part.specs.Appended.{grown, appended}
use Rattle.write_section.specs.Adding.{last_place, unfit, section_added, subsection_added}
use Rattle.write_last_part.proofs.Sections.{id_small, stands_at, place_more}
use Rattle.write_appended_part.proofs.Outcomes.{same_written}
use Rattle.write_appended_part.proofs.Restating.{restate_over}
use Rattle.write_section.proofs.Joining.{section_joins, sub_joins_last, sub_alone}

-- ---- outcomes

-- The same test, and the same after it where it passes.
pub same_need : {A : Type 0} (b c : Bool) (f : Fault) (x y : Outcome A) → b ≡ c → (b ≡ true → x ≡ y) → need b f x ≡ need c f y
unfolding need
same_need true true f x y e h = h refl
same_need true false f x y e h = absurd (let z : ◌≡◌ {A = ℕ} 0 1 = cc in omega arith)
same_need false true f x y e h = absurd (let z : ◌≡◌ {A = ℕ} 0 1 = cc in omega arith)
same_need false false f x y e h = refl

-- What a call that adds bytes promises: the answer r and the draft e that it leaves of the draft d, and that d holds bytes.
abbrev pub Added : Answer → List ℕ → List ℕ → Outcome (List ℕ) → Type 0
Added r e d o = (r ≡ write_answer o) × ((e ≡ draft_after o d) × Bytes d)

-- ---- fields that do not fit

unfit_kept : (d : List ℕ) → draft_after (unfit d) d ≡ d
unfolding unfit and_then
unfit_kept d = go (reading false d)
  where
    go : (o : Outcome (List Section)) → draft_after (and_then o (λ ss. refused (fault 24 (stated d) (stated d)))) d ≡ d
    go (refused f) = refl
    go (found ss) = refl

-- Fields that do not fit: the draft's own fault, else 24, and no byte changes.
pub unfit_added : {r : Answer} (k : Kind) (fs : Fields) (d : List ℕ) → fits [] (layout k) fs ≡ false → r ≡ write_answer (unfit d)
    → (r ≡ write_answer (addition k fs d)) × (d ≡ draft_after (addition k fs d) d)
unfolding addition unfit
unfit_added k fs d f e =
    same_written d (sym (then_same (reading false d) _ _ (λ ss q. need_failed (fits [] (layout k) fs) (fault 24 (stated d) (stated d)) _ f))) e
    (sym (unfit_kept d))

-- ---- the longer draft

-- The part's bytes, with the length that they have.
pub made : (k : Kind) (fs : Fields) (w : List ℕ) (t : ℕ) → w ≡ write t (layout k) fs → t ≡ length w
    → (length w ≡ size (record { kind = k; fields = fs })) × (w ≡ write (size (record { kind = k; fields = fs })) (layout k) fs)
made k fs w t e l =
    let n : length w ≡ size (record { kind = k; fields = fs }) = ap length e ∙ size_any (layout k) t 0 fs in
    (n, e ∙ ap (λ (u : ℕ). write u (layout k) fs) (l ∙ n))

-- The same bytes after 23.
same_appended : (d w g : List ℕ) (o n : ℕ) → length w ≡ n → grown d o w ≡ g
    → need (leb (stated d + n) longest && leb (stated d + n) (length d)) (fault 23 (stated d) (stated d)) (and_then (reading false g) (λ ts. found g))
    ≡ appended d o w
unfolding appended
same_appended d w g o n l e =
    ap₂ (λ (m : ℕ) (y : List ℕ). need (leb (stated d + m) longest && leb (stated d + m) (length d)) (fault 23 (stated d) (stated d)) (and_then (reading false y) (λ ts. found y))) (sym l) (sym e)

-- ---- a section

section_grown : (d : List ℕ) (ss : List Section) (p : Part) (w : List ℕ) → Bytes d → reading false d ≡ found ss
    → is_subsection p.kind ≡ false → length w ≡ size p → w ≡ write (size p) (layout p.kind) p.fields
    → grown d 0 w ≡ longer d ss p
section_grown d ss p w b e s l m =
    let ps : List Part = parts_of ss in
    let x = any_draft d ss b e in
    let st = (draft_header (id_of d) ps d x).1 in
    let front = draft_front (id_of d) ps d x in
    ap₂ (λ (n : ℕ) (y : List ℕ). restate 0 (stated d + n) (restate 0 (stated d + n) (take (stated d) d)) ++ y) l m
    ∙ ap (λ (y : List ℕ). y ++ write (size p) (layout p.kind) p.fields) (restate_over (stated d + size p) (stated d + size p) (take (stated d) d))
    ∙ ap₂ (λ (n : ℕ) (y : List ℕ). restate 0 (n + size p) y ++ write (size p) (layout p.kind) p.fields) st front
    ∙ sym (section_added_is (id_of d) ps p s)

pub section_same : (k : Kind) (fs : Fields) (d w : List ℕ) (t : ℕ) → is_subsection k ≡ false → fits [] (layout k) fs ≡ true
    → w ≡ write t (layout k) fs → t ≡ length w → Bytes d → addition k fs d ≡ section_added d w
unfolding addition section_added
section_same k fs d w t s f m l b =
    then_same (reading false d) _ _
    (λ ss e.
    let p : Part = record { kind = k; fields = fs } in
    let r = reading_sound false d ss b e in
    let j = section_joins 0 (parts_of ss) p (flat_joins false (external (id_of d)) ss r.good.each 0) s in
    let v = made k fs w t m l in
    need_passed (fits [] (layout k) fs) _ _ f
    ∙ need_passed (joins 0 (parts_of ss ++ p ∷ [])) _ _ j
    ∙ same_appended d w (longer d ss p) 0 (size p) v.0 (section_grown d ss p w b e s v.0 v.1))

-- A section whose bytes w are those of its fields, t being the length that they state.
pub section_made : {r : Answer} {e : List ℕ} (k : Kind) (fs : Fields) (d w : List ℕ) (t : ℕ) → is_subsection k ≡ false
    → fits [] (layout k) fs ≡ true → w ≡ write t (layout k) fs → t ≡ length w
    → Added r e d (section_added d w)
    → (r ≡ write_answer (addition k fs d)) × (e ≡ draft_after (addition k fs d) d)
section_made k fs d w t s f m l a = same_written d (sym (section_same k fs d w t s f m l a.1.1)) a.0 a.1.0

-- ---- a subsection

-- The last section stands after the others.
pub last_behind : (a : ℕ) (pre ts : List Section) (t : Section) → All Grouped ts
    → last_place a (sections_end pre) (ts ++ t ∷ []) ≡ sections_end (pre ++ ts)
last_behind a pre [] t g = ap sections_end (sym (append-nil pre))
last_behind a pre (q ∷ ts) t g =
    ap (λ (x : ℕ). last_place (sections_end pre) x (ts ++ t ∷ [])) (sym (place_more pre q g.0))
    ∙ last_behind (sections_end pre) (pre ++ q ∷ []) ts t g.1
    ∙ ap sections_end (append_assoc pre (q ∷ []) ts)

sub_grown : (d : List ℕ) (ts : List Section) (t : Section) (p : Part) (w : List ℕ) → Bytes d → reading false d ≡ found (ts ++ t ∷ [])
    → is_subsection p.kind ≡ true → length w ≡ size p → w ≡ write (size p) (layout p.kind) p.fields
    → grown d (sections_end ts) w ≡ longer d (ts ++ t ∷ []) p
sub_grown d ts t p w b e s l m =
    let ss : List Section = ts ++ t ∷ [] in
    let i : ℕ = id_of d in
    let ps : List Part = parts_of ss in
    let o : ℕ = sections_end ts in
    let r = reading_sound false d ss b e in
    let g = (all_split (GoodSection false (external i)) ts (t ∷ []) r.good.each).1.0 in
    let x = any_draft d ss b e in
    let st = (draft_header i ps d x).1 in
    let front = draft_front i ps d x in
    let last = (stands_at d ts t [] b e).length_there in
    ap₂ (λ (n : ℕ) (y : List ℕ). restate o (stated (drop o d) + n) (restate 0 (stated d + n) (take (stated d) d)) ++ y) l m
    ∙ ap (λ (n : ℕ). restate o (n + size p) (restate 0 (stated d + size p) (take (stated d) d)) ++ write (size p) (layout p.kind) p.fields) last
    ∙ ap₂ (λ (n : ℕ) (y : List ℕ). restate o (span t.head t.subs + size p) (restate 0 (n + size p) y) ++ write (size p) (layout p.kind) p.fields) st front
    ∙ sym (sub_added i ts t p g.head (subs_of_is (external i) t.head.kind t.subs g.subs) s)

-- 25 and what follows it, of the part and of its bytes.
abbrev Same25 : List ℕ → List ℕ → Part → List Section → Type 0
Same25 d w p ss =
    need (joins 0 (parts_of ss ++ p ∷ [])) (fault 25 (stated d) (stated d))
    (need (leb (stated d + size p) longest && leb (stated d + size p) (length d)) (fault 23 (stated d) (stated d))
    (and_then (reading false (longer d ss p)) (λ ts. found (longer d ss p))))
    ≡ need (eqb (id_of (drop (last_place 0 8 ss) d)) (section_id p.kind)) (fault 25 (stated d) (stated d)) (appended d (last_place 0 8 ss) w)

-- A token's id is above every section's.
pub id_known : (i : ℕ) → known_id i ≡ true → 0x1E ≤ i
id_known i k = go (eqb i 0x1E) refl
  where
    go : (v : Bool) → eqb i 0x1E ≡ v → 0x1E ≤ i
    go true q = let x = eqb-true i 0x1E q in omega arith
    go false q = let x = eqb-true i 0x1F (sym (ap (λ (v : Bool). v || eqb i 0x1F) q) ∙ k) in omega arith

-- Without a section both refuse: the header's id is no section's.
same_none : (d w : List ℕ) (p : Part) → Bytes d → reading false d ≡ found [] → is_subsection p.kind ≡ true → Same25 d w p []
same_none d w p b e s =
    let r = reading_sound false d [] b e in
    let known = id_known (id_of d) r.known in
    let small = id_small p.kind in
    need_failed (joins 0 (p ∷ [])) (fault 25 (stated d) (stated d)) _ (sub_alone p s (section_id_pos p.kind))
    ∙ sym (need_failed (eqb (id_of d) (section_id p.kind)) (fault 25 (stated d) (stated d)) _ (ne_eqb (id_of d) (section_id p.kind) (λ q. omega arith)))

-- With a last section both ask for its id.
same_last : (d w : List ℕ) (p : Part) (ts : List Section) (t : Section) → Bytes d → reading false d ≡ found (ts ++ t ∷ [])
    → is_subsection p.kind ≡ true → length w ≡ size p → w ≡ write (size p) (layout p.kind) p.fields → Same25 d w p (ts ++ t ∷ [])
same_last d w p ts t b e s l m =
    let ss : List Section = ts ++ t ∷ [] in
    let x : Bool = external (id_of d) in
    let r = reading_sound false d ss b e in
    let gs = all_split (GoodSection false x) ts (t ∷ []) r.good.each in
    let o : last_place 0 8 ss ≡ sections_end ts = last_behind 0 [] ts t (grouped false x ts gs.0) in
    let j = sub_joins_last false x ts t p gs.1.0 (flat_joins false x ss r.good.each 0) s in
    let there = (stands_at d ts t [] b e).id_there in
    subst (λ (q : ℕ). need (joins 0 (parts_of ss ++ p ∷ [])) (fault 25 (stated d) (stated d))
    (need (leb (stated d + size p) longest && leb (stated d + size p) (length d)) (fault 23 (stated d) (stated d))
    (and_then (reading false (longer d ss p)) (λ us. found (longer d ss p))))
    ≡ need (eqb (id_of (drop q d)) (section_id p.kind)) (fault 25 (stated d) (stated d)) (appended d q w))
    (sym o)
    (same_need (joins 0 (parts_of ss ++ p ∷ [])) (eqb (id_of (drop (sections_end ts) d)) (section_id p.kind)) (fault 25 (stated d) (stated d)) _ _
    (j ∙ ap (λ (i : ℕ). eqb i (section_id p.kind)) (sym there))
    (λ q. same_appended d w (longer d ss p) (sections_end ts) (size p) l (sub_grown d ts t p w b e s l m)))

-- A list is empty or has a last element.
last_of : (ss : List Section) → (ss ≡ []) ⊎ ((ts : List Section) × ((t : Section) × (ss ≡ ts ++ t ∷ [])))
last_of [] = inl refl
last_of (s ∷ ss) =
    ⊎_elim
    (λ (e : ss ≡ []). inr ([], (s, ap (λ (y : List Section). s ∷ y) e)))
    (λ (r : (ts : List Section) × ((t : Section) × (ss ≡ ts ++ t ∷ []))). inr (s ∷ r.0, (r.1.0, ap (λ (y : List Section). s ∷ y) r.1.1)))
    (last_of ss)

sub_same : (k : Kind) (fs : Fields) (d w : List ℕ) (t : ℕ) → is_subsection k ≡ true → fits [] (layout k) fs ≡ true
    → w ≡ write t (layout k) fs → t ≡ length w → Bytes d → addition k fs d ≡ subsection_added (section_id k) d w
unfolding addition subsection_added
sub_same k fs d w t s f m l b =
    then_same (reading false d) _ _
    (λ ss e.
    let p : Part = record { kind = k; fields = fs } in
    let v = made k fs w t m l in
    let rest : Same25 d w p ss =
    ⊎_elim
    (λ (q : ss ≡ []). subst (Same25 d w p) (sym q) (same_none d w p b (e ∙ ap found q) s))
    (λ (q : (ts : List Section) × ((u : Section) × (ss ≡ ts ++ u ∷ []))).
    subst (Same25 d w p) (sym q.1.1) (same_last d w p q.0 q.1.0 b (e ∙ ap found q.1.1) s v.0 v.1))
    (last_of ss) in
    need_passed (fits [] (layout k) fs) _ _ f ∙ rest)

-- A subsection whose bytes w are those of its fields, t being the length that they state.
pub subsection_made : {r : Answer} {e : List ℕ} (k : Kind) (fs : Fields) (d w : List ℕ) (t : ℕ) → is_subsection k ≡ true
    → fits [] (layout k) fs ≡ true → w ≡ write t (layout k) fs → t ≡ length w
    → Added r e d (subsection_added (section_id k) d w)
    → (r ≡ write_answer (addition k fs d)) × (e ≡ draft_after (addition k fs d) d)
subsection_made k fs d w t s f m l a = same_written d (sym (sub_same k fs d w t s f m l a.1.1)) a.0 a.1.0
