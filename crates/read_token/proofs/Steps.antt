-- One section more: what the loops over sections know after it.
use Rattle.std.specs.Prelude.{Err}
use mathlib.Core.Path.{◌≡◌, refl, sym, ap, ◌∙◌, subst}
use mathlib.Core.Bool.{Bool, true, false, not, ◌||◌, or-true, or-false, or_assoc}
use mathlib.Core.List.{List, [], ◌∷◌, ◌++◌}
use mathlib.Core.Option.{Option, none, some}
use Prim.Native.Nat.{ℕ, zero, suc, ◌+◌, ◌-◌, ◌*◌, ◌<◌, ◌≤◌}
use native.Mathlib.Omega.{arith}
use lib.Dec.{leb, ltb}
use lib.ListN.{length, get_or, set, drop, length-append, length-drop}
use lib.Seq.{drop-drop, get_or-set_same, get_or-set_other}
use borrow.Author.Tests.{leb-true, le-leb, lt-leb, ltb-true}
use Rattle.format.specs.Slots.{least}
use Rattle.format.specs.Parts.{Kind, rule, information, is_subsection, section_id, same_kind, layout, Part}
use Rattle.format.specs.Reading.{section_kind}
use Rattle.format.specs.Rules.{Section, mask_covers, has_required}
use Rattle.format.specs.Reading.{fault, Outcome, refused, found, need, and_then, tested, id_of, stated, part_in, made_length, subsection, subsections, kind_before, rule_before}
use Rattle.format.specs.Reading.{section_checks, after_subsections, section_rest, section, row_count, parts_of, as_answer}
use Rattle.format.specs.Answers.{Accepted}
use Rattle.format.specs.declared.Refusal.{Refusal}
use Rattle.format.proofs.Finding.{and_split, every_kind, same_kind_eq, section_kind_told}
use Rattle.format.proofs.Sound.{kinds_differ}
use Rattle.format.specs.Forms.{rule_id_form}
use Rattle.format.proofs.Tests.{Hold, refused_not, found_inj, needed, followed, then_found, tests_passed}
use Rattle.format.proofs.Turns.{sub_step, section_step, sections_from, sections_more, sections_none}
use Rattle.read_sections.specs.Refusals.{section_rows}
use Rattle.read_token.specs.Progress.{Stands, Ahead, Marked, SectionsRead, sections_answer}

-- ---- the section that was found

-- Each subsection has at least one byte.
subs_few : (d : ℕ) (x : Bool) (o : Kind) (before : List Part) (at n : ℕ) (r : List ℕ) (us : List Part)
    → subsections d x o before at n r ≡ found us → length us ≤ length before + n
unfolding subsections
subs_few zero x o before at n r us e = absurd (refused_not e)
subs_few (suc d) x o before at zero r us e = let q : before ≡ us = found_inj e in let l = ap length q in omega arith
subs_few (suc d) x o before at (suc m) r us e =
    let f = followed (subsection x o before at (suc m) r) _ us e in
    let s = sub_step x o before at (suc m) r f.0 f.1 in
    let i = subs_few d x o (before ++ f.0 ∷ []) (at + stated r) (suc m - stated r) (drop (stated r) r) us f.2 in
    let l = length-append before (f.0 ∷ []) in
    let a = s.0 in
    let b = s.1 in
    omega arith

-- The Rule ID of a rule has its form.
rule_form : (x : Bool) (k : Kind) (seen repeated : Bool) (r : List ℕ) → Hold (section_checks x k seen repeated r) → same_kind rule k ≡ true
    → rule_id_form (get_or (part_in k r).fields 0 []) ≡ true
rule_form x k seen repeated r h e =
    subst (λ (y : Kind). Hold (section_checks x y seen repeated r) → rule_id_form (get_or (part_in y r).fields 0 []) ≡ true) (same_kind_eq rule k e)
    (λ w. w.1.1.1.1.0) h

known : (full x : Bool) (k : Kind) (before : List Section) (at : ℕ) (r : List ℕ) (c : Section) → section_kind (id_of r) ≡ some k
    → section full x before at r ≡ found c
    → tested at (section_checks x k (kind_before k before) (rule_before (part_in k r) before) r) (section_rest full x k at r) ≡ found c
    → Stands r c
unfolding section_rest after_subsections
known full x k before at r c q g e =
    let t = tests_passed at (section_checks x k (kind_before k before) (rule_before (part_in k r) before) r) _ c e in
    let w = and_split (leb (least (layout k)) (stated r)) (leb (stated r) (length r)) t.0.1.0 in
    let step = section_step full x before at r c g in
    let m : ℕ = made_length k r in
    let f = followed (subsections (suc (stated r)) x k [] (at + m) (stated r - m) (drop m r)) _ c t.1 in
    let d : Section = record { head = part_in k r; subs = f.0 } in
    let n₁ = needed (mask_covers f.0) _ _ c f.2 in
    let n₂ = needed (not full || has_required d) _ _ c n₁.1 in
    let few = subs_few (suc (stated r)) x k [] (at + m) (stated r - m) (drop m r) f.0 f.1 in
    let four = step.0 in
    subst (λ (y : Section). Stands r y) (found_inj n₂.1)
    (record {
      kind = q;
      head = refl;
      least = leb-true (least (layout k)) (stated r) w.0;
      four = four;
      ends = step.1;
      few = omega arith;
      rule_id = rule_form x k (kind_before k before) (rule_before (part_in k r) before) r t.0;
    })

-- A section that is found begins the bytes.
pub stands : (full x : Bool) (before : List Section) (at : ℕ) (r : List ℕ) (c : Section) → section full x before at r ≡ found c → Stands r c
unfolding section
stands full x before at r c e = go (section_kind (id_of r)) refl (needed (leb 4 (length r)) _ _ c e).1
  where
    go : (m : Option Kind) → section_kind (id_of r) ≡ m
        → elim m as (λ k. Outcome Section) [
          | none ↦ refused (fault 7 at at)
          | some k ↦ tested at (section_checks x k (kind_before k before) (rule_before (part_in k r) before) r) (section_rest full x k at r)
        ] ≡ found c
        → Stands r c
    go none q w = absurd (refused_not w)
    go (some k) q w = known full x k before at r c q e w

-- ---- after it

-- The section stands after those before it.
pub ahead_more : (s : List ℕ) (q : ℕ) (cs : List Section) (p : ℕ) (c : Section) → Ahead s q cs p → Stands (drop p s) c
    → Ahead s q (cs ++ c ∷ []) (p + stated (drop p s))
ahead_more s q [] p c a w =
    subst (λ (y : ℕ). Stands (drop y s) c × (y + stated (drop y s) ≡ p + stated (drop p s))) (sym a) (w, refl)
ahead_more s q (d ∷ cs) p c a w = (a.0, ahead_more s (q + stated (drop q s)) cs p c a.1 w)

pub kind_more : (k : Kind) (before : List Section) (c : Section) → kind_before k (before ++ c ∷ []) ≡ (kind_before k before || same_kind k c.head.kind)
kind_more k [] c = or-false (same_kind k c.head.kind)
kind_more k (d ∷ ds) c = ap (λ (b : Bool). same_kind k d.head.kind || b) (kind_more k ds c) ∙ sym (or_assoc (same_kind k d.head.kind) _ _)

pub rows_more : (before : List Section) (c : Section) → row_count (before ++ c ∷ []) ≡ row_count before + section_rows c
rows_more [] c = let a = length-append c.subs [] in omega arith
rows_more (d ∷ ds) c =
    let i = rows_more ds c in
    let a = length-append d.subs (parts_of (ds ++ c ∷ [])) in
    let b = length-append d.subs (parts_of ds) in
    omega arith

-- Two sections of one id are of one kind.
pub some_same : {a b : Kind} → ◌≡◌ {A = Option Kind} (some a) (some b) → a ≡ b
some_same e = cc

one_id : (j k : Kind) → is_subsection j ≡ false → is_subsection k ≡ false → section_id j ≡ section_id k → same_kind j k ≡ true
one_id j k a b e =
    let q : j ≡ k = some_same (sym (section_kind_told j a) ∙ ap section_kind e ∙ section_kind_told k b) in
    subst (λ (y : Kind). same_kind j y ≡ true) q (every_kind (λ i. same_kind i i) refl j)

-- Every section's id is below 0x16.
pub id_small : (k : Kind) → section_id k < 0x16
id_small k = ltb-true (section_id k) 0x16 (every_kind (λ j. ltb (section_id j) 0x16) refl k)

-- Its kind is marked.
pub marked_more : (seen : List Bool) (before : List Section) (c : Section) → length seen ≡ 0x16 → is_subsection c.head.kind ≡ false
    → Marked seen before → Marked (set seen (section_id c.head.kind) true) (before ++ c ∷ [])
marked_more seen before c l f m k a r = kind_more k before c ∙ go (same_kind k c.head.kind) refl
  where
    small : section_id c.head.kind < length seen
    small = let z = id_small c.head.kind in omega arith

    go : (b : Bool) → same_kind k c.head.kind ≡ b → (kind_before k before || same_kind k c.head.kind) ≡ get_or (set seen (section_id c.head.kind) true) (section_id k) false
    go true e =
        ap (λ (b : Bool). kind_before k before || b) e
        ∙ or-true (kind_before k before)
        ∙ sym (ap (λ (y : Kind). get_or (set seen (section_id c.head.kind) true) (section_id y) false) (same_kind_eq k c.head.kind e)
        ∙ get_or-set_same seen (section_id c.head.kind) true false small)
    go false e =
        ap (λ (b : Bool). kind_before k before || b) e
        ∙ or-false (kind_before k before)
        ∙ m k a r
        ∙ sym (get_or-set_other seen (section_id c.head.kind) (section_id k) true false
        (λ q. absurd (let z : true ≡ false = sym (one_id k c.head.kind a f q) ∙ e in let y : ◌≡◌ {A = ℕ} 0 1 = cc in omega arith)))

-- A rule leaves the marks as they are.
pub marked_rule : (seen : List Bool) (before : List Section) (c : Section) → same_kind rule c.head.kind ≡ true → Marked seen before → Marked seen (before ++ c ∷ [])
marked_rule seen before c e m k a r =
    let q : same_kind k c.head.kind ≡ false = subst (λ (y : Kind). same_kind k y ≡ false) (same_kind_eq rule c.head.kind e) (kinds_differ rule k r) in
    kind_more k before c ∙ ap (λ (b : Bool). kind_before k before || b) q ∙ or-false (kind_before k before) ∙ m k a r

-- ---- answers

-- The section at p was found, with k rows.
pub record Found (s : List ℕ) (full x : Bool) (before : List Section) (p k : ℕ) : Type 0 where
  pub section : Section
  pub read : Rattle.format.specs.Reading.section full x before p (drop p s) ≡ found section
  pub stands : Stands (drop p s) section
  pub rows : k ≡ section_rows section
  pub four : 4 ≤ stated (drop p s)
  pub inside : p + stated (drop p s) ≤ length s
  pub few : k ≤ 2 * stated (drop p s)

accepted_found : {k : ℕ} (o : Outcome Section) → Accepted k ≡ as_answer section_rows o → (c : Section) × ((o ≡ found c) × (k ≡ section_rows c))
unfolding as_answer
accepted_found (refused f) e = absurd (let y : ◌≡◌ {A = ℕ} 0 1 = cc in omega arith)
accepted_found {k} (found c) e = let q : k ≡ section_rows c = cc in (c, (refl, q))

pub found_here : {k : ℕ} (s : List ℕ) (full x : Bool) (before : List Section) (p : ℕ) → p < length s
    → Accepted k ≡ as_answer section_rows (section full x before p (drop p s)) → Found s full x before p k
found_here {k} s full x before p h e =
    let a = accepted_found (section full x before p (drop p s)) e in
    let w = stands full x before p (drop p s) a.0 a.1.0 in
    let l = length-drop p s in
    let i = w.ends in
    let m = w.few in
    let n : k ≡ section_rows a.0 = a.1.1 in
    record { section = a.0; read = a.1.0; stands = w; rows = n; four = w.four; inside = omega arith; few = omega arith }

refused_on : {r : Refusal} {B : Type 0} (o : Outcome Section) (next : Section → Outcome B) (second : B → ℕ) → Err r ≡ as_answer section_rows o
    → Err r ≡ as_answer second (and_then o next)
unfolding as_answer and_then
refused_on (refused f) next second e = e
refused_on (found c) next second e = absurd (let y : ◌≡◌ {A = ℕ} 0 1 = cc in omega arith)

-- A refusal of the section at p is the answer.
pub refused_here : {n : ℕ} {r : Refusal} {seen : List Bool} (s : List ℕ) (full x : Bool) (p : ℕ) (w : SectionsRead s full x p n seen) → p < length s
    → Err r ≡ as_answer section_rows (section full x w.before p (drop p s)) → Err r ≡ sections_answer s full x
refused_here s full x p w h e =
    let l = length-drop p s in
    refused_on (section full x w.before p (drop p s)) _ row_count e
    ∙ ap (as_answer row_count) (sym (sections_more full x w.before p (drop p s) (omega arith)) ∙ w.same)

-- Fewer than four bytes are no section.
pub short_here : {r : Refusal} (s : List ℕ) (full x : Bool) (before : List Section) (p : ℕ) → r ≡ record { number = 6; place = p } → p ≤ length s → length s < p + 4
    → Err r ≡ as_answer section_rows (section full x before p (drop p s))
unfolding as_answer section need
short_here s full x before p f h e =
    let l = length-drop p s in
    let b : leb 4 (length (drop p s)) ≡ false = lt-leb 4 (length (drop p s)) (omega arith) in
    rw b (ap (λ (r : Refusal). Err r) f)

-- An unknown id is no section.
pub unknown_here : {v : Refusal} (r : List ℕ) (full x : Bool) (before : List Section) (p : ℕ) → v ≡ record { number = 7; place = p } → 4 ≤ length r
    → section_kind (id_of r) ≡ none → Err v ≡ as_answer section_rows (section full x before p r)
unfolding as_answer section need
unknown_here r full x before p f h e =
    let b : leb 4 (length r) ≡ true = le-leb 4 (length r) h in
    rw (b, e) (ap (λ (v : Refusal). Err v) f)

-- One section more is read.
unfoldable pub read_more : {n k l : ℕ} {seen later : List Bool} (s : List ℕ) (full x : Bool) (p : ℕ) (w : SectionsRead s full x p n seen) → p < length s
    → (f : Found s full x w.before p k) → l ≡ stated (drop p s) → Marked later (w.before ++ f.section ∷ [])
    → SectionsRead s full x (p + l) (n + k) later
read_more {n} {k} {l} {seen} {later} s full x p w h f e m =
    let r : List ℕ = drop p s in
    let len = length-drop p s in
    let c : Section = f.section in
    let four = f.four in
    let inside = f.inside in
    let few = f.few in
    let rows = f.rows in
    let a = w.few in
    let b = w.rows in
    let z = rows_more w.before c in
    let front = w.front in
    record {
      before = w.before ++ c ∷ [];
      ahead = subst (λ (y : ℕ). Ahead s 8 (w.before ++ c ∷ []) (p + y)) (sym e) (ahead_more s 8 w.before p c w.ahead f.stands);
      front = omega arith;
      ends = omega arith;
      rows = omega arith;
      few = omega arith;
      marked = m;
      same =
          ap (λ (y : ℕ). sections_from full x (w.before ++ c ∷ []) (p + y) (drop (p + y) s)) e
          ∙ ap (λ (y : List ℕ). sections_from full x (w.before ++ c ∷ []) (p + stated r) y) (sym (drop-drop (stated r) p s))
          ∙ sym (sections_more full x w.before p r (omega arith) ∙ then_found _ f.read)
          ∙ w.same;
    }

-- ---- the start and the end

-- Nothing is read yet.
pub read_none : (s : List ℕ) (full x : Bool) (seen : List Bool) → 8 ≤ length s → ((i : ℕ) → i < 0x16 → get_or seen i false ≡ false) → SectionsRead s full x 8 0 seen
read_none s full x seen h z = record {
  before = [];
  ahead = refl;
  front = omega arith;
  ends = h;
  rows = refl;
  few = omega arith;
  marked = λ k a r. sym (z (section_id k) (id_small k));
  same = refl;
}

-- All is read.
pub read_end : {n : ℕ} {seen : List Bool} (s : List ℕ) (full x : Bool) (p : ℕ) (w : SectionsRead s full x p n seen) → length s ≤ p
    → sections_answer s full x ≡ as_answer row_count (need (not full || get_or seen 0x14 false) (fault 20 p p) (found w.before))
read_end {n} {seen} s full x p w h =
    let l = length-drop p s in
    ap (as_answer row_count) (sym w.same ∙ sections_none full x w.before p (drop p s) (omega arith))
    ∙ ap (λ (b : Bool). as_answer row_count (need (not full || b) (fault 20 p p) (found w.before))) (w.marked information refl refl)

pub read_whole : {n : ℕ} {seen : List Bool} (s : List ℕ) (full x : Bool) (p : ℕ) (w : SectionsRead s full x p n seen) → length s ≤ p
    → (not full || get_or seen 0x14 false) ≡ true → Accepted n ≡ sections_answer s full x
unfolding as_answer need
read_whole {n} {seen} s full x p w h e =
    ap Accepted w.rows
    ∙ sym (read_end s full x p w h ∙ ap (λ (b : Bool). as_answer row_count (need b (fault 20 p p) (found w.before))) e)

pub read_missing : {n : ℕ} {r : Refusal} {seen : List Bool} (s : List ℕ) (full x : Bool) (p : ℕ) (w : SectionsRead s full x p n seen) → r ≡ record { number = 20; place = p }
    → length s ≤ p → (not full || get_or seen 0x14 false) ≡ false → Err r ≡ sections_answer s full x
unfolding as_answer need
read_missing s full x p w f h e =
    ap (λ (r : Refusal). Err r) f
    ∙ sym (read_end s full x p w h ∙ ap (λ (b : Bool). as_answer row_count (need b (fault 20 p p) (found w.before))) e)
