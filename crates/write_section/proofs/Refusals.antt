-- Where the draft with a section after it reads, or is refused at the draft's end or after it, and the draft's sections end
-- where it does, the draft reads. Assumes nothing.
use mathlib.Core.Path.{◌≡◌, refl, sym, ap, ap₂, ◌∙◌, subst}
use mathlib.Core.Bool.{Bool, true, false}
use mathlib.Core.List.{List, [], ◌∷◌, ◌++◌, append_assoc, append-nil}
use mathlib.Core.Logic.{◌⊎◌, inl, inr, ⊎_elim}
use Prim.Native.Nat.{ℕ, suc, ◌+◌, ◌^◌, ◌≤◌, ◌<◌}
use native.Mathlib.Nat.{add-zero}
use native.Mathlib.Omega.{arith}
use lib.ListN.{length, take, drop, replicate, length-replicate, length-append, length-drop, take-append-drop}
use lib.Seq.{take_at, take_all, drop_at, drop-append-le, length-take-le}
use Rattle.format.specs.Bytes.{Bytes}
use Rattle.format.specs.Parts.{external, write_parts}
use Rattle.format.specs.Rules.{longest, Section}
use Rattle.format.specs.Reading.{Fault, fault, Outcome, refused, found, need, Test, tested, id_of, stated, header_checks, section, reading}
use Rattle.format.proofs.Tests.{Hold, tests_lead, then_found, then_refused}
use Rattle.format.proofs.Grouping.{all_join, all_split}
use Rattle.format.proofs.Changes.{restate}
use Rattle.format.proofs.Numbers.{bytes_take, bytes_drop}
use Rattle.format.proofs.Turns.{sections_from, sections_from_is, sections_none, sections_more}
use Rattle.format.proofs.Numbering.{Early, Comes, Inside, section_comes, stated_front}
use Rattle.format.proofs.Offsets.{Inner}
use Rattle.format.proofs.Sound.{section_read}
use Rattle.format.proofs.Complete.{section_found}
use Rattle.read_token.proofs.Headers.{lengths}
use Rattle.write_last_part.specs.Tiling.{Reads, TiledTo, here, next, Tiled}
use Rattle.write_last_part.proofs.Tiling.{passed, passed_then}
use Rattle.write_appended_part.specs.Appended.{grown, appended}
use Rattle.write_appended_part.proofs.Longer.{restate_long, grown_long}
use Rattle.write_appended_part.proofs.Restating.{behind_restated, restate_id, restate_stated, restate_over, id_taken}
use Rattle.write_section.specs.Adding.{own_first, section_added}
use Rattle.write_section.proofs.Calls.{header_standing, own_first_is, appended_passed}

-- ---- one section

-- A section that is found is found as well before other bytes.
section_moved : (x : Bool) (before : List Section) (at : ℕ) (a w y : List ℕ) (s : Section) → Bytes (a ++ w) → length a < 256 ^ 2
    → 4 ≤ stated a → stated a ≡ length a → section false x before at (a ++ w) ≡ found s → section false x before at (a ++ y) ≡ found s
section_moved x before at a w y s b small four ends e =
    let S : List ℕ = write_parts (s.head ∷ s.subs) in
    let r = section_read false x before at (a ++ w) s b e in
    let st : stated (a ++ w) ≡ stated a = stated_front a w (omega arith) in
    let la = length-append a w in
    let ld = length-drop (stated (a ++ w)) (a ++ w) in
    let ls = ap length r.form in
    let lf = length-append S (drop (stated (a ++ w)) (a ++ w)) in
    let long : length S ≡ length a = omega arith in
    let front : a ≡ S =
    sym (take_at a w (length a) refl) ∙ ap (take (length a)) (sym r.form) ∙ take_at S (drop (stated (a ++ w)) (a ++ w)) (length a) long in
    (section_found false x before at s (a ++ y) y r.good r.new (omega arith) (ap (λ (v : List ℕ). v ++ y) front)).0

-- A section that is refused is refused within its own bytes.
section_early : (x : Bool) (before : List Section) (at : ℕ) (r : List ℕ) (f : Fault) → 4 ≤ stated r
    → section false x before at r ≡ refused f → f.place < at + stated r
section_early x before at r f four e =
    let z : List ℕ = replicate at 0 ++ r in
    let there : r ≡ drop at z = sym (drop_at (replicate at 0) r at (length-replicate {A = ℕ} at 0)) in
    let c : Early false z (at + stated r) f =
    subst (Comes (Early false z (at + stated r)) (Inside r)) e (section_comes z (at + stated r) false x before at r there (omega arith) (λ h. omega arith) (λ h. omega arith)) in
    c.early (c.listed.complete refl)

-- ---- all sections

-- What is read comes to no refusal before e.
abbrev pub Late : ℕ → Outcome (List Section) → Type 0
Late e (refused f) = e ≤ f.place
Late e (found ss) = Unit {0}

-- A section T, then what is passed after it, and what follows.
turn : (x : Bool) (before : List Section) (at : ℕ) (T P w : List ℕ) → Bytes (T ++ (P ++ w)) → length T < 256 ^ 2 → 4 ≤ stated T → stated T ≡ length T
    → Late (at + length (T ++ P)) (sections_from false x before at (T ++ (P ++ w)))
    → ((s : Section) → Late (at + length T + length P) (sections_from false x (before ++ s ∷ []) (at + length T) (P ++ w))
    → (ss : List Section) × ((y : List ℕ) → sections_from false x (before ++ s ∷ []) (at + length T) (P ++ y) ≡ sections_from false x ss (at + length T + length P) y))
    → (ss : List Section) × ((y : List ℕ) → sections_from false x before at (T ++ (P ++ y)) ≡ sections_from false x ss (at + length (T ++ P)) y)
turn x before at T P w b small four same h more = go (section false x before at (T ++ (P ++ w))) refl
  where
    step : (s : Section) → section false x before at (T ++ (P ++ w)) ≡ found s → (y : List ℕ)
        → sections_from false x before at (T ++ (P ++ y)) ≡ sections_from false x (before ++ s ∷ []) (at + length T) (P ++ y)
    step s e y =
        let l = length-append T (P ++ y) in
        let st : stated (T ++ (P ++ y)) ≡ length T = stated_front T (P ++ y) (omega arith) ∙ same in
        sections_more false x before at (T ++ (P ++ y)) (omega arith)
        ∙ then_found _ (section_moved x before at T (P ++ w) (P ++ y) s b small four same e)
        ∙ ap (λ (n : ℕ). sections_from false x (before ++ s ∷ []) (at + n) (drop n (T ++ (P ++ y)))) st
        ∙ ap (sections_from false x (before ++ s ∷ []) (at + length T)) (drop_at T (P ++ y) (length T) refl)

    go : (o : Outcome Section) → section false x before at (T ++ (P ++ w)) ≡ o
        → (ss : List Section) × ((y : List ℕ) → sections_from false x before at (T ++ (P ++ y)) ≡ sections_from false x ss (at + length (T ++ P)) y)
    go (refused f) e =
        let l = length-append T (P ++ w) in
        let k = length-append T P in
        let st : stated (T ++ (P ++ w)) ≡ length T = stated_front T (P ++ w) (omega arith) ∙ same in
        let n = section_early x before at (T ++ (P ++ w)) f (omega arith) e in
        let m : at + length (T ++ P) ≤ f.place =
        subst (Late (at + length (T ++ P))) (sections_more false x before at (T ++ (P ++ w)) (omega arith) ∙ then_refused _ e) h in
        absurd (omega arith)
    go (found s) e =
        let k = length-append T P in
        let sum : at + length (T ++ P) ≡ at + length T + length P = omega arith in
        let i = more s (subst (λ (n : ℕ). Late n (sections_from false x (before ++ s ∷ []) (at + length T) (P ++ w))) sum
        (subst (Late (at + length (T ++ P))) (step s e w) h)) in
        (i.0, λ y. step s e y ∙ i.1 y ∙ ap (λ (n : ℕ). sections_from false x i.0 n y) (sym sum))

-- Sections that are passed by their stated lengths, and are not refused before their end: they are read, whatever stands
-- after them.
pub sections_front : {z r : List ℕ} (x : Bool) (w : List ℕ) (t : TiledTo z r) (before : List Section) (at : ℕ) → Bytes (passed t ++ w)
    → length (passed t) < 256 ^ 2 → Late (at + length (passed t)) (sections_from false x before at (passed t ++ w))
    → (ss : List Section) × ((y : List ℕ) → sections_from false x before at (passed t ++ y) ≡ sections_from false x ss (at + length (passed t)) y)
unfolding passed
sections_front x w here before at b small h = (before, λ y. ap (λ (n : ℕ). sections_from false x before n y) (sym (add-zero at)))
sections_front {z} {r} x w (next four ends t) before at b small h =
    let T : List ℕ = take (stated r) r in
    let lt : length T ≡ stated r = length-take-le (stated r) r ends in
    let st : stated r ≡ stated T = sym (ap stated (take-append-drop (stated r) r)) ∙ stated_front T (drop (stated r) r) (omega arith) in
    let lp = length-append T (passed t) in
    let whole : Bytes (T ++ (passed t ++ w)) = subst Bytes (append_assoc T (passed t) w) b in
    let c = all_split (λ (y : ℕ). y < 256) T (passed t ++ w) whole in
    let i = turn x before at T (passed t) w whole (omega arith) (omega arith) (omega arith)
    (subst (Late (at + length (T ++ passed t))) (ap (sections_from false x before at) (append_assoc T (passed t) w)) h)
    (λ s k. sections_front x w t (before ++ s ∷ []) (at + length T) c.1 (omega arith) k) in
    (i.0, λ y. ap (sections_from false x before at) (append_assoc T (passed t) y) ∙ i.1 y)

-- ---- the longer draft

-- A refusal after tests is one of them, in the m bytes that they look at, or comes after them.
pub tests_late : {A : Type 0} (at m : ℕ) (cs : List Test) (rest : Outcome A) (f : Fault) → Inner m cs → tested at cs rest ≡ refused f
    → (f.place < at + m) ⊎ (Hold cs × (rest ≡ refused f))
unfolding tested need
tests_late at m [] rest f i e = inr (tt, e)
tests_late {A} at m (c ∷ cs) rest f i e = go c.holds refl (λ q. tests_late at m cs rest f i.1 q) e
  where
    go : (b : Bool) → c.holds ≡ b → (tested at cs rest ≡ refused f → (f.place < at + m) ⊎ (Hold cs × (rest ≡ refused f)))
        → need b (fault c.refusal at (at + c.offset)) (tested at cs rest) ≡ refused f → (f.place < at + m) ⊎ (Hold (c ∷ cs) × (rest ≡ refused f))
    go true p more q = ⊎_elim (λ u. inl u) (λ u. inr ((p, u.0), u.1)) (more q)
    go false p more q = let l = i.0 p in let w : at + c.offset ≡ f.place = cc in inl (omega arith)

-- Tests of bytes before e: nothing is refused by them either.
tests_gone : (e at m : ℕ) (cs : List Test) (rest : Outcome (List Section)) → at + m ≤ e → Inner m cs → Late e (tested at cs rest) → Late e rest
unfolding tested need
tests_gone e at m [] rest h i l = l
tests_gone e at m (c ∷ cs) rest h i l = go c.holds refl (λ k. tests_gone e at m cs rest h i.1 k) l
  where
    go : (b : Bool) → c.holds ≡ b → (Late e (tested at cs rest) → Late e rest) → Late e (need b (fault c.refusal at (at + c.offset)) (tested at cs rest)) → Late e rest
    go true p more k = more k
    go false p more k = let o = i.0 p in absurd (omega arith)

-- The header's tests look at its eight bytes.
pub header_inner : (full : Bool) (bs : List ℕ) → Inner 8 (header_checks full bs)
header_inner full bs = (λ e. omega arith, (λ e. omega arith, (λ e. omega arith, (λ e. omega arith, (λ e. omega arith, tt)))))

-- The draft with a section after it: the id, the new length, and the section after those that were there.
pub record GrownParts (d w : List ℕ) : Type 0 where
  pub id : id_of (grown d 0 w) ≡ id_of d
  pub states : stated (grown d 0 w) ≡ stated d + length w
  pub body : drop 8 (take (stated (grown d 0 w)) (grown d 0 w)) ≡ drop 8 (take (stated d) d) ++ w

pub grown_parts : (d w : List ℕ) → Hold (header_checks false d) → stated d + length w ≤ longest → GrownParts d w
grown_parts d w h m =
    let D : List ℕ = take (stated d) d in
    let n : ℕ = stated d + length w in
    let g : List ℕ = grown d 0 w in
    let k = lengths false d h in
    let least = k.least in
    let ld = length-take-le (stated d) d k.within in
    let lg = grown_long d 0 w (header_standing d h) in
    let form : g ≡ restate 0 n D ++ w = ap (λ (y : List ℕ). y ++ w) (restate_over n n D) in
    let st : stated g ≡ n = ap stated form ∙ restate_stated n D w (omega arith) (omega arith) in
    let lr = restate_long 0 n D in
    record {
      id = ap id_of form ∙ restate_id n D w (omega arith) ∙ id_taken d (stated d) (omega arith);
      states = st;
      body = ap (drop 8) (take_all (stated g) g (omega arith) ∙ form)
          ∙ drop-append-le 8 (restate 0 n D) w (omega arith)
          ∙ ap (λ (y : List ℕ). y ++ w) (behind_restated 8 n D (omega arith));
    }

-- Where the longer draft reads, or is refused at the draft's end or after it, the draft reads.
pub front_read : (d w : List ℕ) → Bytes d → Bytes w → Hold (header_checks false d) → stated d + length w ≤ longest
    → Tiled (drop 8 (take (stated d) d)) → Late (stated d) (reading false (grown d 0 w)) → Reads d
unfolding reading need
front_read d w b c h m t l =
    let D : List ℕ = take (stated d) d in
    let g : List ℕ = grown d 0 w in
    let x : Bool = external (id_of d) in
    let k = lengths false d h in
    let least = k.least in
    let ld = length-take-le (stated d) d k.within in
    let le = length-drop 8 D in
    let p = grown_parts d w h m in
    let st = p.states in
    let all : drop 8 D ≡ passed t = passed_then t ∙ append-nil (passed t) in
    let la = ap length all in
    let body : drop 8 (take (stated g) g) ≡ passed t ++ w = p.body ∙ ap (λ (y : List ℕ). y ++ w) all in
    let lb = ap length body in
    let lw = length-append (passed t) w in
    let from = sections_from_is (suc (stated g)) false (external (id_of g)) [] 8 (drop 8 (take (stated g) g)) (omega arith)
    ∙ ap₂ (λ (i : ℕ) (y : List ℕ). sections_from false (external i) [] 8 y) p.id body in
    let end : stated d ≡ 8 + length (passed t) = omega arith in
    let late = subst (λ (e : ℕ). Late e (sections_from false x [] 8 (passed t ++ w))) end
    (subst (Late (stated d)) from (tests_gone (stated d) 0 8 (header_checks false g) _ (omega arith) (header_inner false g) l)) in
    let r = sections_front x w t [] 8
    (all_join (λ (y : ℕ). y < 256) (passed t) w (subst Bytes all (bytes_drop 8 D (bytes_take (stated d) d b))) c) (omega arith) late in (
      r.0,
      tests_lead 0 (header_checks false d) _ h
          ∙ sections_from_is (suc (stated d)) false x [] 8 (drop 8 D) (omega arith)
          ∙ ap (sections_from false x [] 8) (all ∙ sym (append-nil (passed t)))
          ∙ r.1 []
          ∙ sections_none false x r.0 (8 + length (passed t)) [] refl,
    )

-- So an addition of a section that reads the longer draft first is the addition of the definition.
pub section_tried : (d w : List ℕ) → Bytes d → Bytes w → Hold (header_checks false d) → Tiled (drop 8 (take (stated d) d))
    → own_first d (appended d 0 w) ≡ section_added d w
unfolding section_added
section_tried d w b c h t =
    own_first_is d (appended d 0 w)
    (λ bs e. let p = appended_passed d 0 w bs e in front_read d w b c h p.0 t (subst (Late (stated d)) (sym p.1.1) tt))
