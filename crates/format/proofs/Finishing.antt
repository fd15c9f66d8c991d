-- What finishing says of any lent draft: refused by its own fault, or with 20 where a required part is missing; accepted
-- exactly where it is a legal token.
use mathlib.Core.Path.{◌≡◌, refl, sym, ap, ap₂, ◌∙◌, subst}
use mathlib.Core.Bool.{Bool, true, false, ◌&&◌}
use mathlib.Core.List.{List, [], ◌∷◌, ◌++◌, append_assoc, append-nil}
use mathlib.Core.Logic.{◌↔◌, ◌⊎◌, inl, inr}
use mathlib.Core.Option.{Option, none, some}
use Prim.Native.Nat.{ℕ, zero, suc, ◌+◌, ◌-◌, ◌≤◌}
use native.Mathlib.Omega.{arith}
use lib.Dec.{leb}
use lib.ListN.{length, take, drop, length-append, length-drop, take-append-drop}
use lib.Seq.{take_all, length-take-le}
use borrow.Author.Tests.{eq-eqb, le-leb}
use Rattle.format.specs.Bytes.{All, every, Bytes}
use Rattle.format.specs.Parts.{Kind, information, Part, write_parts, written, external, known_id}
use Rattle.format.specs.Reading.{section_kind}
use Rattle.format.specs.Rules.{longest, Section, sections_of, mask_covers, has_required}
use Rattle.format.specs.Legal.{Complete, Legal}
use Rattle.format.specs.Reading.{Fault, fault, Outcome, refused, found, need, and_then, tested, id_of, stated, made_length, part_in, subsections}
use Rattle.format.specs.Reading.{kind_before, rule_before, section_checks, after_subsections, section_rest, section, sections, header_checks, reading, parts_of, as_answer}
use Rattle.format.specs.GivenNumbers.{number_of, second_of}
use Rattle.format.specs.Writer.{finish}
use Rattle.format.specs.Claims.{answer_numbers, lacking_at}
use Rattle.format.specs.Answers.{Accepted, Refused}
use Rattle.format.proofs.Answers.{same_number, same_place}
use Rattle.format.proofs.Finding.{and_split, and_join}
use Rattle.format.proofs.Numbers.{bytes_take, bytes_drop}
use Rattle.format.proofs.Tests.{Hold, refused_not, found_inj, needed, need_passed, need_failed, followed, then_found, then_refused, tests_passed, tests_lead}
use Rattle.format.proofs.Grouping.{group_flat}
use Rattle.format.proofs.Sound.{SectionRead, section_read}
use Rattle.format.proofs.Header.{header_read}
use Rattle.format.proofs.Flat.{grouped, flat_has, has_section}
use Rattle.format.proofs.Accepted.{reading_sound, read_legal}
use Rattle.format.proofs.Numbering.{fault_number, draft_not_20}
use Rattle.format.proofs.GivenNumbers.{accepted_told, refused_told, zero_told, other_told, first, second}
use Rattle.format.proofs.Writing.{Draft, draft_of, draft_front, draft_header, told_accepted, finish_exactly}
use Rattle.format.proofs.Additions.{any_draft}

-- ---- a section and the sections

-- A section that a draft has is the same in a token, if what it requires is there.
rest_full : (x : Bool) (k : Kind) (at : ℕ) (r : List ℕ) (s : Section) → section_rest false x k at r ≡ found s
    → section_rest true x k at r ≡ need (has_required s) (fault 20 at at) (found s)
unfolding section_rest after_subsections
rest_full x k at r s e =
    let n : ℕ = made_length k r in
    let f = followed (subsections (suc (stated r)) x k [] (at + n) (stated r - n) (drop n r)) _ s e in
    let t : Section = record { head = part_in k r; subs = f.0 } in
    let m = needed (mask_covers f.0) _ _ s f.2 in
    let q : t ≡ s = found_inj (needed true (fault 20 at at) (found t) s m.1).1 in
    then_found _ f.1
    ∙ need_passed (mask_covers f.0) _ _ m.0
    ∙ ap (λ (y : Section). need (has_required y) (fault 20 at at) (found y)) q

section_full : (x : Bool) (before : List Section) (at : ℕ) (r : List ℕ) (s : Section) → section false x before at r ≡ found s
    → section true x before at r ≡ need (has_required s) (fault 20 at at) (found s)
unfolding section
section_full x before at r s e =
    let n = needed (leb 4 (length r)) _ _ s e in
    need_passed (leb 4 (length r)) _ _ n.0 ∙ go (section_kind (id_of r)) n.1
  where
    go : (m : Option Kind)
        → elim m as (λ k. Outcome Section) [
          | none ↦ refused (fault 7 at at)
          | some k ↦ tested at (section_checks x k (kind_before k before) (rule_before (part_in k r) before) r) (section_rest false x k at r)
        ] ≡ found s
        → elim m as (λ k. Outcome Section) [
          | none ↦ refused (fault 7 at at)
          | some k ↦ tested at (section_checks x k (kind_before k before) (rule_before (part_in k r) before) r) (section_rest true x k at r)
        ] ≡ need (has_required s) (fault 20 at at) (found s)
    go none w = absurd (refused_not w)
    go (some k) w =
        let t = tests_passed at (section_checks x k (kind_before k before) (rule_before (part_in k r) before) r) _ s w in
        tests_lead at (section_checks x k (kind_before k before) (rule_before (part_in k r) before) r) _ t.0 ∙ rest_full x k at r s t.1

-- A required part is missing in this section, or what comes after it decides.
then_full : {A : Type 0} (b c k : Bool) (at p : ℕ) (s : Section) (a : A) (next : Section → Outcome A)
    → next s ≡ need (c && k) (fault 20 p p) (found a)
    → and_then (need b (fault 20 at at) (found s)) next
    ≡ need ((b && c) && k) (fault 20 (elim b as (λ y. ℕ) [ true ↦ p | false ↦ at ]) (elim b as (λ y. ℕ) [ true ↦ p | false ↦ at ])) (found a)
unfolding and_then need
then_full true c k at p s a next e = e
then_full false c k at p s a next e = refl

-- A section that was read is as long as it states.
section_long : (x : Bool) (before : List Section) (r : List ℕ) (s : Section) → SectionRead false x before r s
    → stated r ≡ length (write_parts (s.head ∷ s.subs))
section_long x before r s w =
    let l = ap length w.form in
    let m = length-append (write_parts (s.head ∷ s.subs)) (drop (stated r) r) in
    let n = length-drop (stated r) r in
    let h = w.ends in
    omega arith

-- Sections that a draft has are found in a token where nothing that is required is missing, and else refused with 20.
sections_full : (d : ℕ) (x : Bool) (before : List Section) (at e : ℕ) (r : List ℕ) (ss : List Section) → Bytes r → at + length r ≡ e
    → sections d false x before at r ≡ found ss
    → (ts : List Section)
    × (before ++ ts ≡ ss)
    × (sections d true x before at r
    ≡ need (every has_required ts && kind_before information ss) (fault 20 (lacking_at e at ts) (lacking_at e at ts)) (found ss))
unfolding sections
sections_full zero x before at e r ss b h q = absurd (refused_not q)
sections_full (suc d) x before at e [] ss b h q =
    let w : before ≡ ss = found_inj (needed true (fault 20 at at) (found before) ss q).1 in
    let p : at ≡ e = omega arith in (
      [],
      append-nil before ∙ w,
      ap₂ (λ (y : List Section) (n : ℕ). need (kind_before information y) (fault 20 n n) (found y)) w p,
    )
sections_full (suc d) x before at e (c ∷ cs) ss b h q =
    let r : List ℕ = c ∷ cs in
    let next : Section → Outcome (List Section) = λ s. sections d true x (before ++ s ∷ []) (at + stated r) (drop (stated r) r) in
    let w = followed (section false x before at r) _ ss q in
    let s : Section = w.0 in
    let g = section_read false x before at r s b w.1 in
    let ends = g.ends in
    let l = length-drop (stated r) r in
    let i = sections_full d x (before ++ s ∷ []) (at + stated r) e (drop (stated r) r) ss (bytes_drop (stated r) r b) (omega arith) w.2 in (
      s ∷ i.0,
      sym (append_assoc before (s ∷ []) i.0) ∙ i.1,
      ap (λ (o : Outcome Section). and_then o next) (section_full x before at r s w.1)
          ∙ then_full (has_required s) (every has_required i.0) (kind_before information ss) at (lacking_at e (at + stated r) i.0) s ss next i.2
          ∙ ap (λ (n : ℕ). need (every has_required (s ∷ i.0) && kind_before information ss) (fault 20 (elim (has_required s) as (λ y. ℕ) [ true ↦ lacking_at e (at + n) i.0 | false ↦ at ]) (elim (has_required s) as (λ y. ℕ) [ true ↦ lacking_at e (at + n) i.0 | false ↦ at ])) (found ss)) (section_long x before r s g),
    )

-- ---- the draft

-- The first bytes of a draft that reads, as a token, go through the same sections.
token_of_is : (d : List ℕ) (ss : List Section) → Bytes d → reading false d ≡ found ss
    → reading true (take (stated d) d) ≡ sections (suc (stated d)) true (external (id_of d)) [] 8 (drop 8 (take (stated d) d))
unfolding reading
token_of_is d ss b e =
    let i : ℕ = id_of d in
    let ps : List Part = parts_of ss in
    let T : List ℕ = take (stated d) d in
    let w = any_draft d ss b e in
    let r = reading_sound false d ss b e in
    let front : T ≡ written i ps = draft_front i ps d w in
    let st : stated d ≡ length (written i ps) = (draft_header i ps d w).1 in
    let small = w.small in
    let eight = r.eight in
    let h = header_read i ps T [] (omega arith) (front ∙ sym (append-nil (written i ps))) in
    let lt : length T ≡ stated d = length-take-le (stated d) d r.ends in
    let same : stated T ≡ stated d = h.2 ∙ sym st in
    let hold : Hold (header_checks true T) = (
      le-leb 8 (length T) (omega arith),
      (
        ap known_id h.0 ∙ r.known,
        (
          h.1,
          (and_join _ _ (le-leb (length T) longest (omega arith)) (eq-eqb (stated T) (length T) (omega arith)), (h.3, tt)),
        ),
      ),
    ) in
    tests_lead 0 (header_checks true T) _ hold
    ∙ ap₂ (λ (n j : ℕ). sections (suc n) true (external j) [] 8 (drop 8 (take n T))) same h.0
    ∙ ap (λ (y : List ℕ). sections (suc (stated d)) true (external i) [] 8 (drop 8 y)) (take_all (stated d) T (omega arith))

-- What is required is there, as a test over the sections.
abbrev nothing_missing : List Section → Bool
nothing_missing ss = every has_required ss && kind_before information ss

-- A draft that reads is found as a token where nothing that is required is missing, and else refused with 20.
token_full : (d : List ℕ) (ss : List Section) → Bytes d → reading false d ≡ found ss
    → reading true (take (stated d) d) ≡ need (nothing_missing ss) (fault 20 (lacking_at (stated d) 8 ss) (lacking_at (stated d) 8 ss)) (found ss)
unfolding reading
token_full d ss b e =
    let r = reading_sound false d ss b e in
    let eight = r.eight in
    let lt : length (take (stated d) d) ≡ stated d = length-take-le (stated d) d r.ends in
    let ld = length-drop 8 (take (stated d) d) in
    let i = sections_full (suc (stated d)) (external (id_of d)) [] 8 (stated d) (drop 8 (take (stated d) d)) ss
    (bytes_drop 8 (take (stated d) d) (bytes_take (stated d) d b)) (omega arith) (tests_passed 0 (header_checks false d) _ ss e).1 in
    token_of_is d ss b e
    ∙ i.2
    ∙ ap (λ (ts : List Section). need (every has_required ts && kind_before information ss) (fault 20 (lacking_at (stated d) 8 ts) (lacking_at (stated d) 8 ts)) (found ss)) i.1

-- The test is that of the rules of 20.
all_every : (ss : List Section) → All (λ (s : Section). has_required s ≡ true) ss → every has_required ss ≡ true
all_every [] h = refl
all_every (s ∷ ss) h = and_join _ _ h.0 (all_every ss h.1)

every_all : (ss : List Section) → every has_required ss ≡ true → All (λ (s : Section). has_required s ≡ true) ss
every_all [] h = tt
every_all (s ∷ ss) h = let q = and_split (has_required s) (every has_required ss) h in (q.0, every_all ss q.1)

missing_none : (d : List ℕ) (ss : List Section) → Bytes d → reading false d ≡ found ss → Complete (parts_of ss) ↔ (nothing_missing ss ≡ true)
missing_none d ss b e =
    let g = (reading_sound false d ss b e).good.each in
    let back : sections_of (parts_of ss) ≡ ss = group_flat ss (grouped false (external (id_of d)) ss g) in (
      (λ c.
          and_join _ _ (all_every ss (rw back at c.within))
          (sym (ap (kind_before information) back) ∙ has_section information (parts_of ss) refl c.section14)),
      λ t.
          let q = and_split (every has_required ss) (kind_before information ss) t in
          record { section14 = flat_has information ss q.1; within = rw back (every_all ss q.0) },
    )

-- ---- finishing

-- The draft's own fault is given back.
pub finish_own : (d : List ℕ) (f : Fault) → reading false d ≡ refused f → finish d ≡ Refused f.number f.place
unfolding finish as_answer
finish_own d f e = ap (as_answer (λ us. stated d)) (then_refused _ e)

-- Of a draft that reads 20 is given where a required part is missing, and else its length.
read_finish : (d : List ℕ) (ss : List Section) → Bytes d → reading false d ≡ found ss
    → finish d ≡ as_answer (λ us. stated d) (need (nothing_missing ss) (fault 20 (lacking_at (stated d) 8 ss) (lacking_at (stated d) 8 ss)) (found ss))
unfolding finish
read_finish d ss b e = ap (as_answer (λ us. stated d)) (then_found _ e ∙ token_full d ss b e)

pub finish_lacks : (d : List ℕ) (ss : List Section) → Bytes d → reading false d ≡ found ss → (Complete (parts_of ss) → ⊥)
    → finish d ≡ Refused 20 (lacking_at (stated d) 8 ss)
unfolding as_answer
finish_lacks d ss b e c = go (nothing_missing ss) refl
  where
    go : (v : Bool) → nothing_missing ss ≡ v → finish d ≡ Refused 20 (lacking_at (stated d) 8 ss)
    go true q = absurd (c ((missing_none d ss b e).1 q))
    go false q = read_finish d ss b e ∙ ap (as_answer (λ us. stated d)) (need_failed _ _ _ q)

-- The two refusals of finishing: the draft's own fault, and 20.
abbrev Own : List ℕ → ℕ → ℕ → Type 0
Own d n p = (f : Fault) × (reading false d ≡ refused f) × (n ≡ f.number) × (p ≡ f.place)

abbrev Lacks : List ℕ → ℕ → ℕ → Type 0
Lacks d n p = (ss : List Section)
    × (reading false d ≡ found ss)
    × (Complete (parts_of ss) → ⊥)
    × (n ≡ 20)
    × (p ≡ lacking_at (stated d) 8 ss)

-- Finishing refuses by the one or the other.
pub finish_refuses : (d : List ℕ) (n p : ℕ) → Bytes d → (finish d ≡ Refused n p) ↔ (Own d n p ⊎ Lacks d n p)
unfolding as_answer
finish_refuses d n p b = ((λ e. go (reading false d) refl e), λ w. back w)
  where
    within : (ss : List Section) → reading false d ≡ found ss → finish d ≡ Refused n p → Complete (parts_of ss) → ⊥
    within ss r e c =
        let t : finish d ≡ Accepted (stated d) =
        read_finish d ss b r ∙ ap (as_answer (λ us. stated d)) (need_passed _ _ _ ((missing_none d ss b r).0 c)) in
        let z : ◌≡◌ {A = ℕ} 0 1 = cc in
        omega arith

    go : (o : Outcome (List Section)) → reading false d ≡ o → finish d ≡ Refused n p → Own d n p ⊎ Lacks d n p
    go (refused f) r e =
        let t = finish_own d f r in
        let m : n ≡ f.number = same_number (sym e ∙ t) in
        let k : p ≡ f.place = same_place (sym e ∙ t) in
        inl (f, r, m, k)
    go (found ss) r e =
        let c = within ss r e in
        let t = finish_lacks d ss b r c in
        let m : n ≡ 20 = same_number (sym e ∙ t) in
        let k : p ≡ lacking_at (stated d) 8 ss = same_place (sym e ∙ t) in
        inr (ss, r, c, m, k)

    back : Own d n p ⊎ Lacks d n p → finish d ≡ Refused n p
    back (inl w) = finish_own d w.0 w.1 ∙ ap₂ Refused (sym w.2) (sym w.3)
    back (inr w) = finish_lacks d w.0 b w.1 w.2 ∙ ap₂ Refused (sym w.3) (sym w.4)

-- What is finished has the length that the header states,
pub finish_length : (d : List ℕ) (n : ℕ) → finish d ≡ Accepted n → n ≡ stated d
unfolding finish
finish_length d n e = sym (told_accepted _ (and_then (reading false d) (λ ss. reading true (take (stated d) d))) n e).2

-- and is a legal token.
pub finish_legal : (d : List ℕ) (n : ℕ) → Bytes d → finish d ≡ Accepted n → Legal (take n d)
unfolding finish
finish_legal d n b e =
    let t = told_accepted _ (and_then (reading false d) (λ ss. reading true (take (stated d) d))) n e in
    let f = followed (reading false d) _ t.0 t.1 in
    subst (λ (m : ℕ). Legal (take m d)) t.2 (read_legal (take (stated d) d) t.0 (bytes_take (stated d) d b) f.2)

-- ---- its numbers

-- No refusal of finishing has the number 0.
finish_positive : (d : List ℕ) (n p : ℕ) → finish d ≡ Refused n p → 1 ≤ n
unfolding finish as_answer and_then
finish_positive d n p e = draft (reading false d) refl e
  where
    token : (o : Outcome (List Section)) → reading true (take (stated d) d) ≡ o → as_answer (λ us. stated d) o ≡ Refused n p → 1 ≤ n
    token (refused f) q w = let m = same_number w in let r = fault_number true (take (stated d) d) f q in omega (arith, r)
    token (found us) q w = absurd (let z : ◌≡◌ {A = ℕ} 0 1 = cc in omega arith)

    draft : (o : Outcome (List Section)) → reading false d ≡ o
        → as_answer (λ us. stated d) (and_then o (λ ss. reading true (take (stated d) d))) ≡ Refused n p → 1 ≤ n
    draft (refused f) q w = let m = same_number w in let r = fault_number false d f q in omega (arith, r)
    draft (found ss) q w = token (reading true (take (stated d) d)) refl w

-- What they say of a draft that holds a choice,
pub finished_numbers : (i : ℕ) (ps : List Part) (d : List ℕ) → Draft i ps d
    → ((number_of (finish d) ≡ 0) ↔ Legal (written i ps)) × (Legal (written i ps) → second_of (finish d) ≡ length (written i ps))
finished_numbers i ps d w =
    let told : Legal (written i ps) → answer_numbers (finish d) ≡ 0 ∷ length (written i ps) ∷ [] =
    λ l. accepted_told ((finish_exactly i ps d w (length (written i ps))).1 (l, refl)) in (
      (
        (λ e. ((finish_exactly i ps d w (second_of (finish d))).0 (zero_told (finish d) (finish_positive d) e)).0),
        λ l. first (told l),
      ),
      λ l. second (told l),
    )

-- A lent draft whose first bytes are a legal token is the draft of its choice.
legal_draft : (d : List ℕ) (l : Legal (take (stated d) d)) → Draft l.id l.parts d
legal_draft d l =
    let same = l.form.same in
    let n = ap length same in
    let most = l.at_most in
    draft_of l.id l.parts d (drop (stated d) d) l.form.choice l.lawful (omega arith)
    (sym (take-append-drop (stated d) d) ∙ ap (λ (y : List ℕ). y ++ drop (stated d) d) (sym same))

-- and of any lent draft.
pub finish_numbers : (d : List ℕ) → Bytes d
    → ((number_of (finish d) ≡ 0) ↔ Legal (take (stated d) d))
    × (Legal (take (stated d) d) → second_of (finish d) ≡ stated d)
    × ((number_of (finish d) ≡ 20) ↔ ((ss : List Section) × (reading false d ≡ found ss) × (Complete (parts_of ss) → ⊥)))
    × ((ss : List Section) → reading false d ≡ found ss → (Complete (parts_of ss) → ⊥) → second_of (finish d) ≡ lacking_at (stated d) 8 ss)
    × ((f : Fault) → reading false d ≡ refused f → answer_numbers (finish d) ≡ f.number ∷ f.place ∷ [])
finish_numbers d b = (
  ((λ e. legal e), λ l. first (done l)),
  (λ l. second (done l)),
  ((λ e. lacks ((finish_refuses d 20 (second_of (finish d)) b).0 (twenty e))), λ w. first (refused_told (finish_lacks d w.0 b w.1 w.2))),
  (λ ss e c. second (refused_told (finish_lacks d ss b e c))),
  λ f e. refused_told (finish_own d f e),
)
  where
    done : Legal (take (stated d) d) → answer_numbers (finish d) ≡ 0 ∷ stated d ∷ []
    done l =
        let w = legal_draft d l in
        accepted_told
        ((finish_exactly l.id l.parts d w (stated d)).1 (subst Legal (sym l.form.same) l, (draft_header l.id l.parts d w).1))

    legal : number_of (finish d) ≡ 0 → Legal (take (stated d) d)
    legal e = let z = zero_told (finish d) (finish_positive d) e in subst (λ (n : ℕ). Legal (take n d)) (finish_length d (second_of (finish d)) z) (finish_legal d (second_of (finish d)) b z)

    twenty : number_of (finish d) ≡ 20 → finish d ≡ Refused 20 (second_of (finish d))
    twenty e = other_told (finish d) (λ z. omega arith) ∙ ap (λ (n : ℕ). Refused n (second_of (finish d))) e

    lacks : Own d 20 (second_of (finish d)) ⊎ Lacks d 20 (second_of (finish d))
        → (ss : List Section) × (reading false d ≡ found ss) × (Complete (parts_of ss) → ⊥)
    lacks (inl w) = absurd (draft_not_20 d w.0 w.1 (sym w.2))
    lacks (inr w) = (w.0, w.1, w.2)
