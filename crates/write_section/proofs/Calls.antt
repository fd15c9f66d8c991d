-- The draft's own fault, and where an addition goes on after it. Assumes nothing.
use Rattle.std.specs.Prelude.{Err}
use mathlib.Core.Path.{◌≡◌, refl, sym, ap, ap₂, ◌∙◌}
use mathlib.Core.Bool.{Bool, true, false, ◌&&◌}
use mathlib.Core.List.{List, ◌++◌}
use mathlib.Core.Logic.{inl}
use Prim.Native.Nat.{ℕ, ◌+◌, ◌≤◌}
use native.Mathlib.Omega.{arith}
use lib.Dec.{leb}
use lib.ListN.{length}
use borrow.Author.Tests.{leb-true}
use Rattle.format.specs.Rules.{longest, Section}
use Rattle.format.specs.Reading.{Fault, Outcome, refused, found, fault, need, and_then, as_answer, stated, header_checks, reading, row_count}
use Rattle.format.specs.Writer.{write_answer, draft_after}
use Rattle.format.specs.declared.Refusal.{Refusal}
use Rattle.format.specs.Answers.{Answer, Accepted, Refused}
use Rattle.format.proofs.Answers.{same_number, same_place}
use Rattle.format.proofs.Tests.{tests_passed, needed, followed, then_found, then_refused, Hold}
use Rattle.format.proofs.Finding.{and_split}
use Rattle.read_token.proofs.Headers.{lengths}
use Rattle.write_last_part.specs.Tiling.{Reads}
use Rattle.write_appended_part.specs.Appended.{Standing, grown, appended}
use Rattle.write_appended_part.proofs.Outcomes.{RefusedBy, told_refused, told_found, refused_written, same_written}
use Rattle.write_section.specs.Adding.{refused_after, own_first, unfit}

-- ---- the draft's own reading

-- An accepted answer: the draft reads.
pub reads : {n : ℕ} (d : List ℕ) → Accepted n ≡ as_answer row_count (reading false d) → Reads d
reads d a = told_found row_count (reading false d) a

-- Where its header passes its tests, its bytes are there,
pub header_standing : (d : List ℕ) → Hold (header_checks false d) → Standing d 0
header_standing d h =
    let l = lengths false d h in
    let a = l.least in
    record { least = a; most = l.most; there = l.within; head = omega arith; ends = omega arith; apart = inl refl }

-- and so where it reads.
pub header_stands : (d : List ℕ) → Reads d → Standing d 0
unfolding reading
header_stands d r = header_standing d (tests_passed 0 (header_checks false d) _ r.0 r.1).0

-- The draft's own fault is the answer of every call, and the draft is as it was.
pub fault_first : {n p : ℕ} (d : List ℕ) (next : List Section → Outcome (List ℕ)) → Refused n p ≡ as_answer row_count (reading false d)
    → (Refused n p ≡ write_answer (and_then (reading false d) next)) × (d ≡ draft_after (and_then (reading false d) next) d)
fault_first d next a =
    let r = told_refused row_count (reading false d) a in
    refused_written (and_then (reading false d) next) d
    (record { cause = r.cause; is = then_refused next r.is; number = r.number; place = r.place })

-- Where the draft reads, a refusal stays.
pub fault_else : {r : ℕ} (d : List ℕ) (n p : ℕ) → Accepted r ≡ as_answer row_count (reading false d) → Refused n p ≡ write_answer (refused_after d n p)
fault_else d n p a =
    let r = reads d a in
    (refused_written (refused_after d n p) d (record { cause = fault n p p; is = then_found _ r.1; number = refl; place = refl })).0

-- What is told of a refusal made in the call.
pub told_at : {a : Answer} {r : Refusal} {n p : ℕ} (d : List ℕ) → r ≡ record { number = n; place = p } → a ≡ write_answer (refused_after d r.number r.place)
    → a ≡ write_answer (refused_after d n p)
told_at d e a = a ∙ ap (λ (r : Refusal). write_answer (refused_after d r.number r.place)) e

-- ---- the answer where a field does not fit

pub unfit_fault : {n p : ℕ} (d : List ℕ) → Refused n p ≡ as_answer row_count (reading false d) → Refused n p ≡ write_answer (unfit d)
unfolding unfit
unfit_fault d a = (fault_first d _ a).0

-- 24.
pub unfit_else : {r : Refusal} {n : ℕ} (d : List ℕ) → Reads d → r ≡ record { number = 24; place = n } → n ≡ stated d → Err r ≡ write_answer (unfit d)
unfolding unfit
unfit_else d w t e =
    ap (λ (r : Refusal). Err r) t
    ∙ (refused_written (unfit d) d (record { cause = fault 24 (stated d) (stated d); is = then_found _ w.1; number = refl; place = e })).0

-- ---- a refusal that gives way to the draft's own fault

-- The draft does not read: its own fault is the answer.
pub unread : {r : Answer} (d : List ℕ) (next : List Section → Outcome (List ℕ)) → (Reads d → ⊥) → r ≡ as_answer row_count (reading false d)
    → (r ≡ write_answer (and_then (reading false d) next)) × (d ≡ draft_after (and_then (reading false d) next) d)
unfolding as_answer and_then
unread d next n a = go (reading false d) refl a
  where
    go : {r : Answer} (o : Outcome (List Section)) → reading false d ≡ o → r ≡ as_answer row_count o
        → (r ≡ write_answer (and_then o next)) × (d ≡ draft_after (and_then o next) d)
    go (refused f) e q = (q, refl)
    go (found ss) e q = absurd (n (ss, e))

-- Two refusals with one number and one place are told alike.
told_alike : (o : Outcome (List Section)) (n p : ℕ) (f : Fault) → n ≡ f.number → p ≡ f.place
    → (write_answer (and_then o (λ ss. refused (fault n p p))) ≡ write_answer (and_then o (λ ss. refused f)))
unfolding as_answer and_then
told_alike (refused g) n p f a b = refl
told_alike (found ss) n p f a b = ap₂ Refused a b

pub kept : (o : Outcome (List Section)) (f : Fault) (d : List ℕ) → draft_after (and_then o (λ ss. refused f)) d ≡ d
unfolding and_then
kept (refused g) f d = refl
kept (found ss) f d = refl

-- A refused outcome, its draft as it was, and the answer that the draft's own fault or the refusal gives.
pub own_refused : {n p : ℕ} {r : Answer} {e : List ℕ} (d : List ℕ) (o : Outcome (List ℕ)) → Refused n p ≡ write_answer o → e ≡ draft_after o d
    → r ≡ write_answer (refused_after e n p) → (r ≡ write_answer (own_first d o)) × (e ≡ draft_after (own_first d o) d)
unfolding own_first
own_refused {n} {p} {r} {e} d o a s q = go (told_refused length o a)
  where
    go : RefusedBy o n p → (r ≡ write_answer (own_first d o)) × (e ≡ draft_after (own_first d o) d)
    go w =
        let same : e ≡ d = s ∙ ap (λ (y : Outcome (List ℕ)). draft_after y d) w.is in
        let own : own_first d o ≡ and_then (reading false d) (λ ss. refused w.cause) = ap (own_first d) w.is in (
          q ∙ ap (λ (y : List ℕ). write_answer (refused_after y n p)) same ∙ told_alike (reading false d) n p w.cause w.number w.place ∙ sym (ap write_answer own),
          same ∙ sym (ap (λ (y : Outcome (List ℕ)). draft_after y d) own ∙ kept (reading false d) w.cause d),
        )

-- What was found stays.
pub own_found : {n : ℕ} {e : List ℕ} (d : List ℕ) (o : Outcome (List ℕ)) → Accepted n ≡ write_answer o → e ≡ draft_after o d
    → (Accepted n ≡ write_answer (own_first d o)) × (e ≡ draft_after (own_first d o) d)
unfolding own_first
own_found d o a s =
    let w = told_found length o a in
    same_written d (w.1 ∙ sym (ap (own_first d) w.1)) a s

-- Where the draft reads whenever something is found, its own fault comes first in any case.
pub own_first_is : (d : List ℕ) (o : Outcome (List ℕ)) → ((bs : List ℕ) → o ≡ found bs → Reads d)
    → own_first d o ≡ and_then (reading false d) (λ ss. o)
unfolding own_first
own_first_is d (refused f) h = refl
own_first_is d (found bs) h = sym (then_found _ (h bs refl).1)

-- What appending has passed: there is room, and the longer draft reads.
pub appended_passed : (d : List ℕ) (o : ℕ) (w bs : List ℕ) → appended d o w ≡ found bs
    → (stated d + length w ≤ longest) × ((ts : List Section) × (reading false (grown d o w) ≡ found ts))
unfolding appended
appended_passed d o w bs e =
    let n = needed (leb (stated d + length w) longest && leb (stated d + length w) (length d)) _ _ bs e in
    let f = followed (reading false (grown d o w)) _ bs n.1 in
    (leb-true (stated d + length w) longest (and_split (leb (stated d + length w) longest) (leb (stated d + length w) (length d)) n.0).0, (f.0, f.1))

-- A refusal of appending with any number but 23 is the longer draft's, at its place.
pub appended_refused : {n p : ℕ} (d : List ℕ) (o : ℕ) (w : List ℕ) → Refused n p ≡ write_answer (appended d o w) → (n ≡ 23 → ⊥)
    → (stated d + length w ≤ longest) × ((f : Fault) × ((reading false (grown d o w) ≡ refused f) × (p ≡ f.place)))
unfolding appended need and_then as_answer
appended_refused {n} {p} d o w a other = go (leb (stated d + length w) longest) (leb (stated d + length w) (length d)) (reading false (grown d o w)) refl refl a
  where
    go : (u v : Bool) (r : Outcome (List Section)) → leb (stated d + length w) longest ≡ u → reading false (grown d o w) ≡ r
        → Refused n p ≡ write_answer (need (u && v) (fault 23 (stated d) (stated d)) (and_then r (λ ts. found (grown d o w))))
        → (stated d + length w ≤ longest) × ((f : Fault) × ((reading false (grown d o w) ≡ refused f) × (p ≡ f.place)))
    go true true (refused f) e q y = (leb-true (stated d + length w) longest e, (f, (q, same_place y)))
    go true true (found ts) e q y = absurd (let z : ◌≡◌ {A = ℕ} 0 1 = cc in omega arith)
    go true false r e q y = absurd (other (same_number y))
    go false v r e q y = absurd (other (same_number y))

-- Where it comes so late that the draft reads, it is the answer.
pub own_late : {n p : ℕ} {new : List ℕ} (d : List ℕ) (o : ℕ) (w : List ℕ) → Reads d
    → Refused n p ≡ write_answer (appended d o w) → new ≡ draft_after (appended d o w) d
    → (Refused n p ≡ write_answer (own_first d (appended d o w))) × (new ≡ draft_after (own_first d (appended d o w)) d)
unfolding own_first
own_late d o w r a s =
    let t = told_refused length (appended d o w) a in
    same_written d (t.is ∙ sym (then_found _ r.1) ∙ sym (ap (own_first d) t.is)) a s

-- Where the last section, read by itself, is all that is left of the draft's reading, its refusal is the answer,
pub left_refused : {n p m q : ℕ} {new : List ℕ} (d : List ℕ) (o : ℕ) (w : List ℕ) (rest : Outcome (List Section)) (ss : List Section)
    → reading false d ≡ and_then rest (λ ts. found (ss ++ ts))
    → Refused n p ≡ write_answer (appended d o w) → new ≡ draft_after (appended d o w) d → Refused m q ≡ as_answer row_count rest
    → (Refused m q ≡ write_answer (own_first d (appended d o w))) × (new ≡ draft_after (own_first d (appended d o w)) d)
unfolding own_first
left_refused {n} {p} {m} {q} {new} d o w rest ss e a s own =
    let t = told_refused length (appended d o w) a in
    let r = told_refused row_count rest own in
    let fault : own_first d (appended d o w) ≡ refused r.cause = ap (own_first d) t.is ∙ then_refused _ (e ∙ then_refused _ r.is) in
    let same : new ≡ d = s ∙ ap (λ (y : Outcome (List ℕ)). draft_after y d) t.is in
    let v = refused_written (own_first d (appended d o w)) d (record { cause = r.cause; is = fault; number = r.number; place = r.place }) in
    (v.0, same ∙ v.1)

-- and where it is found, the draft reads.
pub left_found : {m : ℕ} (d : List ℕ) (rest : Outcome (List Section)) (ss : List Section) → reading false d ≡ and_then rest (λ ts. found (ss ++ ts))
    → Accepted m ≡ as_answer row_count rest → Reads d
left_found d rest ss e own = let r = told_found row_count rest own in (ss ++ r.0, e ∙ then_found _ r.1)

-- A refusal leaves the draft as it was.
pub refused_kept : (d : List ℕ) (n p : ℕ) → draft_after (refused_after d n p) d ≡ d
refused_kept d n p = kept (reading false d) (fault n p p) d
