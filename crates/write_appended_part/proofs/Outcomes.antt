-- What an outcome says of the answer and of the lent draft. Assumes nothing.
use Rattle.std.specs.Prelude.{Err}
use mathlib.Core.Path.{◌≡◌, refl, sym, ap, ap₂, ◌∙◌}
use mathlib.Core.Bool.{Bool, true, false, ◌&&◌, and-false}
use mathlib.Core.List.{List, ◌++◌}
use Prim.Native.Nat.{ℕ, ◌+◌, ◌<◌, ◌≤◌}
use native.Mathlib.Omega.{arith}
use lib.Dec.{leb}
use lib.ListN.{length, drop}
use borrow.Author.Tests.{le-leb, lt-leb}
use Rattle.format.specs.Rules.{longest}
use Rattle.format.specs.Reading.{Fault, Outcome, refused, found, fault, and_then, as_answer, stated, reading, row_count}
use Rattle.format.specs.Writer.{write_answer, draft_after}
use Rattle.format.specs.Answers.{Answer, Accepted, Refused}
use Rattle.format.specs.declared.Refusal.{Refusal}
use Rattle.format.proofs.Answers.{same_number, same_place}
use Rattle.format.proofs.Tests.{need_passed, need_failed, then_found, then_refused}
use Rattle.write_appended_part.specs.Appended.{Standing, grown, appended}
use Rattle.write_appended_part.proofs.Longer.{grown_long}

-- ---- the answer taken apart

-- A refused answer comes from a refusal with its number and its place,
pub record RefusedBy {A : Type 0} (o : Outcome A) (n p : ℕ) : Type 0 where
  pub cause : Fault
  pub is : o ≡ refused cause
  pub number : n ≡ cause.number
  pub place : p ≡ cause.place

pub told_refused : {A : Type 0} {n p : ℕ} (count : A → ℕ) (o : Outcome A) → Refused n p ≡ as_answer count o → RefusedBy o n p
unfolding as_answer
told_refused count (refused f) e = record { cause = f; is = refl; number = same_number e; place = same_place e }
told_refused count (found a) e = absurd (let y : ◌≡◌ {A = ℕ} 0 1 = cc in omega arith)

-- and an accepted one from something found.
pub told_found : {A : Type 0} {n : ℕ} (count : A → ℕ) (o : Outcome A) → Accepted n ≡ as_answer count o → (a : A) × (o ≡ found a)
unfolding as_answer
told_found count (refused f) e = absurd (let y : ◌≡◌ {A = ℕ} 0 1 = cc in omega arith)
told_found count (found a) e = (a, refl)

-- ---- the answer of a call that writes, and the lent draft

-- A refusal is told with its number and place, and leaves the draft as it was.
pub refused_written : {n p : ℕ} (o : Outcome (List ℕ)) (d : List ℕ) → RefusedBy o n p → (Refused n p ≡ write_answer o) × (d ≡ draft_after o d)
unfolding as_answer
refused_written o d r =
    (ap₂ Refused r.number r.place ∙ sym (ap write_answer r.is), sym (ap (λ (y : Outcome (List ℕ)). draft_after y d) r.is))

-- What is found is told with its length, and stands in the draft from its start on.
pub found_written : {n : ℕ} (o : Outcome (List ℕ)) (d bs : List ℕ) → o ≡ found bs → n ≡ length bs
    → (Accepted n ≡ write_answer o) × (bs ++ drop (length bs) d ≡ draft_after o d)
unfolding as_answer
found_written o d bs e l = (ap Accepted l ∙ sym (ap write_answer e), sym (ap (λ (y : Outcome (List ℕ)). draft_after y d) e))

-- The answer and the draft of one outcome are those of another that is the same.
pub same_written : {a : Answer} {new : List ℕ} {o u : Outcome (List ℕ)} (d : List ℕ) → o ≡ u → a ≡ write_answer o → new ≡ draft_after o d
    → (a ≡ write_answer u) × (new ≡ draft_after u d)
same_written d e a b = (a ∙ ap write_answer e, b ∙ ap (λ (y : Outcome (List ℕ)). draft_after y d) e)

-- ---- the draft with a part after it

-- The test for room: k bytes more are no more than a token may have, and no more than were lent.
abbrev pub fitting : List ℕ → ℕ → Bool
fitting d k = leb (stated d + k) longest && leb (stated d + k) (length d)

pub past_most : (d : List ℕ) (k : ℕ) → longest < stated d + k → fitting d k ≡ false
past_most d k h = ap (λ (b : Bool). b && leb (stated d + k) (length d)) (lt-leb (stated d + k) longest h)

pub past_lent : (d : List ℕ) (k : ℕ) → length d < stated d + k → fitting d k ≡ false
past_lent d k h = ap (λ (b : Bool). leb (stated d + k) longest && b) (lt-leb (stated d + k) (length d) h) ∙ and-false (leb (stated d + k) longest)

pub fits_in : (d : List ℕ) (k : ℕ) → stated d + k ≤ longest → stated d + k ≤ length d → fitting d k ≡ true
fits_in d k h l = ap₂ (λ (a b : Bool). a && b) (le-leb (stated d + k) longest h) (le-leb (stated d + k) (length d) l)

-- 23.
pub no_room : {r : Refusal} {n : ℕ} (d : List ℕ) (o : ℕ) (w : List ℕ) → r ≡ record { number = 23; place = n } → n ≡ stated d
    → fitting d (length w) ≡ false → (Err r ≡ write_answer (appended d o w)) × (d ≡ draft_after (appended d o w) d)
unfolding appended
no_room d o w t e b =
    refused_written (appended d o w) d
    (record { cause = fault 23 (stated d) (stated d); is = need_failed (fitting d (length w)) _ _ b; number = ap (λ (r : Refusal). r.number) t; place = ap (λ (r : Refusal). r.place) t ∙ e })

-- Where there is room, the longer draft is read.
has_room : (d : List ℕ) (o : ℕ) (w : List ℕ) → stated d + length w ≤ longest → stated d + length w ≤ length d
    → appended d o w ≡ and_then (reading false (grown d o w)) (λ ts. found (grown d o w))
unfolding appended
has_room d o w h k = need_passed (fitting d (length w)) _ _ (fits_in d (length w) h k)

-- Its refusal is the answer,
pub longer_refused : {n p : ℕ} {bs : List ℕ} (d : List ℕ) (o : ℕ) (w : List ℕ) → stated d + length w ≤ longest
    → stated d + length w ≤ length d → bs ≡ grown d o w → Refused n p ≡ as_answer row_count (reading false bs)
    → (Refused n p ≡ write_answer (appended d o w)) × (d ≡ draft_after (appended d o w) d)
longer_refused {n} {p} {bs} d o w h k e a =
    let r = told_refused row_count (reading false bs) a in
    let s : reading false (grown d o w) ≡ refused r.cause = ap (reading false) (sym e) ∙ r.is in
    refused_written (appended d o w) d
    (record { cause = r.cause; is = has_room d o w h k ∙ then_refused _ s; number = r.number; place = r.place })

-- and where it is accepted it stands in the draft.
pub longer_found : {n m : ℕ} {bs new : List ℕ} (d : List ℕ) (o : ℕ) (w : List ℕ) → Standing d o → stated d + length w ≤ longest
    → stated d + length w ≤ length d → bs ≡ grown d o w → Accepted m ≡ as_answer row_count (reading false bs)
    → n ≡ stated d + length w → new ≡ grown d o w ++ drop (stated d + length w) d
    → (Accepted n ≡ write_answer (appended d o w)) × (new ≡ draft_after (appended d o w) d)
longer_found {n} {m} {bs} {new} d o w s h k e a l t =
    let r = told_found row_count (reading false bs) a in
    let g : reading false (grown d o w) ≡ found r.0 = ap (reading false) (sym e) ∙ r.1 in
    let long : stated d + length w ≡ length (grown d o w) = sym (grown_long d o w s) in
    let f = found_written (appended d o w) d (grown d o w) (has_room d o w h k ∙ then_found _ g) (l ∙ long) in
    (f.0, t ∙ ap (λ (j : ℕ). grown d o w ++ drop j d) long ∙ f.1)
