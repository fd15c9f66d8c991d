-- What a run of calls makes of a draft, by the contracts of the calls alone. Assumes nothing.
use mathlib.Core.Path.{◌≡◌, refl, sym, ap, ◌∙◌, subst}
use mathlib.Core.List.{List, []}
use Prim.Native.Nat.{ℕ, ◌<◌}
use native.Mathlib.Omega.{arith}
use lib.ListN.{length, take}
use Rattle.format.specs.Bytes.{All, Bytes}
use Rattle.format.specs.Parts.{Part, written, WrittenForm}
use Rattle.format.specs.Legal.{Legal}
use Rattle.format.specs.Reading.{Outcome, found}
use Rattle.format.specs.Writer.{draft_after, start, addition, finish}
use Rattle.format.specs.Answers.{Accepted, Refused}
use Rattle.format.specs.Claims.{additions}
use Rattle.format.proofs.Tests.{then_found}
use Rattle.format.proofs.Grouping.{stateable}
use Rattle.format.proofs.Unique as Unique
use Rattle.format.proofs.Writing as Writing
use Rattle.format.proofs.Writing.{told_accepted}
use Rattle.write_appended_part.proofs.Outcomes.{told_refused}
use Rattle.writer.specs.Runs.{Call, Run, done, added}
use Rattle.writer.specs.Runs as Runs

-- An accepted call has found the draft that it leaves,
accepted_found : (o : Outcome (List ℕ)) (d : List ℕ) (n : ℕ) (e : List ℕ) → Call o d (Accepted n) e
    → (bs : List ℕ) × ((o ≡ found bs) × (e ≡ draft_after (found bs) d))
accepted_found o d n e c =
    let f = told_accepted length o n (sym c.answer) in
    (f.0, (f.1, c.draft ∙ ap (λ (q : Outcome (List ℕ)). draft_after q d) f.1))

-- and a refused one leaves it as it was.
refused_same : (o : Outcome (List ℕ)) (d : List ℕ) (m q : ℕ) (e : List ℕ) → Call o d (Refused m q) e → e ≡ d
refused_same o d m q e c =
    let f = told_refused length o c.answer in
    c.draft ∙ ap (λ (y : Outcome (List ℕ)). draft_after y d) f.is

-- A run adds, by the definition, the parts whose calls were accepted.
run_adds : {ps qs : List Part} {d e : List ℕ} → Run ps qs d e → additions qs d ≡ found e
unfolding additions
run_adds done = refl
run_adds (added {p} {ps} {qs} {d} {x} {e} {n} c r) =
    let f = accepted_found (addition p.kind p.fields d) d n x c in
    then_found _ f.1.0 ∙ ap (additions qs) (sym f.1.1) ∙ run_adds r
run_adds (Runs.refused {p} {ps} {qs} {d} {x} {e} {m} {q} c r) =
    let s = refused_same (addition p.kind p.fields d) d m q x c in
    ap (additions qs) (sym s) ∙ run_adds r

-- "What the writer finishes, its draft touched by nothing else since the start, is a legal token whose parts are the ones
-- added, in that order": of an accepted start, any additions and an accepted finish; a refused addition adds nothing.
pub finished_is_legal : (i : ℕ) (ps qs : List Part) (d x e : List ℕ) (m n : ℕ) → i < 256 → All (λ (p : Part). All Bytes p.fields) qs
    → Call (start i d) d (Accepted m) x → Run ps qs x e → Accepted n ≡ finish e
    → (l : Legal (take n e)) × ((l.id ≡ i) × (l.parts ≡ qs))
finished_is_legal i ps qs d x e m n h b s r f =
    let a = accepted_found (start i d) d m x s in
    let w₀ = subst (Writing.Draft i []) (sym a.1.1) (Writing.started i d a.0 h a.1.0) in
    let w = Writing.run_read qs i [] x e w₀ b (run_adds r) in
    let l = (Writing.finish_exactly i qs e w n).0 (sym f) in
    let front = Writing.draft_front i qs e w in
    let st = (Writing.draft_header i qs e w).1 in
    let same : written i qs ≡ take n e = sym front ∙ ap (λ (k : ℕ). take k e) (st ∙ sym l.1) in
    let legal : Legal (take n e) = subst Legal same l.0 in
    let lw = Unique.written_length i qs in
    let small = w.small in
    let form : WrittenForm i qs (take n e) = record { choice = w.choice; parts = stateable qs (omega arith); whole = omega arith; same = same } in
    let one = Unique.one_choice legal.id i legal.parts qs (take n e) legal.form form in
    (legal, (one.0, one.1))
