-- The reading's answer in front of a view or a step, and where a field lies.
use Rattle.std.specs.Prelude.{Err}
use mathlib.Core.Path.{◌≡◌, refl, sym, ap, ◌∙◌}
use mathlib.Core.Bool.{true}
use mathlib.Core.List.{List}
use Prim.Native.Nat.{ℕ, ◌+◌, ◌-◌, ◌<◌, ◌≤◌}
use native.Mathlib.Omega.{arith}
use lib.ListN.{length, get_or, take, drop}
use Rattle.format.specs.Bytes.{bytes_at}
use Rattle.format.specs.Rules.{longest, Section}
use Rattle.format.specs.Reading.{Fault, Outcome, refused, found, reading, row_count, as_answer, answer}
use Rattle.format.specs.Views.{field_at, bytes_there, step_at}
use Rattle.format.specs.Answers.{Accepted, At, Missing}
use Rattle.format.specs.declared.Refusal.{Refusal}
use Rattle.format.proofs.Accepted.{reading_sound, whole_token, read_legal}
use Rattle.format.proofs.Viewing.{no_token, field_inside}
use Rattle.format.proofs.Walking.{step_refused}
use Rattle.reading.proofs.Filled.{accepted_read, bytes_of}
use Rattle.view_rows.specs.Walk.{Whole}

-- An accepted token is whole.
pub whole : {n : ℕ} (s : List ℕ) → Accepted n ≡ answer s → ((k : ℕ) → get_or s k 0 < 256) → Whole s
whole s e small = let r = accepted_read s e in record { sections = r.sections; bytes = bytes_of s small; read = r.read }

-- A refusal comes from the reading.
refusal : {r : Refusal} (s : List ℕ) → Err r ≡ answer s
    → (f : Fault) × ((reading true s ≡ refused f) × (r ≡ record { number = f.number; place = f.place }))
unfolding answer as_answer
refusal {r} s e = go (reading true s) refl e
  where
    go : (o : Outcome (List Section)) → reading true s ≡ o → Err r ≡ as_answer row_count o
        → (f : Fault) × ((reading true s ≡ refused f) × (r ≡ record { number = f.number; place = f.place }))
    go (refused f) q w = (f, (q, cc))
    go (found ss) q w = absurd (let y : ◌≡◌ {A = ℕ} 0 1 = cc in omega arith)

pub field_refused : {r : Refusal} (s : List ℕ) (row field : ℕ) → Err r ≡ answer s → Err r ≡ field_at s row field
field_refused s row field e =
    let f = refusal s e in
    ap Err f.1.1 ∙ sym (no_token s f.0 row field f.1.0)

pub walk_refused : {r : Refusal} (s : List ℕ) (at : ℕ) → Err r ≡ answer s → Err r ≡ step_at s at
walk_refused s at e =
    let f = refusal s e in
    ap Err f.1.1 ∙ sym (step_refused s f.0 at f.1.0)

-- A field lies within the token.
pub field_within : {o n : ℕ} (s : List ℕ) (row field : ℕ) → ((k : ℕ) → get_or s k 0 < 256) → At o n ≡ field_at s row field
    → (o + n ≤ length s) × (length s ≤ longest)
field_within {o} {n} s row field small e = go (reading true s) refl
  where
    go : (t : Outcome (List Section)) → reading true s ≡ t → (o + n ≤ length s) × (length s ≤ longest)
    go (refused f) q = absurd (let w : At o n ≡ Missing f.number f.place = e ∙ no_token s f row field q in let y : ◌≡◌ {A = ℕ} 0 1 = cc in omega arith)
    go (found ss) q =
        let b = bytes_of s small in
        let l = whole_token s ss q in
        let m = (reading_sound true s ss b q).most in
        let i = field_inside s (read_legal s ss b q) row field o n (sym e) in
        (i.1, omega arith)

-- ---- the part of the token

-- Where it does, the bytes from its offset to its end are its bytes.
pub part_there : (s : List ℕ) (o n : ℕ) → take ((o + n) - o) (drop o s) ≡ bytes_there s (At o n)
unfolding bytes_at
part_there s o n = let e : (o + n) - o ≡ n = omega arith in ap (λ (k : ℕ). take k (drop o s)) e
