-- The rows of a legal token as additions: what is left to add makes the whole token.
use Rattle.std.specs.Prelude.{Ok, Err, Some}
use mathlib.Core.Path.{◌≡◌, refl, sym, ap, ◌∙◌, subst}
use mathlib.Core.Bool.{true}
use mathlib.Core.List.{List, [], ◌∷◌, ◌++◌}
use Prim.Native.Nat.{ℕ, suc, ◌+◌, ◌<◌, ◌≤◌}
use native.Mathlib.Omega.{arith}
use lib.ListN.{length, drop, get_or, get_elem?, drop_of_length-le}
use Rattle.format.specs.Bytes.{Bytes}
use Rattle.format.specs.Layout.{Fields}
use Rattle.format.specs.Parts.{Kind, kind_number, Part, size, written}
use Rattle.format.specs.Legal.{Legal}
use Rattle.format.specs.Reading.{Outcome, found, fault, reading, as_answer, row_count, answer}
use Rattle.format.specs.Table.{Placed, after_header, placed}
use Rattle.format.specs.Writer.{write_answer, draft_after, start, addition, finish}
use Rattle.format.specs.Claims.{additions}
use Rattle.format.specs.Answers.{Answer, Step, Record, End, Accepted, Refused}
use Rattle.format.specs.declared.Refusal.{Refusal}
use Rattle.format.specs.declared.Row.{Row}
use Rattle.format.specs.declared.RowStep.{RowStep}
use Rattle.format.proofs.Finding.{number_told}
use Rattle.format.proofs.Elements.{there, some_inj}
use Rattle.format.proofs.Rows.{placed_count}
use Rattle.format.proofs.Tests.{found_inj, followed}
use Rattle.format.proofs.Tiling.{row_of}
use Rattle.format.proofs.Unique.{one_choice}
use Rattle.format.proofs.Writing as Writing
use Rattle.format.proofs.Viewing.{read_parts}
use Rattle.reading.proofs.Filled.{accepted_read}
use Rattle.write_appended_part.proofs.Outcomes.{told_refused, refused_written, found_written}
use Rattle.walker.specs.Walking.{step_after}
use Rattle.walker.proofs.Main.{behind_row}
use Rattle.writer.specs.Runs.{Call}
use Rattle.rebuild.specs.Rebuilding.{rebuilt}
use Rattle.rebuild.proofs.Main.{gives_back, without_room, own_fault}
use Rattle.rebuild_parts.specs.Rows.{RowOf, RowOfKind, AddsViews}
use Rattle.rebuild_parts.proofs.Laws.{part_views}
use Rattle.rebuild.specs.Rows.{IsThere, HasRows, AddsRow}

-- ---- the addition of a row

-- A token has one list of parts,
pub same_parts : {bs : List ℕ} (l m : Legal bs) → l.parts ≡ m.parts
same_parts {bs} l m = (one_choice l.id m.id l.parts m.parts bs l.form m.form).1

-- and a row stands for one part.
same_part : {bs : List ℕ} {k : ℕ} {p q : Part} → RowOf bs k p → RowOf bs k q → p ≡ q
same_part {bs} {k} r s =
    let e : r.placed ≡ s.placed =
    some_inj (sym r.is ∙ ap (λ (ps : List Part). get_elem? (placed after_header ps) k) (same_parts r.legal s.legal) ∙ s.is) in
    sym r.part ∙ ap (λ (x : Placed). x.part) e ∙ s.part

-- The step at a row is a record, with the kind of its part:
at_row : {bs : List ℕ} {k : ℕ} (p : Part) → RowOf bs k p → (x : Row) × ((m : ℕ) × ((step_after bs 8 k ≡ Record x m) × (x.kind ≡ kind_number p.kind)))
at_row {bs} {k} p r =
    let x : Placed = r.placed in (
      x.row,
      (
        x.row.offset + size x.part,
        (
          behind_row bs r.legal k x r.is,
          (row_of bs r.legal k x r.is).kind ∙ ap (λ (q : Part). kind_number q.kind) r.part,
        ),
      ),
    )

-- no other step,
pub no_end : {bs : List ℕ} {k : ℕ} → IsThere bs k → End ≡ step_after bs 8 k → ⊥
no_end h e = let w = (at_row h.part h.row).1.1.0 in cc

pub no_stop : {bs : List ℕ} {k : ℕ} {r : Refusal} → IsThere bs k → Err r ≡ step_after bs 8 k → ⊥
no_stop h e = let w = (at_row h.part h.row).1.1.0 in cc

-- and of no other kind.
record_inj : {y z : RowStep} → ◌≡◌ {A = Step} (Ok (Some y)) (Ok (Some z)) → y ≡ z
record_inj h = cc

pub kind_told : {bs : List ℕ} {k : ℕ} {s : RowStep} (h : IsThere bs k) → Ok (Some s) ≡ step_after bs 8 k → s.row.kind ≡ kind_number h.part.kind
kind_told {bs} {k} {s} h e =
    let w = at_row h.part h.row in
    let q : s ≡ record { row = w.0; next = w.1.0 } = record_inj (e ∙ w.1.1.0) in
    ap (λ (y : RowStep). y.row.kind) q ∙ w.1.1.1

pub of_kind : {bs : List ℕ} {k : ℕ} {s : RowStep} (j : Kind) → IsThere bs k → Ok (Some s) ≡ step_after bs 8 k → s.row.kind ≡ kind_number j
    → RowOfKind bs k j
of_kind j h e f = record { part = h.part; row = h.row; kind = number_told h.part.kind j (sym (kind_told h e) ∙ f) }

-- What is said of a row's views is said of its part.
pub of_part : {bs : List ℕ} {k : ℕ} {j : Kind} {d : List ℕ} {a : Answer} {x : List ℕ} → RowOfKind bs k j → AddsViews bs k j d a x
    → AddsRow bs k d a x
of_part {bs} {k} {j} {d} {a} {x} h w p r =
    let q : j ≡ p.kind = sym h.kind ∙ ap (λ (o : Part). o.kind) (same_part h.row r) in
    subst (λ (fs : Fields). Call (addition p.kind fs d) d a x) (sym (part_views p r)) (subst (λ (i : Kind). AddsViews bs k i d a x) q w)

-- ---- the rows one after another

module _ {bs : List ℕ} {n k : ℕ} (h : HasRows bs n) (lt : k < n) where
  -- Below the count there is a row, whose part is the next to be added.
  pub next_row : (l : Legal bs) → (p : Part) × (RowOf bs k p × (drop k l.parts ≡ p ∷ drop (suc k) l.parts))
  next_row l =
      let count : length l.parts ≡ n = ap length (same_parts l h.legal) ∙ h.rows in
      let placed-n = placed_count after_header l.parts in
      let x = there (placed after_header l.parts) k (omega arith) in
      let q = there l.parts k (omega arith) in
      let same : q.0 ≡ x.0.part = some_inj (sym q.1 ∙ (row_of bs l k x.0 x.1).part) in
      (x.0.part, (record { legal = l; placed = x.0; is = x.1; part = refl }, q.2 ∙ ap (λ (p : Part). p ∷ drop (suc k) l.parts) same))

  pub row_there : IsThere bs k
  row_there = let p = next_row h.legal in record { part = p.0; row = p.1.0 }

  -- Where all parts that are left are added by the definition, the call for the next one is accepted, and the rest is left.
  pub one_added : {a : Answer} {x : List ℕ} (d : List ℕ) (l : Legal bs) (e : List ℕ) → additions (drop k l.parts) d ≡ found e
      → AddsRow bs k d a x
      → ((m : ℕ) × (a ≡ Accepted m)) × (additions (drop (k + 1) l.parts) x ≡ found e)
  unfolding additions as_answer
  one_added {a} {x} d l e s f =
      let p = next_row l in
      let w = followed (addition p.0.kind p.0.fields d) _ e (sym (ap (λ (qs : List Part). additions qs d) p.1.1) ∙ s) in
      let t : x ≡ draft_after (found w.0) d = (f p.0 p.1.0).draft ∙ ap (λ (o : Outcome (List ℕ)). draft_after o d) w.1 in
      let j : k + 1 ≡ suc k = omega arith in (
        (length w.0, (f p.0 p.1.0).answer ∙ ap write_answer w.1),
        ap (λ (m : ℕ). additions (drop m l.parts) x) j ∙ ap (additions (drop (suc k) l.parts)) t ∙ w.2,
      )

-- An accepted answer is no refusal.
pub accepted_not : {r : Refusal} {m : ℕ} → Err r ≡ Accepted m → ⊥
accepted_not e = cc

-- After the last row nothing is left to add.
pub all_added : {bs : List ℕ} {n : ℕ} {d : List ℕ} → HasRows bs n → (k : ℕ) → n ≤ k → (l : Legal bs) (e : List ℕ)
    → additions (drop k l.parts) d ≡ found e → d ≡ e
unfolding additions
all_added {bs} {n} {d} h k le l e s =
    let count : length l.parts ≡ n = ap length (same_parts l h.legal) ∙ h.rows in
    let le' : length l.parts ≤ k = omega arith in
    found_inj (sym (ap (λ (qs : List Part). additions qs d) (drop_of_length-le l.parts le')) ∙ s)

-- ---- the whole token

-- Starting with the first byte, adding all parts and finishing make the token, and leave what stood after it.
pub record Built (bs d : List ℕ) : Type 0 where
  pub legal : Legal bs
  pub start : start (get_or bs 0 0) d ≡ found (written (get_or bs 0 0) [])
  pub end : List ℕ
  pub adds : additions legal.parts (draft_after (found (written (get_or bs 0 0) [])) d) ≡ found end
  pub finish : finish end ≡ Accepted (length bs)
  pub form : end ≡ bs ++ drop (length bs) d

pub built : {bs d : List ℕ} {n : ℕ} → HasRows bs n → length bs ≤ length d → Built bs d
built {bs} {d} h le =
    let l = h.legal in
    let r = Writing.rebuilt bs l d le in
    let i : l.id ≡ get_or bs 0 0 = ap (λ (y : List ℕ). get_or y 0 0) l.form.same in
    record {
      legal = l;
      start = subst (λ (j : ℕ). start j d ≡ found (written j [])) i r.0;
      end = r.1.0;
      adds = subst (λ (j : ℕ). additions l.parts (draft_after (found (written j [])) d) ≡ found r.1.0) i r.1.1;
      finish = r.1.2;
      form = r.1.3;
    }

-- The start is accepted,
pub started : {bs d : List ℕ} {s : Answer} → Built bs d → s ≡ write_answer (start (get_or bs 0 0) d) → s ≡ Accepted 8
unfolding as_answer
started w e = e ∙ ap write_answer w.start

-- and leaves the draft to which the parts are added.
pub to_add : {bs d x : List ℕ} (w : Built bs d) → x ≡ draft_after (start (get_or bs 0 0) d) d
    → additions w.legal.parts x ≡ found w.end
to_add {bs} {d} w e =
    ap (additions w.legal.parts) (e ∙ ap (λ (o : Outcome (List ℕ)). draft_after o d) w.start) ∙ w.adds

-- The token's own refusal.
pub own_refusal : {r : Refusal} (bs d : List ℕ) → Err r ≡ answer bs → (Err r ≡ write_answer (rebuilt bs d)) × (d ≡ draft_after (rebuilt bs d) d)
unfolding answer
own_refusal bs d e =
    let r = told_refused row_count (reading true bs) e in
    refused_written (rebuilt bs d) d
    (record { cause = r.cause; is = own_fault bs d r.cause r.is; number = r.number; place = r.place })

module _ {n : ℕ} (bs d : List ℕ) (e : Accepted n ≡ answer bs) (b : Bytes bs) where
  -- An accepted token is legal, with that many rows.
  pub has_rows : HasRows bs n
  has_rows =
      let w = accepted_read bs e in
      let l = read_parts bs w.sections b w.read in
      record { legal = l.0; rows = ap length l.1 ∙ sym w.rows }

  -- No room.
  pub no_room : length d < length bs → (Refused 23 0 ≡ write_answer (rebuilt bs d)) × (d ≡ draft_after (rebuilt bs d) d)
  no_room h =
      refused_written (rebuilt bs d) d
      (record { cause = fault 23 0 0; is = without_room bs d has_rows.legal h; number = refl; place = refl })

  -- The very bytes.
  pub whole : {a : Answer} {x : List ℕ} → length bs ≤ length d → a ≡ Accepted (length bs) → x ≡ bs ++ drop (length bs) d
      → (a ≡ write_answer (rebuilt bs d)) × (x ≡ draft_after (rebuilt bs d) d)
  whole h f g = let w = found_written (rebuilt bs d) d bs (gives_back bs d has_rows.legal h) refl in (f ∙ w.0, g ∙ w.1)
