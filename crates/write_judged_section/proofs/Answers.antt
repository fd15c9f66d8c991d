-- The answer of an addition that is judged before it is written, and the draft that it leaves. Assumes nothing.
use Rattle.std.specs.Prelude.{⊤, Ok, Err}
use mathlib.Core.Path.{◌≡◌, sym, ap, ◌∙◌}
use mathlib.Core.Bool.{true, false, not, ◌&&◌}
use mathlib.Core.List.{List, [], ◌++◌}
use Prim.Native.Nat.{ℕ, ◌+◌, ◌≤◌}
use native.Mathlib.Omega.{arith}
use lib.Dec.{leb}
use lib.ListN.{length, drop}
use lib.Seq.{sets}
use borrow.Author.Tests.{leb-true}
use Rattle.format.specs.Bytes.{Bytes}
use Rattle.format.specs.Layout.{Fields, fits, write}
use Rattle.format.specs.Parts.{Kind, section_id, layout, external}
use Rattle.format.specs.Rules.{longest, checks}
use Rattle.format.specs.Reading.{found, and_then, as_answer, id_of, stated, reading, tested, located, part_slots}
use Rattle.format.specs.Writer.{write_answer, draft_after, addition}
use Rattle.format.specs.declared.Refusal.{Refusal}
use Rattle.format.specs.Answers.{Accepted, Refused}
use Rattle.format.proofs.Finding.{and_split}
use Rattle.format.proofs.Tests.{Kept, kept_located, located_kept, needed, followed, found_inj, then_found, then_refused, tests_lead}
use Rattle.format.proofs.Changes.{restate}
use Rattle.read_sections.specs.Refusals.{first_refusal}
use Rattle.read_sections.proofs.Laws.{all_hold}
use Rattle.read_sections.proofs.Subs.{stops}
use Rattle.write_last_part.specs.Tiling.{Reads}
use Rattle.write_appended_part.specs.Appended.{grown}
use Rattle.write_appended_part.proofs.Outcomes.{told_refused, told_found, refused_written, found_written}
use Rattle.write_appended_part.proofs.Longer.{grown_long}
use Rattle.write_appended_part.proofs.InPlace.{put_in}
use Rattle.write_section.proofs.Calls.{header_stands}
use Rattle.write_section.proofs.Additions.{made}
use Rattle.write_appended_part.proofs.Restating.{restate_over}
use Rattle.write_judged_section.specs.Placing.{id_among, place_for}
use Rattle.write_judged_section.proofs.Judging.{Single, judged}

-- What a place says: the draft reads, it ends there, and there is room for n bytes after it.
pub record Placed (d : List ℕ) (n l : ℕ) : Type 0 where
  pub reads : Reads d
  pub ends : l ≡ stated d
  pub most : stated d + n ≤ longest
  pub there : stated d + n ≤ length d

pub placed : {l : ℕ} (d : List ℕ) (i n : ℕ) → Accepted l ≡ as_answer (λ m. m) (place_for i n d) → (place_for i n d ≡ found l) × Placed d n l
unfolding place_for as_answer
placed {l} d i n a =
    let t = told_found (λ (m : ℕ). m) (place_for i n d) a in
    let same : l ≡ t.0 = inj (a ∙ ap (as_answer (λ (m : ℕ). m)) t.1) in
    let f = followed (reading false d) _ t.0 t.1 in
    let r = needed (leb (stated d + n) longest && leb (stated d + n) (length d)) _ _ t.0 f.2 in
    let o = needed (not (id_among i f.0)) _ _ t.0 r.1 in
    let q = and_split (leb (stated d + n) longest) (leb (stated d + n) (length d)) r.0 in (
      t.1 ∙ ap found (sym same),
      record {
        reads = (f.0, f.1);
        ends = same ∙ sym (found_inj o.1);
        most = leb-true (stated d + n) longest q.0;
        there = leb-true (stated d + n) (length d) q.1;
      },
    )
  where
    inj : {x y : ℕ} → Accepted x ≡ Accepted y → x ≡ y
    inj e = cc

-- An addition of fields that fit, to a draft of bytes: w is the section's bytes, as long as they state, t.
pub record Ready (k : Kind) (fs : Fields) (d w : List ℕ) (t : ℕ) : Type 0 where
  pub single : Single k
  pub fit : fits [] (layout k) fs ≡ true
  pub bytes : Bytes d
  pub form : w ≡ write t (layout k) fs
  pub long : t ≡ length w

module _ {k : Kind} {fs : Fields} {d w : List ℕ} {t : ℕ} (r : Ready k fs d w t) where
  -- the addition: the place, then the rules on the fields, else the longer draft
  adds : addition k fs d ≡ and_then (place_for (section_id k) t d) (λ l. tested l (located (part_slots k w) (checks (external (id_of d)) k fs)) (found (grown d 0 w)))
  adds =
      let m = made k fs w t r.form r.long in
      judged k fs d w r.single r.fit r.bytes m.1
      ∙ ap (λ (n : ℕ). and_then (place_for (section_id k) n d) (λ l. tested l (located (part_slots k w) (checks (external (id_of d)) k fs)) (found (grown d 0 w)))) (sym r.long)

  -- no place for it
  pub no_place : {n p : ℕ} → Refused n p ≡ as_answer (λ m. m) (place_for (section_id k) t d)
      → (Refused n p ≡ write_answer (addition k fs d)) × (d ≡ draft_after (addition k fs d) d)
  no_place a =
      let f = told_refused (λ (m : ℕ). m) (place_for (section_id k) t d) a in
      refused_written (addition k fs d) d
      (record { cause = f.cause; is = adds ∙ then_refused _ f.is; number = f.number; place = f.place })

  -- a rule on its fields is broken
  pub rule_broken : {f : Refusal} {l : ℕ} → Accepted l ≡ as_answer (λ m. m) (place_for (section_id k) t d)
      → Err f ≡ first_refusal l (located (part_slots k w) (checks (external (id_of d)) k fs))
      → (Err f ≡ write_answer (addition k fs d)) × (d ≡ draft_after (addition k fs d) d)
  rule_broken {f} {l} a e =
      let q = stops l (located (part_slots k w) (checks (external (id_of d)) k fs)) (found (grown d 0 w)) e in
      refused_written (addition k fs d) d
      (record {
        cause = q.why;
        is = adds ∙ then_found _ (placed d (section_id k) t a).0 ∙ q.same;
        number = ap (λ (r : Refusal). r.number) q.told;
        place = ap (λ (r : Refusal). r.place) q.told;
      })

  -- none is
  pub rules_kept : {u : ⊤} (l : ℕ) → Ok u ≡ first_refusal l (located (part_slots k w) (checks (external (id_of d)) k fs)) → Kept (checks (external (id_of d)) k fs)
  rules_kept l e =
      located_kept (part_slots k w) (checks (external (id_of d)) k fs) (all_hold l (located (part_slots k w) (checks (external (id_of d)) k fs)) e)

  -- it is written after the draft, whose header states the new length
  pub put_after : {l e : ℕ} {new : List ℕ} → Accepted l ≡ as_answer (λ m. m) (place_for (section_id k) t d) → Kept (checks (external (id_of d)) k fs)
      → e ≡ l + t → new ≡ restate 0 e (sets d l w)
      → (Accepted e ≡ write_answer (addition k fs d)) × (new ≡ draft_after (addition k fs d) d)
  put_after {l} {e} {new} a h q n =
      let p = placed d (section_id k) t a in
      let s = header_stands d p.1.reads in
      let ends = p.1.ends in
      let most = p.1.most in
      let there = p.1.there in
      let lw = r.long in
      let lg = grown_long d 0 w s in
      let f = found_written {n = e} (addition k fs d) d (grown d 0 w)
      (adds ∙ then_found _ p.0 ∙ tests_lead l (located (part_slots k w) (checks (external (id_of d)) k fs)) (found (grown d 0 w)) (kept_located (part_slots k w) (checks (external (id_of d)) k fs) h)) (omega arith) in
      let en : e ≡ l + length w = omega arith in
      let lg' : length (grown d 0 w) ≡ stated d + length w = lg in
      let bytes : restate 0 e (sets d l w) ≡ grown d 0 w ++ drop (length (grown d 0 w)) d =
      ap (λ (j : ℕ). restate 0 j (sets d l w)) en
      ∙ sym (restate_over (l + length w) (l + length w) (sets d l w))
      ∙ put_in d 0 w s ends ends (omega arith)
      ∙ ap (λ (j : ℕ). grown d 0 w ++ drop j d) (sym lg') in
      (f.0, n ∙ bytes ∙ f.1)
