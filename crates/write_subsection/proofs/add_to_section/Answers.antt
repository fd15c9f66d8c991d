-- The id of the last section, the walk over its subsections, then the longer draft, or the draft alone where it does not read.
use mathlib.Core.Path.{◌≡◌, sym, ap, ◌∙◌, subst}
use mathlib.Core.List.{List}
use Prim.Native.Nat.{ℕ, ◌+◌}
use native.Mathlib.Omega.{arith}
use lib.ListN.{take}
use Rattle.format.specs.Reading.{stated}
use Rattle.format.specs.Writer.{write_answer}
use Rattle.reading.proofs.Filled.{bytes_of}
use Rattle.write_section.specs.Adding.{refused_after, subsection_added}
use Rattle.write_last_part.specs.Tiling.{LastOf}
use Rattle.write_last_part.specs.declared.Last.{Last}
use Rattle.write_last_part.specs.declared.Last.TheVariants.{Broken}
use Rattle.write_last_part.proofs.Tiling.{id_at_is}
use Rattle.write_appended_part.proofs.Outcomes.{same_written}
use Rattle.write_last_part.proofs.Ended.{walk_ended}
use Rattle.write_section.proofs.Calls.{unread, told_at, refused_kept}
use Rattle.write_subsection.specs.LastSection.{fixed_fields}
use Rattle.write_subsection.proofs.Adding.{other_last, last_subs, sub_tried, last_inside}
use Rattle.write_subsection.proofs.add_to_section.Goals as goal

pub returns-then-other : goal.returns-then-other
returns-then-other c =
    let a = c.args in
    let d = a.draft.now in
    let b = bytes_of d (λ i. (c.slice_known-1.given i).fits) in
    let e = other_last d a.part.now a.place a.id b c.requires.2 (last_inside d a.place c.requires.1 c.requires.2) c.if-other.true in
    let t = subst (λ (k : ℕ). c.own_fault_or.result ≡ write_answer (refused_after d 25 k)) c.two-n.ensures.0 (told_at d c.at.ensures c.own_fault_or.ensures) in
    let z = same_written d e t (sym (refused_kept d 25 (stated d))) in
    record { answer = z.0; draft = z.1 }

pub returns-then-n-first : goal.returns-then-n-first
unfolding subsection_added
returns-then-n-first c =
    let a = c.args in
    let d = a.draft.now in
    let b = bytes_of d (λ i. (c.slice_known-1.given i).fits) in
    let id = id_at_is d a.place (last_inside d a.place c.requires.1 c.requires.2) ∙ c.if-other.false in
    let n = c.two-n.ensures.0 in
    let f = c.fixed_fields.ensures in
    let h = c.if-n-first.true in
    let z = unread d _ (λ r. let w = (last_subs d r.0 a.place a.id b r.1 c.requires.2 id c.requires.0).0 in omega arith) c.read_draft.ensures in
    record { answer = z.0; draft = z.1 }

-- What the walk found, of the subsections in the stated length.
found_last : {n f : ℕ} (d : List ℕ) (o i : ℕ) (r : Last) → n ≡ stated d → f ≡ fixed_fields i → LastOf (take n d) (o + f) r
    → LastOf (take (stated d) d) (o + fixed_fields i) r
found_last {n} {f} d o i r e q w = subst (λ (k : ℕ). LastOf (take (stated d) d) (o + k) r) q (subst (λ (k : ℕ). LastOf (take k d) (o + f) r) e w)

pub returns-in-Broken : goal.returns-in-Broken
unfolding subsection_added
returns-in-Broken c =
    let a = c.args in
    let d = a.draft.now in
    let b = bytes_of d (λ i. (c.slice_known-1.given i).fits) in
    let id = id_at_is d a.place (last_inside d a.place c.requires.1 c.requires.2) ∙ c.if-other.false in
    let w = found_last d a.place a.id Broken c.two-n.ensures.0 c.fixed_fields.ensures c.in-Broken.ensures in
    let z = unread d _ (λ r. w (last_subs d r.0 a.place a.id b r.1 c.requires.2 id c.requires.0).1) c.read_draft-in-Broken.ensures in
    record { answer = z.0; draft = z.1 }

pub append_subsection-requires : goal.append_subsection-requires
append_subsection-requires c =
    let a = c.args in
    let d = a.draft.now in
    let n = c.two-n.ensures.0 in
    let f = c.fixed_fields.ensures in
    let h = c.if-n-first.false in
    record {
      holds = c.requires.0;
      header = c.requires.1;
      last = c.requires.2;
      id = a.id;
      there = id_at_is d a.place (last_inside d a.place c.requires.1 c.requires.2) ∙ c.if-other.false;
      ends = ap (λ (k : ℕ). a.place + k) f;
      fixed = omega arith;
    }

pub returns : goal.returns
returns c =
    let a = c.args in
    let d = a.draft.now in
    let w = a.part.now in
    let b = bytes_of d (λ i. (c.slice_known-1.given i).fits) in
    let v = bytes_of w (λ i. (c.slice_known-2-1.given i).fits) in
    let n = c.two-n.ensures.0 in
    let f = c.fixed_fields.ensures in
    let u = found_last d a.place a.id c.last_part.result n f c.last_part.ensures in
    let tiled = walk_ended _ _ c.last_part.result u c.in_default.not-Broken in
    let e = sub_tried d w a.place a.id b v c.requires.1 c.requires.2 (last_inside d a.place c.requires.1 c.requires.2) c.if-other.false
    c.requires.0 (let h = c.if-n-first.false in omega arith) tiled in
    let z = same_written d e c.append_subsection.ensures.answer c.append_subsection.ensures.draft in
    record { answer = z.0; draft = z.1 }
