-- `rule`: an id, flags and four single bytes after the section's head, added to the draft.
use mathlib.Core.Path.{◌≡◌, refl, ap, ◌∙◌}
use mathlib.Core.Bool.{true}
use mathlib.Core.List.{List, append_assoc}
use Prim.Native.Nat.{ℕ}
use native.Mathlib.Nat.{mod-eq_of_lt}
use native.Mathlib.Omega.{arith}
use lib.ListN.{length}
use Rattle.format.specs.Layout.{write}
use Rattle.format.specs.Parts.{rule, layout}
use Rattle.format.specs.Writer.{rule_fields}
use Rattle.write_bytes.proofs.Buffers.{four_bytes}
use Rattle.write_section.proofs.Additions.{unfit_added, section_made}
use Rattle.write_section.proofs.Fields.{fixed_fits, fixed_unfit}
use Rattle.add_fixed_sections.proofs.rule.Goals as goal

pub returns-then-rule_id-ne8 : goal.returns-then-rule_id-ne8
returns-then-rule_id-ne8 c =
    let a = c.args in let z = unfit_added rule
    (rule_fields a.rule_id.now a.flags a.generated_length a.key_check a.symmetric_format a.asymmetric_format)
    a.draft.now (fixed_unfit (length a.rule_id.now) 8 true (λ e. omega arith)) c.not_fitting.ensures in record { answer = z.0; draft = z.1 }

pub returns : goal.returns
returns c =
    let a = c.args in
    let r = c.ranges in
    let w : List ℕ = c.as_mut_slice.result.now in
    let fs = rule_fields a.rule_id.now a.flags a.generated_length a.key_check a.symmetric_format a.asymmetric_format in
    let e : w ≡ write 20 (layout rule) fs =
    simp (c.as_mut_slice.ensures, c.put-5.ensures.bytes, c.put-4.ensures.bytes, c.put-3.ensures.bytes, c.put-2.ensures.bytes, c.put.ensures.bytes, c.new-part.ensures, c.section_head.ensures) (simp append_assoc (simp (c.to_be_bytes.ensures ∙ four_bytes a.flags, mod-eq_of_lt r.generated_length.fits, mod-eq_of_lt r.key_check.fits, mod-eq_of_lt r.symmetric_format.fits, mod-eq_of_lt r.asymmetric_format.fits))) in
    let l : 20 ≡ length w = omega (arith, ap length c.as_mut_slice.ensures, ap length c.new-part.ensures) in
    let z = section_made rule fs a.draft.now w 20 refl (fixed_fits (length a.rule_id.now) 8 (omega arith) refl) e l
    (c.add_section.ensures.answer, (c.add_section.ensures.draft, c.add_section.ensures.bytes)) in
    record { answer = z.0; draft = z.1 }
