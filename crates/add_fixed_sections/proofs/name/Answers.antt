-- `name`: 64 bytes after the section's head, added to the draft.
use mathlib.Core.Path.{◌≡◌, refl, ap}
use mathlib.Core.Bool.{true}
use mathlib.Core.List.{[], ◌∷◌, append-nil}
use native.Mathlib.Omega.{arith}
use lib.ListN.{length}
use Rattle.format.specs.Layout.{write}
use Rattle.format.specs.Parts.{name, layout}
use Rattle.write_section.proofs.Additions.{unfit_added, section_made}
use Rattle.write_section.proofs.Fields.{fixed_fits, fixed_unfit}
use Rattle.add_fixed_sections.proofs.name.Goals as goal

pub returns-then-name-ne64 : goal.returns-then-name-ne64
returns-then-name-ne64 c =
    let a = c.args in let z = unfit_added name (a.name.now ∷ []) a.draft.now (fixed_unfit (length a.name.now) 64 true (λ e. omega arith))
    c.not_fitting.ensures in record { answer = z.0; draft = z.1 }

pub returns : goal.returns
returns c =
    let a = c.args in
    let w = c.as_mut_slice.result.now in
    let e : w ≡ write 68 (layout name) (a.name.now ∷ []) =
    simp (c.as_mut_slice.ensures, c.put-2.ensures.bytes, c.put.ensures.bytes, c.new-part.ensures, c.section_head.ensures, append-nil) in
    let l : 68 ≡ length w = omega (arith, ap length c.as_mut_slice.ensures, ap length c.new-part.ensures) in
    let z = section_made name (a.name.now ∷ []) a.draft.now w 68 refl (fixed_fits (length a.name.now) 64 (omega arith) refl) e l
    (c.add_section.ensures.answer, (c.add_section.ensures.draft, c.add_section.ensures.bytes)) in
    record { answer = z.0; draft = z.1 }
