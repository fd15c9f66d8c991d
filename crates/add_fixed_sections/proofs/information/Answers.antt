-- `information`: two bytes 0 and the flags after the section's head, added to the draft.
use mathlib.Core.Path.{◌≡◌, refl, ap}
use mathlib.Core.List.{append-nil}
use native.Mathlib.Omega.{arith}
use lib.ListN.{length}
use Rattle.format.specs.Layout.{write}
use Rattle.format.specs.Parts.{information, layout}
use Rattle.format.specs.Writer.{information_fields}
use Rattle.write_bytes.proofs.Buffers.{four_bytes}
use Rattle.write_section.proofs.Additions.{section_made}
use Rattle.add_fixed_sections.proofs.information.Goals as goal

pub returns : goal.returns
returns c =
    let a = c.args in
    let w = c.as_mut_slice.result.now in
    let e : w ≡ write 10 (layout information) (information_fields a.flags) =
    simp (c.as_mut_slice.ensures, c.put-3.ensures.bytes, c.put-2.ensures.bytes, c.put.ensures.bytes, c.new-part.ensures, c.section_head.ensures, c.to_be_bytes.ensures, four_bytes, append-nil) in
    let l : 10 ≡ length w = omega (arith, ap length e) in
    let z = section_made information (information_fields a.flags) a.draft.now w 10 refl refl e l
    (c.add_section.ensures.answer, (c.add_section.ensures.draft, c.add_section.ensures.bytes)) in
    record { answer = z.0; draft = z.1 }
