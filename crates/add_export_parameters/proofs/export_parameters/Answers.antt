-- `export_parameters`: a variant or a vector whose length a byte can't state is refused; else the bytes are put in order and
-- added. Assumes nothing.
use mathlib.Core.Path.{◌≡◌, refl, ap}
use mathlib.Core.List.{List, append_assoc, append-nil}
use Prim.Native.Nat.{ℕ, ◌+◌, ◌<◌}
use native.Mathlib.Nat.{mod-eq_of_lt}
use native.Mathlib.Omega.{arith}
use lib.Dec.{eqb, ltb}
use lib.ListN.{length}
use Rattle.format.specs.Layout.{write}
use Rattle.format.specs.Parts.{export_parameters, layout}
use Rattle.format.specs.Writer.{export_fields}
use Rattle.write_section.proofs.Additions.{unfit_added, subsection_made}
use Rattle.write_section.proofs.Fields.{count_unfit, counted_fits, later_unfit}
use Rattle.add_export_parameters.proofs.export_parameters.Goals as goal

pub returns-in_default : goal.returns-in_default
returns-in_default c =
    let a = c.args in
    let x = a.variant.now in
    let z = unfit_added export_parameters (export_fields a.minimum a.maximum x a.vector.now) a.draft.now
    (count_unfit (length x) 255 _ (omega (arith, c.in_default.ensures))) c.not_fitting.ensures in
    record { answer = z.0; draft = z.1 }

pub returns-in_default-try_from : goal.returns-in_default-try_from
returns-in_default-try_from c =
    let a = c.args in
    let x = a.variant.now in
    let y = a.vector.now in
    let z = unfit_added export_parameters (export_fields a.minimum a.maximum x y) a.draft.now
    (later_unfit (ltb (length x) 256) (later_unfit (eqb (length x) (length x)) (count_unfit (length y) 255 _ (omega (arith, c.in_default-try_from.ensures)))))
    c.not_fitting-in_default-try_from.ensures in
    record { answer = z.0; draft = z.1 }

pub returns : goal.returns
returns c =
    let a = c.args in
    let x = a.variant.now in
    let y = a.vector.now in
    let n = 12 + length x + length y in
    let p : length x < 256 = omega arith in
    let q : length y < 256 = omega arith in
    let w : List ℕ = c.as_mut_slice.result.now in
    let e : w ≡ write n (layout export_parameters) (export_fields a.minimum a.maximum x y) =
    simp (c.as_mut_slice.ensures, c.put-5.ensures.bytes, c.put-4.ensures.bytes, c.put-3.ensures.bytes, c.put-2.ensures.bytes, c.put.ensures.bytes, c.new-part.ensures, c.subsection_head.ensures)
    (simp append_assoc (simp (c.from.ensures, c.from-2.ensures, c.in-Ok.ensures.1, c.in-Ok-try_from.ensures.1, mod-eq_of_lt p, mod-eq_of_lt q, mod-eq_of_lt c.ranges.minimum.fits, mod-eq_of_lt c.ranges.maximum.fits, append-nil))) in
    let l : n ≡ length w = omega (arith, ap length c.as_mut_slice.ensures, ap length c.new-part.ensures) in
    let z = subsection_made export_parameters (export_fields a.minimum a.maximum x y) a.draft.now w n refl
    (counted_fits (length x) 255 (omega arith) (counted_fits (length y) 255 (omega arith) refl)) e l
    (c.add_subsection.ensures.answer, (c.add_subsection.ensures.draft, c.add_subsection.ensures.bytes)) in
    record { answer = z.0; draft = z.1 }
