-- `dates`: a date of another length than 4 is refused; else the bytes are put in order and added. Assumes nothing.
use mathlib.Core.Path.{◌≡◌, refl, ap}
use mathlib.Core.Bool.{true}
use mathlib.Core.Logic.{⊎_elim}
use mathlib.Core.List.{List, append_assoc, append-nil}
use Prim.Native.Nat.{ℕ}
use native.Mathlib.Omega.{arith}
use lib.Dec.{eqb}
use lib.ListN.{length}
use Rattle.format.specs.Layout.{write}
use Rattle.format.specs.Parts.{dates, layout}
use Rattle.format.specs.Writer.{date_fields}
use Rattle.write_section.proofs.Additions.{unfit_added, subsection_made}
use Rattle.write_section.proofs.Fields.{fixed_fits, fixed_unfit, later_unfit}
use Rattle.add_protection_and_dates.proofs.dates.Goals as goal

pub returns-then-activation-ne4 : goal.returns-then-activation-ne4
returns-then-activation-ne4 c =
    let a = c.args in
    let x = a.activation.now in
    let y = a.expiration.now in let z = unfit_added dates (date_fields a.flags x y) a.draft.now
    (⊎_elim
    (λ w. fixed_unfit (length x) 4 _ w)
    (λ w. later_unfit (eqb (length x) 4) (fixed_unfit (length y) 4 true (w.1)))
    c.then-activation-ne4.either)
    c.not_fitting.ensures in record { answer = z.0; draft = z.1 }

pub returns : goal.returns
returns c =
    let a = c.args in
    let fs = date_fields a.flags a.activation.now a.expiration.now in
    let w : List ℕ = c.as_mut_slice.result.now in
    let e : w ≡ write 16 (layout dates) fs =
    simp (c.as_mut_slice.ensures, c.put-5.ensures.bytes, c.put-4.ensures.bytes, c.put-3.ensures.bytes, c.put-2.ensures.bytes, c.put.ensures.bytes, c.new-part.ensures, c.subsection_head.ensures)
    (simp (append_assoc, append-nil) (simp c.to_be_bytes.ensures)) in
    let l : 16 ≡ length w = omega (arith, ap length c.as_mut_slice.ensures, ap length c.new-part.ensures) in
    let z = subsection_made dates fs a.draft.now w 16 refl (fixed_fits _ 4 c.if-activation-ne4.false (fixed_fits _ 4 c.if-expiration-ne4.false refl)) e l
    (c.add_subsection.ensures.answer, (c.add_subsection.ensures.draft, c.add_subsection.ensures.bytes)) in
    record { answer = z.0; draft = z.1 }
