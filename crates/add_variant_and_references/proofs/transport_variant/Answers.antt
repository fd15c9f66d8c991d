-- `transport_variant`: a variant whose length a byte can't state is refused; else the bytes are put in order and added. Assumes nothing.
use mathlib.Core.Path.{◌≡◌, refl, ap}
use mathlib.Core.List.{List, [], ◌∷◌, append-nil}
use Prim.Native.Nat.{ℕ, ◌+◌, ◌<◌}
use native.Mathlib.Nat.{mod-eq_of_lt}
use native.Mathlib.Omega.{arith}
use lib.ListN.{length}
use Rattle.format.specs.Layout.{write}
use Rattle.format.specs.Parts.{transport_variant, layout}
use Rattle.write_section.proofs.Additions.{unfit_added, subsection_made}
use Rattle.write_section.proofs.Fields.{count_unfit, counted_fits}
use Rattle.add_variant_and_references.proofs.transport_variant.Goals as goal

pub returns-in_default : goal.returns-in_default
returns-in_default c =
    let a = c.args in
    let x = a.variant.now in let z = unfit_added transport_variant (x ∷ []) a.draft.now (count_unfit (length x) 255 _ (omega (arith, c.in_default.ensures))) c.not_fitting.ensures in record { answer = z.0; draft = z.1 }

pub returns : goal.returns
returns c =
    let a = c.args in
    let x = a.variant.now in
    let small : length x < 256 = omega arith in
    let w : List ℕ = c.as_mut_slice.result.now in
    let e : w ≡ write (8 + length x) (layout transport_variant) (x ∷ []) =
    simp (c.as_mut_slice.ensures, c.put-3.ensures.bytes, c.put-2.ensures.bytes, c.put.ensures.bytes, c.new-part.ensures, c.subsection_head.ensures) (simp (c.from.ensures, c.in-Ok.ensures.1, mod-eq_of_lt small, append-nil)) in
    let l : 8 + length x ≡ length w = omega (arith, ap length c.as_mut_slice.ensures, ap length c.new-part.ensures) in
    let z = subsection_made transport_variant (x ∷ []) a.draft.now w (8 + length x) refl (counted_fits (length x) 255 (omega arith) refl) e l
    (c.add_subsection.ensures.answer, (c.add_subsection.ensures.draft, c.add_subsection.ensures.bytes)) in
    record { answer = z.0; draft = z.1 }
