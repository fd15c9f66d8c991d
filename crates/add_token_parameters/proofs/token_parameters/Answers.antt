-- `token_parameters`: a length that a byte can't state or a template of another length than the mask is refused; else the bytes
-- are put in order and added. Assumes nothing.
use mathlib.Core.Path.{◌≡◌, refl, ap}
use mathlib.Core.List.{List, [], ◌∷◌, append_assoc, append-nil}
use Prim.Native.Nat.{ℕ, ◌+◌, ◌*◌, ◌<◌}
use native.Mathlib.Nat.{mod-eq_of_lt}
use native.Mathlib.Omega.{arith}
use lib.Dec.{eqb, ltb}
use lib.ListN.{length}
use Rattle.format.specs.Layout.{write}
use Rattle.format.specs.Parts.{token_parameters, layout}
use Rattle.write_section.proofs.Additions.{unfit_added, subsection_made}
use Rattle.write_section.proofs.Fields.{fixed_fits, fixed_unfit, count_unfit, counted_fits, later_unfit}
use Rattle.add_token_parameters.proofs.token_parameters.Goals as goal

pub returns-in_default : goal.returns-in_default
returns-in_default c =
    let a = c.args in
    let x = a.mask.now in
    let z = unfit_added token_parameters (x ∷ a.template.now ∷ a.label_template.now ∷ []) a.draft.now
    (count_unfit (length x) 255 _ (omega (arith, c.in_default.ensures))) c.not_fitting.ensures in
    record { answer = z.0; draft = z.1 }

pub returns-then-template-mask : goal.returns-then-template-mask
returns-then-template-mask c =
    let a = c.args in
    let x = a.mask.now in
    let y = a.template.now in
    let z = unfit_added token_parameters (x ∷ y ∷ a.label_template.now ∷ []) a.draft.now
    (later_unfit (ltb (length x) 256) (later_unfit (eqb (length x) (length x)) (fixed_unfit (length y) (length x) _ c.if-template-mask.true)))
    c.not_fitting-then-template-mask.ensures in
    record { answer = z.0; draft = z.1 }

pub returns-in_default-try_from : goal.returns-in_default-try_from
returns-in_default-try_from c =
    let a = c.args in
    let x = a.mask.now in
    let y = a.template.now in
    let v = a.label_template.now in
    let z = unfit_added token_parameters (x ∷ y ∷ v ∷ []) a.draft.now
    (later_unfit (ltb (length x) 256) (later_unfit (eqb (length x) (length x)) (later_unfit (eqb (length y) (length x)) (count_unfit (length v) 255 _ (omega (arith, c.in_default-try_from.ensures))))))
    c.not_fitting-in_default-try_from.ensures in
    record { answer = z.0; draft = z.1 }

pub returns : goal.returns
returns c =
    let a = c.args in
    let x = a.mask.now in
    let y = a.template.now in
    let v = a.label_template.now in
    let n = 10 + length x + length y + length v in
    let p : length x < 256 = omega arith in
    let q : length v < 256 = omega arith in
    let t : 10 + 2 * c.from.result + c.from-2.result ≡ n = omega arith in
    let w : List ℕ = c.as_mut_slice.result.now in
    let e : w ≡ write n (layout token_parameters) (x ∷ y ∷ v ∷ []) =
    simp (c.as_mut_slice.ensures, c.put-6.ensures.bytes, c.put-5.ensures.bytes, c.put-4.ensures.bytes, c.put-3.ensures.bytes, c.put-2.ensures.bytes, c.put.ensures.bytes, c.new-part.ensures, c.subsection_head.ensures)
    (simp append_assoc (simp (t, c.in-Ok.ensures.1, c.in-Ok-try_from.ensures.1, mod-eq_of_lt p, mod-eq_of_lt q, append-nil))) in
    let l : n ≡ length w = omega (arith, ap length c.as_mut_slice.ensures, ap length c.new-part.ensures) in
    let z = subsection_made token_parameters (x ∷ y ∷ v ∷ []) a.draft.now w n refl
    (counted_fits (length x) 255 (omega arith) (fixed_fits _ (length x) c.if-template-mask.false (counted_fits (length v) 255 (omega arith) refl))) e l
    (c.add_subsection.ensures.answer, (c.add_subsection.ensures.draft, c.add_subsection.ensures.bytes)) in
    record { answer = z.0; draft = z.1 }
