-- `protection`: a field of another length than its own is refused; else the bytes are put in order and added. Assumes nothing.
use mathlib.Core.Path.{◌≡◌, refl, ap}
use mathlib.Core.Bool.{true}
use mathlib.Core.List.{List, [], ◌∷◌, append_assoc, append-nil}
use mathlib.Core.Logic.{⊎_elim}
use Prim.Native.Nat.{ℕ}
use native.Mathlib.Omega.{arith}
use lib.Dec.{eqb}
use lib.ListN.{length}
use Rattle.format.specs.Layout.{write}
use Rattle.format.specs.Parts.{protection, layout}
use Rattle.write_section.proofs.Additions.{unfit_added, subsection_made}
use Rattle.write_section.proofs.Fields.{fixed_fits, fixed_unfit, later_unfit}
use Rattle.add_protection_and_dates.proofs.protection.Goals as goal

pub returns-then-mac_key-ne32 : goal.returns-then-mac_key-ne32
returns-then-mac_key-ne32 c =
    let a = c.args in
    let x = a.mac_key.now in
    let y = a.mac.now in
    let z = a.mkvp.now in let z = unfit_added protection (x ∷ y ∷ z ∷ []) a.draft.now
    (⊎_elim
    (λ w. fixed_unfit (length x) 32 _ w)
    (λ v. later_unfit (eqb (length x) 32)
    (⊎_elim
    (λ w. fixed_unfit (length y) 8 _ (w.1))
    (λ w. later_unfit (eqb (length y) 8) (fixed_unfit (length z) 16 true (w.2)))
    v))
    c.then-mac_key-ne32.either)
    c.not_fitting.ensures in record { answer = z.0; draft = z.1 }

pub returns : goal.returns
returns c =
    let a = c.args in
    let fs = a.mac_key.now ∷ a.mac.now ∷ a.mkvp.now ∷ [] in
    let w : List ℕ = c.as_mut_slice.result.now in
    let e : w ≡ write 62 (layout protection) fs =
    simp (c.as_mut_slice.ensures, c.put-5.ensures.bytes, c.put-4.ensures.bytes, c.put-3.ensures.bytes, c.put-2.ensures.bytes, c.put.ensures.bytes, c.new-part.ensures, c.subsection_head.ensures)
    (simp (append_assoc, append-nil)) in
    let l : 62 ≡ length w = omega (arith, ap length c.as_mut_slice.ensures, ap length c.new-part.ensures) in
    let z = subsection_made protection fs a.draft.now w 62 refl
    (fixed_fits _ 32 c.if-mac_key-ne32.false (fixed_fits _ 8 c.if-mac-ne8.false (fixed_fits _ 16 c.if-mkvp-ne16.false refl))) e l
    (c.add_subsection.ensures.answer, (c.add_subsection.ensures.draft, c.add_subsection.ensures.bytes)) in
    record { answer = z.0; draft = z.1 }
