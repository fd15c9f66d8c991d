-- The mask of a 0005 against the minimum of a 0003.
use mathlib.Core.Path.{◌≡◌, sym, ◌∙◌, ap, subst}
use mathlib.Core.Bool.{◌||◌}
use mathlib.Core.List.{List}
use Prim.Native.Nat.{ℕ, ◌+◌, ◌≤◌}
use native.Mathlib.Omega.{arith}
use lib.Dec.{eqb, leb}
use lib.ListN.{length, get_or, drop, length-drop}
use borrow.Author.Tests.{ne_eqb, eq-eqb, le-leb, lt-leb}
use Rattle.std.specs.Prelude.{Some}
use Rattle.format.specs.Parts.{export_parameters, token_parameters, Part}
use Rattle.format.specs.Rules.{of_kind, mask_covers}
use Rattle.format.specs.Reading.{made_length, part_in}
use Rattle.format.proofs.Reaching.{mask_none}
use Rattle.read_sections.proofs.Laws.{all_left, passed, failed_at, none_left, number_at, byte_number}
use Rattle.read_rule_subsections.proofs.Laws.{length_in}
use Rattle.read_rules.specs.Loops.{Place, Within, standing}
use Rattle.read_rules.proofs.Ends.{mask_free, mask_both}
use Rattle.read_rules.proofs.subsections.check_mask.Goals as goal
use Rattle.read_rules.proofs.subsections.check_mask.Goals.{else-mask-ne0-via-then-mask-ne0+else-mask-section, else-mask-ne0-via-else-mask-ne0}

-- Where both stand, the bytes that the code reads decide.
mask_is : (s : List ℕ) (a b : ℕ) {i j : Place} (us : List Part) → i ≡ Some a → j ≡ Some b → Within s export_parameters i → Within s token_parameters j
    → of_kind export_parameters us ≡ standing s export_parameters i → of_kind token_parameters us ≡ standing s token_parameters j
    → mask_covers us ≡ (eqb (get_or s (b + 8) 0) 0 || leb (get_or s (a + 8) 0) (get_or s (b + 8) 0))
mask_is s a b us p q v w e f =
    let v : a + 12 ≤ length s = let h = subst (Within s export_parameters) p v in omega arith in
    let w : b + made_length token_parameters (drop b s) ≤ length s = subst (Within s token_parameters) q w in
    let m = number_at s b 8 1 (byte_number s (b + 8) (omega arith)) in
    mask_both us (part_in export_parameters (drop a s)) (part_in token_parameters (drop b s)) (e ∙ ap (standing s export_parameters) p) (f ∙ ap (standing s token_parameters) q)
    (sym (number_at s a 8 1 (byte_number s (a + 8) (omega arith))))
    (length_in (drop b s) 9 m (omega (arith, length-drop b s)))

pub returns-in_default : goal.returns-in_default
returns-in_default c us e f = none_left (passed (all_left _) (mask_none us (f ∙ ap (standing c.args.section.bytes.now token_parameters) c.in_default.is-1)))

pub returns-in_default-2 : goal.returns-in_default-2
returns-in_default-2 c us e f = none_left (passed (all_left _) (mask_free us (e ∙ ap (standing c.args.section.bytes.now export_parameters) c.in_default.is-0)))

pub returns-then-mask-section : goal.returns-then-mask-section
returns-then-mask-section c us e f =
    let t = c.in-Some-Some in
    failed_at (all_left _) c.refused.ensures (rw t.is-1 (omega arith))
    (mask_is _ _ _ us t.is-0 t.is-1 c.requires.0 c.requires.1 e f ∙ rw (ne_eqb _ 0 c.if-mask-ne0.true) (lt-leb _ _ c.if-mask-section.true))

pub returns : goal.returns
returns c us e f =
    let t = c.in-Some-Some in
    none_left (passed (all_left _) (mask_is _ _ _ us t.is-0 t.is-1 c.requires.0 c.requires.1 e f ∙ elim c.else-mask-ne0.branch [
      | else-mask-ne0-via-then-mask-ne0+else-mask-section w ↦ rw (ne_eqb _ 0 w.if-mask-ne0.true) (le-leb _ _ w.if-mask-section.false)
      | else-mask-ne0-via-else-mask-ne0 w ↦ rw (eq-eqb _ 0 w.if-mask-ne0.false)
    ]))
