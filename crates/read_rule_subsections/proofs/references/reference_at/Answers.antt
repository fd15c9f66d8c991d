-- The first refusal of a subsection 0002 or 0004 of a rule is that of its tests.
use Rattle.std.specs.Prelude.{⊤, Ok}
use mathlib.Core.Path.{◌≡◌, sym, ◌∙◌}
use mathlib.Core.Bool.{Bool}
use mathlib.Core.List.{List}
use Prim.Native.Nat.{ℕ, ◌≤◌}
use native.Mathlib.Omega.{arith}
use lib.ListN.{length, drop}
use Rattle.format.specs.Parts.{transport_rule}
use Rattle.format.specs.Reading.{subsection_checks}
use Rattle.format.proofs.Answers.{passed_up}
use Rattle.read_sections.specs.Refusals.{first_refusal, fixed_head_checks}
use Rattle.read_sections.proofs.Laws.{Left, passed, failed_at, none_left, fixed_head, fixed_room}
use Rattle.read_rule_subsections.proofs.references.reference_at.Goals as goal

module _ (seen : Bool) (n p : ℕ) (s : List ℕ) {u : ⊤} (h : Ok u ≡ first_refusal p (fixed_head_checks 14 seen n s)) where
  -- after the tests of the head
  past_head : (x : Bool) → let cs = subsection_checks x transport_rule seen n s in Left p cs (drop 5 cs)
  past_head x = (fixed_head 14 _ _ _ _).left h

  -- it is there
  there : n ≤ length s → 14 ≤ length s
  there k = let r = fixed_room p 14 n seen s h in omega (arith, r)

pub returns-in_err-fixed_subsection_head : goal.returns-in_err-fixed_subsection_head
returns-in_err-fixed_subsection_head c x = passed_up c.from_residual.ensures ∙ (fixed_head 14 _ _ _ _).stop c.in_err-fixed_subsection_head.ensures

pub rule_id_form-requires : goal.rule_id_form-requires
rule_id_form-requires c = there _ _ _ _ c.in_ok-fixed_subsection_head.ensures c.args.part.here

pub rule_id_place-requires : goal.rule_id_place-requires
rule_id_place-requires c = there _ _ _ _ c.in_ok-fixed_subsection_head.ensures c.args.part.here

pub returns-then-not-rule_id_form : goal.returns-then-not-rule_id_form
returns-then-not-rule_id_form c x =
    failed_at (past_head _ _ _ _ c.in_ok-fixed_subsection_head.ensures x) c.refused.ensures
    (omega (arith, c.rule_id_place.ensures.0)) (sym c.if-not-rule_id_form.ensures)

pub returns : goal.returns
returns c x =
    none_left
    (passed (past_head _ _ _ _ c.in_ok-fixed_subsection_head.ensures x)
    (sym c.if-not-rule_id_form.ensures))
