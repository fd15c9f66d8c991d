-- Section 14: its head, its fields, then its subsections.
use Rattle.std.specs.Prelude.{⊤, Ok}
use mathlib.Core.Path.{◌≡◌, refl, sym, ◌∙◌, ap}
use mathlib.Core.Bool.{Bool, false}
use mathlib.Core.List.{List}
use Prim.Native.Nat.{ℕ}
use native.Mathlib.Omega.{arith}
use lib.ListN.{drop}
use Rattle.format.specs.Parts.{information}
use Rattle.format.specs.Reading.{field_checks, section_checks, as_answer, section_kind}
use Rattle.format.proofs.Answers.{passed_up}
use Rattle.read_sections.specs.Refusals.{first_refusal, head_checks, section_rows}
use Rattle.read_sections.proofs.Heads.{section_stops, section_goes}
use Rattle.read_sections.proofs.Laws.{passed, none_left, Made, made, section_head_is, head_room}
use Rattle.read_information.proofs.information_at.Goals as goal

-- the tests of its fields come after its head and its kind's, which passes; that no rule has its Rule ID says nothing here
fields_made : {u : ⊤} (x seen : Bool) (p : ℕ) (s : List ℕ) → Ok u ≡ first_refusal p (head_checks 10 seen s)
    → let cs = section_checks x information seen false s in Made p (field_checks x information s) cs (drop 6 cs)
fields_made x seen p s h = made (field_checks x information s) _ (passed ((section_head_is 10 _ _ _).left h) refl)

pub returns-in_err-section_head : goal.returns-in_err-section_head
returns-in_err-section_head c before a =
    passed_up c.from_residual.ensures
    ∙ section_stops _ _ information before _ _ (omega (arith, c.args.part.four, c.args.part.here)) (ap section_kind c.requires) a refl
    ((section_head_is 10 _ _ _).stop c.in_err-section_head.ensures)

pub information_fields-requires : goal.information_fields-requires
information_fields-requires c = let m = head_room c.args.part.place 10 _ c.args.part.bytes.now c.in_ok-section_head.ensures in omega (arith, m)

pub returns-in_err-information_fields : goal.returns-in_err-information_fields
returns-in_err-information_fields c before a =
    passed_up c.from_residual-in_err-information_fields.ensures
    ∙ section_stops _ _ information before _ _ (omega (arith, c.args.part.four, c.args.part.here)) (ap section_kind c.requires) a refl
    ((fields_made c.args.external _ _ _ c.in_ok-section_head.ensures).stop (c.in_err-information_fields.ensures false))

pub information_subs-requires : goal.information_subs-requires
information_subs-requires c = head_room c.args.part.place 10 _ c.args.part.bytes.now c.in_ok-section_head.ensures

pub returns : goal.returns
returns c before a =
    c.information_subs.ensures
    ∙ sym
    (ap (as_answer section_rows)
    (section_goes _ _ information before _ _ (omega (arith, c.args.part.four, c.args.part.here)) (ap section_kind c.requires) a refl
    (none_left (passed ((fields_made c.args.external _ _ _ c.in_ok-section_head.ensures).left (c.in_ok-information_fields.ensures false)) refl))))
