-- The first refusal of a subsection 0001 of section 14 is that of its tests.
use Rattle.std.specs.Prelude.{⊤, Ok}
use mathlib.Core.Path.{◌≡◌, ◌∙◌}
use mathlib.Core.Bool.{Bool}
use mathlib.Core.List.{List}
use Prim.Native.Nat.{ℕ}
use native.Mathlib.Omega.{arith}
use lib.ListN.{drop}
use Rattle.format.specs.Parts.{protection}
use Rattle.format.specs.Reading.{subsection_checks}
use Rattle.std.proofs.lemmas.Bool.Decides.{nat_tests}
use borrow.Author.Rules.{rules}
use Rattle.format.proofs.Answers.{passed_up}
use Rattle.read_sections.specs.Refusals.{first_refusal, fixed_head_checks}
use Rattle.read_sections.proofs.Laws.{Left, passed, failed, none_left, fixed_head}
use Rattle.read_information.proofs.Laws.{fixed_there}
use Rattle.read_information.proofs.protection_at.Goals as goal

-- after the tests of the head
past_head : {u : ⊤} (external seen : Bool) (n p : ℕ) (s : List ℕ) → Ok u ≡ first_refusal p (fixed_head_checks 62 seen n s)
    → let cs = subsection_checks external protection seen n s in Left p cs (drop 5 cs)
past_head external seen n p s h = (fixed_head 62 _ _ _ _).left h

pub returns-in_err-fixed_subsection_head : goal.returns-in_err-fixed_subsection_head
returns-in_err-fixed_subsection_head c = passed_up c.from_residual.ensures ∙ (fixed_head 62 _ _ _ _).stop c.in_err-fixed_subsection_head.ensures

pub all_zero-requires : goal.all_zero-requires
all_zero-requires c = let r = fixed_there 62 _ _ _ _ c.args.part.here c.in_ok-fixed_subsection_head.ensures in omega arith

pub returns-then-wrong_mkvp : goal.returns-then-wrong_mkvp
returns-then-wrong_mkvp c =
    failed (past_head _ _ _ _ _ c.in_ok-fixed_subsection_head.ensures) c.refused.ensures (search rules)

pub returns : goal.returns
returns c =
    none_left (passed (past_head _ _ _ _ _ c.in_ok-fixed_subsection_head.ensures) (grind (arith, nat_tests)))
