-- The first refusal of a subsection 0002 of section 14 is that of its tests.
use Rattle.std.specs.Prelude.{⊤, Ok}
use mathlib.Core.Path.{◌≡◌, sym, ◌∙◌}
use mathlib.Core.Bool.{Bool, true, false, not, ◌||◌}
use mathlib.Core.List.{List}
use Prim.Native.Nat.{ℕ, ◌≤◌}
use native.Mathlib.Omega.{arith}
use lib.ListN.{drop}
use Rattle.format.specs.Bytes.{number, bytes_at}
use Rattle.format.specs.Forms.{date_exists, in_order}
use Rattle.format.specs.Parts.{dates}
use Rattle.format.specs.Rules.{dates_judged}
use Rattle.format.specs.Reading.{subsection_checks}
use Rattle.format.proofs.Answers.{passed_up}
use Rattle.read_sections.specs.Refusals.{first_refusal, fixed_head_checks}
use Rattle.read_sections.proofs.Laws.{Left, passed, failed, none_left, fixed_head, at_most, above, is_number, other_number, not_asked, asked}
use Rattle.read_information.proofs.Laws.{fixed_there}
use Rattle.read_information.proofs.dates_at.Goals as goal
use Rattle.read_information.proofs.dates_at.Goals.{then-not-date_exists-2-via-then-not-date_exists-2, then-not-date_exists-2-via-else-not-date_exists-2+then-not-in_order}

-- with flags 1 the tests of the dates are what the code asks of their bytes
module _ (s : List ℕ) {v : ℕ} (f : v ≡ number (bytes_at s 6 2)) (j : v ≡ 1) {b : Bool} where
  date_test : (o : ℕ) → b ≡ date_exists (bytes_at s o 4) → (not (dates_judged (bytes_at s 6 2)) || date_exists (bytes_at s o 4)) ≡ b
  date_test o d = asked (is_number s 6 2 f 1 j) (sym d)

  order_test : b ≡ in_order (bytes_at s 8 4) (bytes_at s 12 4) → (not (dates_judged (bytes_at s 6 2)) || in_order (bytes_at s 8 4) (bytes_at s 12 4)) ≡ b
  order_test d = asked (is_number s 6 2 f 1 j) (sym d)

module _ (x seen : Bool) (n p : ℕ) (s : List ℕ) where
  -- the first k tests have passed
  abbrev Past : ℕ → Type 0
  Past k = let cs = subsection_checks x dates seen n s in Left p cs (drop k cs)

  module _ {u : ⊤} (h : Ok u ≡ first_refusal p (fixed_head_checks 16 seen n s)) where
    past_head : Past 5
    past_head = (fixed_head 16 _ _ _ _).left h

    module _ {v : ℕ} (f : v ≡ number (bytes_at s 6 2)) (m : v ≤ 1) where
      past_flags : Past 6
      past_flags = passed past_head (at_most _ 6 2 f 1 m)

      module _ (j : v ≡ 1) (d : true ≡ date_exists (bytes_at s 8 4)) where
        past_activation : Past 7
        past_activation = passed past_flags (date_test s f j 8 d)

        past_expiration : true ≡ date_exists (bytes_at s 12 4) → Past 8
        past_expiration e = passed past_activation (date_test s f j 12 e)

pub returns-in_err-fixed_subsection_head : goal.returns-in_err-fixed_subsection_head
returns-in_err-fixed_subsection_head c x = passed_up c.from_residual.ensures ∙ (fixed_head 16 _ _ _ _).stop c.in_err-fixed_subsection_head.ensures

pub two-flags-requires : goal.two-flags-requires
two-flags-requires c = let r = fixed_there 16 _ _ _ _ c.args.part.here c.in_ok-fixed_subsection_head.ensures in omega arith

pub returns-then-flags-gt1 : goal.returns-then-flags-gt1
returns-then-flags-gt1 c x = failed (past_head x _ _ _ _ c.in_ok-fixed_subsection_head.ensures) c.refused.ensures (above _ 6 2 c.two-flags.ensures.0 1 c.if-flags-gt1.true)

pub returns-then-unjudged : goal.returns-then-unjudged
returns-then-unjudged c x =
    let kept : dates_judged (bytes_at c.args.part.bytes.now 6 2) ≡ false = other_number _ 6 2 c.two-flags.ensures.0 1 c.if-unjudged.true in
    none_left
    (passed (passed (passed (past_flags x _ _ _ _ c.in_ok-fixed_subsection_head.ensures c.two-flags.ensures.0 c.if-flags-gt1.false) (not_asked _ kept))
    (not_asked _ kept)) (not_asked _ kept))

pub date_exists-requires : goal.date_exists-requires
date_exists-requires c = let r = fixed_there 16 _ _ _ _ c.args.part.here c.in_ok-fixed_subsection_head.ensures in omega arith

pub returns-then-not-date_exists : goal.returns-then-not-date_exists
returns-then-not-date_exists c x =
    failed (past_flags x _ _ _ _ c.in_ok-fixed_subsection_head.ensures c.two-flags.ensures.0 c.if-flags-gt1.false) c.refused-then-not-date_exists.ensures
    (date_test _ c.two-flags.ensures.0 c.if-unjudged.false 8 c.if-not-date_exists.ensures)

pub date_exists-requires-2 : goal.date_exists-requires-2
date_exists-requires-2 c = let r = fixed_there 16 _ _ _ _ c.args.part.here c.in_ok-fixed_subsection_head.ensures in omega arith

pub in_order-requires : goal.in_order-requires
in_order-requires c = let r = fixed_there 16 _ _ _ _ c.args.part.here c.in_ok-fixed_subsection_head.ensures in (omega arith, omega arith)

-- the second date does not exist, or it is before the first
pub returns-then-not-date_exists-2 : goal.returns-then-not-date_exists-2
returns-then-not-date_exists-2 c x =
    elim c.then-not-date_exists-2.branch [
      | then-not-date_exists-2-via-then-not-date_exists-2 w ↦ failed (past_activation x _ _ _ _ c.in_ok-fixed_subsection_head.ensures c.two-flags.ensures.0 c.if-flags-gt1.false c.if-unjudged.false c.if-not-date_exists.ensures)
          c.refused-then-not-date_exists-2.ensures (date_test _ c.two-flags.ensures.0 c.if-unjudged.false 12 w.if-not-date_exists-2.ensures)
      | then-not-date_exists-2-via-else-not-date_exists-2+then-not-in_order w ↦ failed (past_expiration x _ _ _ _ c.in_ok-fixed_subsection_head.ensures c.two-flags.ensures.0 c.if-flags-gt1.false c.if-unjudged.false c.if-not-date_exists.ensures w.if-not-date_exists-2.ensures)
          c.refused-then-not-date_exists-2.ensures (order_test _ c.two-flags.ensures.0 c.if-unjudged.false w.if-not-in_order.ensures)
    ]

pub returns : goal.returns
returns c x =
    none_left
    (passed
    (past_expiration x _ _ _ _ c.in_ok-fixed_subsection_head.ensures c.two-flags.ensures.0 c.if-flags-gt1.false c.if-unjudged.false c.if-not-date_exists.ensures c.if-not-date_exists-2.ensures)
    (order_test _ c.two-flags.ensures.0 c.if-unjudged.false c.if-not-in_order.ensures))
