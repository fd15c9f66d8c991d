-- The first refusal of a subsection 0001 of a rule is that of its tests.
use Rattle.std.specs.Prelude.{⊤, Ok}
use mathlib.Core.Path.{◌≡◌, sym, ap, ◌∙◌}
use mathlib.Core.Bool.{Bool, false}
use mathlib.Core.List.{List}
use Prim.Native.Nat.{ℕ, ◌+◌, ◌≤◌}
use native.Mathlib.Omega.{arith}
use lib.ListN.{length, get_or, drop}
use lib.Dec.{eqb}
use borrow.Author.Tests.{eq-eqb, ne_eqb}
use Rattle.format.specs.Bytes.{number, bytes_at}
use Rattle.format.specs.Parts.{transport_variant}
use Rattle.format.specs.Reading.{stated, made_length, subsection_checks}
use Rattle.format.proofs.Answers.{passed_up}
use Rattle.read_sections.specs.Refusals.{first_refusal, sub_head_checks}
use Rattle.read_sections.proofs.Laws.{Left, passed, failed, none_left, sub_head, zero_yes, zero_not}
use Rattle.read_rule_subsections.proofs.Laws.{head_there, byte_in}
use Rattle.read_rule_subsections.proofs.references.variant_at.Goals as goal

module _ (seen : Bool) (n p : ℕ) (s : List ℕ) {u : ⊤} (h : Ok u ≡ first_refusal p (sub_head_checks 8 seen n s)) where
  -- after the tests of the head
  past_head : (x : Bool) → let cs = subsection_checks x transport_variant seen n s in Left p cs (drop 3 cs)
  past_head x = (sub_head 8 _ _ _ _).left h

  -- with the variant's length v, the lengths that the code compares are those that are stated and made
  module _ (k : n ≤ length s) {v l : ℕ} (f : v ≡ get_or s 7 0) (e : l ≡ number (bytes_at s 2 2)) where
    made : 8 + v ≡ made_length transport_variant s
    made = let r = head_there 8 n seen s p k h in ap (λ (i : ℕ). 8 + i) (byte_in r 7 (omega (arith, r.least)) f)

    made_not : (l ≡ 8 + v → ⊥) → eqb (made_length transport_variant s) (stated s) ≡ false
    made_not w = ne_eqb _ _ (λ i. w (e ∙ sym i ∙ sym made))

    -- after the test of the length
    past_length : l ≡ 8 + v → (x : Bool) → let cs = subsection_checks x transport_variant seen n s in Left p cs (drop 4 cs)
    past_length w x = passed (past_head x) (eq-eqb _ _ (sym made ∙ sym w ∙ e))

pub returns-in_err-subsection_head : goal.returns-in_err-subsection_head
returns-in_err-subsection_head c x = passed_up c.from_residual.ensures ∙ (sub_head 8 _ _ _ _).stop c.in_err-subsection_head.ensures

pub bounds-part-7 : goal.bounds-part-7
bounds-part-7 c = let r = head_there 8 _ _ _ _ c.args.part.here c.in_ok-subsection_head.ensures in omega (arith, r.least, r.within)

pub returns-then-two-from : goal.returns-then-two-from
returns-then-two-from c x =
    let h = c.in_ok-subsection_head.ensures in
    failed (past_head _ _ _ _ h x) c.refused.ensures (made_not _ _ _ _ h c.args.part.here c.from.ensures c.two.ensures.0 c.if-two-from.true)

pub two-requires-2 : goal.two-requires-2
two-requires-2 c = let r = head_there 8 _ _ _ _ c.args.part.here c.in_ok-subsection_head.ensures in omega (arith, r.least, r.within)

pub returns-then-two-ne0 : goal.returns-then-two-ne0
returns-then-two-ne0 c x =
    failed (past_length _ _ _ _ c.in_ok-subsection_head.ensures c.args.part.here c.from.ensures c.two.ensures.0 c.if-two-from.false x) c.refused-then-two-ne0.ensures
    (zero_not _ 5 2 c.two-2.ensures.0 c.if-two-ne0.true)

pub returns : goal.returns
returns c x =
    none_left
    (passed (past_length _ _ _ _ c.in_ok-subsection_head.ensures c.args.part.here c.from.ensures c.two.ensures.0 c.if-two-from.false x)
    (zero_yes _ 5 2 c.two-2.ensures.0 c.if-two-ne0.false))
