-- The first refusal of a subsection 0003 of a rule is that of its tests.
use Rattle.std.specs.Prelude.{⊤, Ok}
use mathlib.Core.Path.{◌≡◌, sym, ◌∙◌, ap}
use mathlib.Core.Bool.{Bool, false}
use mathlib.Core.List.{List}
use Prim.Native.Nat.{ℕ, ◌+◌, ◌<◌, ◌≤◌}
use native.Mathlib.Omega.{arith}
use lib.Dec.{eqb}
use lib.ListN.{length, get_or, drop}
use borrow.Author.Tests.{eq-eqb, ne_eqb}
use borrow.Author.Rules.{rules}
use Rattle.format.specs.Bytes.{number, bytes_at}
use Rattle.format.specs.Parts.{export_parameters}
use Rattle.format.specs.Reading.{stated, made_length, subsection_checks}
use Rattle.format.proofs.Answers.{passed_up}
use Rattle.read_sections.specs.Refusals.{first_refusal, sub_head_checks}
use Rattle.read_sections.proofs.Laws.{Left, passed, failed, sub_head}
use Rattle.read_rule_subsections.proofs.Laws.{head_there, byte_in}
use Rattle.read_rule_subsections.proofs.parameters.export_at.Goals as goal

module _ (seen : Bool) (n p : ℕ) (s : List ℕ) {u : ⊤} (h : Ok u ≡ first_refusal p (sub_head_checks 12 seen n s)) where
  -- after the tests of the head
  past_head : (x : Bool) → let cs = subsection_checks x export_parameters seen n s in Left p cs (drop 3 cs)
  past_head x = (sub_head 12 _ _ _ _).left h

  -- with the length l, v bytes of a variant and t of control vectors, as the code reads them
  module _ (k : n ≤ length s) {l v : ℕ} (e : l ≡ number (bytes_at s 2 2)) (f : v ≡ get_or s 10 0) where
    variant : v ≡ number (bytes_at s 10 1)
    variant = let r = head_there 12 n seen s p k h in byte_in r 10 (omega (arith, r.least)) f

    short : l < 12 + v → eqb (made_length export_parameters s) (stated s) ≡ false
    short w = ne_eqb (made_length export_parameters s) (stated s) (λ i. omega (arith, variant, e))

    module _ (w : 12 + v ≤ l) {t : ℕ} (g : t ≡ get_or s (11 + v) 0) where
      vector : t ≡ number (bytes_at s (11 + v) 1)
      vector = byte_in (head_there 12 n seen s p k h) (11 + v) (omega (arith, e)) g

      made : 12 + v + t ≡ made_length export_parameters s
      made = omega (arith, variant, vector ∙ ap (λ (i : ℕ). number (bytes_at s (11 + i) 1)) variant)

      made_not : (l ≡ 12 + v + t → ⊥) → eqb (made_length export_parameters s) (stated s) ≡ false
      made_not o = ne_eqb _ _ (λ i. o (e ∙ sym i ∙ sym made))

      -- after the test of the length
      past_length : l ≡ 12 + v + t → (x : Bool) → let cs = subsection_checks x export_parameters seen n s in Left p cs (drop 4 cs)
      past_length o x = passed (past_head x) (eq-eqb _ _ (sym made ∙ sym o ∙ e))

pub returns-in_err-subsection_head : goal.returns-in_err-subsection_head
returns-in_err-subsection_head c x = passed_up c.from_residual.ensures ∙ (sub_head 12 _ _ _ _).stop c.in_err-subsection_head.ensures

pub bounds-part-10 : goal.bounds-part-10
bounds-part-10 c = let r = head_there 12 _ _ _ _ c.args.part.here c.in_ok-subsection_head.ensures in omega (arith, r.least, r.within)

pub returns-then-len-x : goal.returns-then-len-x
returns-then-len-x c x =
    let h = c.in_ok-subsection_head.ensures in
    failed (past_head _ _ _ _ h x) c.refused.ensures (short _ _ _ _ h c.args.part.here c.two-len.ensures.0 c.from-x.ensures c.if-len-x.true)

pub bounds-part-x : goal.bounds-part-x
bounds-part-x c =
    let r = head_there 12 _ _ _ _ c.args.part.here c.in_ok-subsection_head.ensures in
    omega (arith, r.within, c.two-len.ensures.0, c.if-len-x.false)

pub returns-then-len-x-2 : goal.returns-then-len-x-2
returns-then-len-x-2 c x =
    let h = c.in_ok-subsection_head.ensures in
    failed (past_head _ _ _ _ h x) c.refused-then-len-x-2.ensures
    (made_not _ _ _ _ h c.args.part.here c.two-len.ensures.0 c.from-x.ensures c.if-len-x.false c.from-c.ensures c.if-len-x-2.true)

pub export_fields-requires : goal.export_fields-requires
export_fields-requires c =
    let h = c.in_ok-subsection_head.ensures in
    let r = head_there 12 _ _ _ _ c.args.part.here h in
    let l = c.two-len.ensures.0 in (
      omega (arith, r.within, c.if-len-x-2.false),
      search rules,
      variant _ _ _ _ h c.args.part.here c.two-len.ensures.0 c.from-x.ensures,
      vector _ _ _ _ h c.args.part.here c.two-len.ensures.0 c.from-x.ensures c.if-len-x.false c.from-c.ensures,
    )

pub returns : goal.returns
returns c x =
    let h = c.in_ok-subsection_head.ensures in
    (past_length _ _ _ _ h c.args.part.here c.two-len.ensures.0 c.from-x.ensures c.if-len-x.false c.from-c.ensures c.if-len-x-2.false x).same _ (c.export_fields.ensures x)
