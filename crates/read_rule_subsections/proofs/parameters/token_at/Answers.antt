-- The first refusal of a subsection 0005 of a rule is that of its tests.
use Rattle.std.specs.Prelude.{⊤, Ok}
use mathlib.Core.Path.{◌≡◌, sym, ◌∙◌, ap}
use mathlib.Core.Bool.{Bool, false}
use mathlib.Core.List.{List}
use Prim.Native.Nat.{ℕ, ◌+◌, ◌<◌, ◌≤◌}
use native.Mathlib.Omega.{arith}
use lib.Dec.{eqb}
use lib.ListN.{length, get_or, drop}
use borrow.Author.Tests.{eq-eqb, ne_eqb}
use Rattle.format.specs.Bytes.{number, bytes_at}
use Rattle.format.specs.Parts.{token_parameters}
use Rattle.format.specs.Reading.{stated, made_length, subsection_checks}
use Rattle.format.proofs.Answers.{passed_up}
use Rattle.read_sections.specs.Refusals.{first_refusal, sub_head_checks}
use Rattle.read_sections.proofs.Laws.{Left, passed, failed, sub_head}
use Rattle.read_rule_subsections.proofs.Laws.{head_there, byte_in}
use Rattle.read_rule_subsections.proofs.parameters.token_at.Goals as goal

module _ (seen : Bool) (n p : ℕ) (s : List ℕ) {u : ⊤} (h : Ok u ≡ first_refusal p (sub_head_checks 10 seen n s)) where
  -- after the tests of the head
  past_head : (x : Bool) → let cs = subsection_checks x token_parameters seen n s in Left p cs (drop 3 cs)
  past_head x = (sub_head 10 _ _ _ _).left h

  -- with the length l, masks of m bytes and a label template of z, as the code reads them
  module _ (k : n ≤ length s) {l m : ℕ} (e : l ≡ number (bytes_at s 2 2)) (f : m ≡ get_or s 8 0) where
    mask : m ≡ number (bytes_at s 8 1)
    mask = let r = head_there 10 n seen s p k h in byte_in r 8 (omega (arith, r.least)) f

    short : l < 10 + m + m → eqb (made_length token_parameters s) (stated s) ≡ false
    short w = ne_eqb (made_length token_parameters s) (stated s) (λ i. omega (arith, mask, e))

    module _ (w : 10 + m + m ≤ l) {z : ℕ} (g : z ≡ get_or s (9 + m + m) 0) where
      label : z ≡ number (bytes_at s (9 + m + m) 1)
      label = byte_in (head_there 10 n seen s p k h) (9 + m + m) (omega (arith, e)) g

      made : 10 + m + m + z ≡ made_length token_parameters s
      made = omega (arith, mask, label ∙ ap (λ (i : ℕ). number (bytes_at s (9 + i + i) 1)) mask)

      made_not : (l ≡ 10 + m + m + z → ⊥) → eqb (made_length token_parameters s) (stated s) ≡ false
      made_not o = ne_eqb _ _ (λ i. o (e ∙ sym i ∙ sym made))

      -- after the test of the length
      past_length : l ≡ 10 + m + m + z → (x : Bool) → let cs = subsection_checks x token_parameters seen n s in Left p cs (drop 4 cs)
      past_length o x = passed (past_head x) (eq-eqb _ _ (sym made ∙ sym o ∙ e))

pub returns-in_err-subsection_head : goal.returns-in_err-subsection_head
returns-in_err-subsection_head c x = passed_up c.from_residual.ensures ∙ (sub_head 10 _ _ _ _).stop c.in_err-subsection_head.ensures

pub bounds-part-8 : goal.bounds-part-8
bounds-part-8 c = let r = head_there 10 _ _ _ _ c.args.part.here c.in_ok-subsection_head.ensures in omega (arith, r.least, r.within)

pub returns-then-len-m : goal.returns-then-len-m
returns-then-len-m c x =
    let h = c.in_ok-subsection_head.ensures in
    failed (past_head _ _ _ _ h x) c.refused.ensures (short _ _ _ _ h c.args.part.here c.two-len.ensures.0 c.from-m.ensures c.if-len-m.true)

pub bounds-part-m : goal.bounds-part-m
bounds-part-m c =
    let r = head_there 10 _ _ _ _ c.args.part.here c.in_ok-subsection_head.ensures in
    omega (arith, r.within, c.two-len.ensures.0, c.if-len-m.false)

pub returns-then-len-m-2 : goal.returns-then-len-m-2
returns-then-len-m-2 c x =
    let h = c.in_ok-subsection_head.ensures in
    failed (past_head _ _ _ _ h x) c.refused-then-len-m-2.ensures
    (made_not _ _ _ _ h c.args.part.here c.two-len.ensures.0 c.from-m.ensures c.if-len-m.false c.from-z.ensures c.if-len-m-2.true)

pub token_fields-requires : goal.token_fields-requires
token_fields-requires c =
    let h = c.in_ok-subsection_head.ensures in
    let r = head_there 10 _ _ _ _ c.args.part.here h in
    let l = c.two-len.ensures.0 in (
      omega (arith, r.within, c.if-len-m-2.false),
      mask _ _ _ _ h c.args.part.here c.two-len.ensures.0 c.from-m.ensures,
      label _ _ _ _ h c.args.part.here c.two-len.ensures.0 c.from-m.ensures c.if-len-m.false c.from-z.ensures,
    )

pub returns : goal.returns
returns c x =
    let h = c.in_ok-subsection_head.ensures in
    (past_length _ _ _ _ h c.args.part.here c.two-len.ensures.0 c.from-m.ensures c.if-len-m.false c.from-z.ensures c.if-len-m-2.false x).same _ (c.token_fields.ensures x)
