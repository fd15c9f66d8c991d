-- The refusal of a subsection of section 14 is that of its kind, by its tag.
use mathlib.Core.Path.{◌≡◌, sym, ◌∙◌, ap}
use Prim.Native.Nat.{◌≤◌}
use native.Mathlib.Omega.{arith}
use borrow.Author.Rules.{rules}
use Rattle.format.specs.Parts.{information, protection, dates}
use Rattle.format.specs.Reading.{subsection_kind}
use Rattle.read_information.proofs.Laws.{tag_unknown}
use Rattle.read_sections.proofs.Subs.{at_start, sub_short, sub_unknown, sub_known, told_of}
use Rattle.read_information.proofs.information_sub.Goals as goal

pub returns-then-end-at-lt4 : goal.returns-then-end-at-lt4
returns-then-end-at-lt4 c before a b = sub_short _ information before _ _ _ c.refused.ensures c.if-end-at-lt4.true

pub returns-in-1 : goal.returns-in-1
returns-in-1 c before a b =
    let part = c.subsection-part.result in
    let four : 4 ≤ part.left = omega (arith, c.subsection-part.ensures.2, c.if-end-at-lt4.false) in
    told_of c.args.external information before c.subsection-part.ensures
    (sub_known c.args.external information before part.place part.left part.bytes.now protection c.args.protected four
    (ap (subsection_kind information) (sym c.two.ensures.0 ∙ c.in-1.is)) a c.protection_at.ensures)

pub returns-in-2 : goal.returns-in-2
returns-in-2 c before a b =
    let part = c.subsection-part.result in
    let four : 4 ≤ part.left = omega (arith, c.subsection-part.ensures.2, c.if-end-at-lt4.false) in
    told_of c.args.external information before c.subsection-part.ensures
    (sub_known c.args.external information before part.place part.left part.bytes.now dates c.args.dated four
    (ap (subsection_kind information) (sym c.two.ensures.0 ∙ c.in-2.is)) b (c.dates_at.ensures c.args.external))

pub returns-in_default : goal.returns-in_default
returns-in_default c before a b =
    let part = c.subsection-part.result in
    let four : 4 ≤ part.left = omega (arith, c.subsection-part.ensures.2, c.if-end-at-lt4.false) in
    let one : c.two.result ≡ 1 → ⊥ = search rules in
    let two : c.two.result ≡ 2 → ⊥ = search rules in
    told_of c.args.external information before c.subsection-part.ensures
    (sub_unknown c.args.external information before part.place part.left part.bytes.now (at_start c.refused-in_default.ensures) four
    (tag_unknown _ (λ e. one (c.two.ensures.0 ∙ e)) (λ e. two (c.two.ensures.0 ∙ e))))
