-- The row of a section, or of a subsection.
use mathlib.Core.Path.{ap, ◌∙◌}
use native.Mathlib.Omega.{arith}
use Rattle.read_rows.specs.Places.{rule_in}
use Rattle.read_rows.proofs.Places.{four}
use Rattle.view_rows.proofs.Places.{section_row, sub_row}
use Rattle.view_rows.proofs.Place.part_row.Goals as goal

pub two-length-requires : goal.two-length-requires
two-length-requires c = omega (arith, four c.requires)

pub bounds-s-at : goal.bounds-s-at
bounds-s-at c = omega (arith, four c.requires)

pub rules_with-rules-requires : goal.rules_with-rules-requires
rules_with-rules-requires c =
    let l = c.requires.left in
    omega (arith, l.ruled, l.few, l.front, l.short)

pub returns-then-at-self : goal.returns-then-at-self
returns-then-at-self c =
    section_row c.if-at-self.true c.from.ensures c.two-length.ensures.0 (c.rule_in.ensures ∙ ap (rule_in _) c.rules_with-rules.ensures)

pub two-requires : goal.two-requires
two-requires c = omega (arith, four c.requires)

pub returns : goal.returns
returns c = sub_row c.if-at-self.false c.from-2.ensures c.two-length.ensures.0 c.two.ensures.0 c.rule_in-2.ensures
