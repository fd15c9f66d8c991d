-- The place after a section, or a subsection.
use mathlib.Core.Path.{refl}
use native.Mathlib.Omega.{arith}
use Rattle.read_rows.proofs.Places.{four}
use Rattle.view_rows.proofs.Places.{section_behind, sub_behind}
use Rattle.view_rows.proofs.Place.behind.Goals as goal

pub two-length-requires : goal.two-length-requires
two-length-requires c = omega (arith, four c.requires)

pub bounds-s-at : goal.bounds-s-at
bounds-s-at c = omega (arith, four c.requires)

-- The place after the section lies in the token.
pub overflow_add-result : goal.overflow_add-result
overflow_add-result c =
    let w = c.requires in
    let b = section_behind c.if-at-self.true c.two-length.ensures.0 c.own_length.ensures refl in
    let l = (b w.part w.behind w.left).1 in
    omega (arith, l.front, l.short)

pub rules_with-requires : goal.rules_with-requires
rules_with-requires c =
    let l = c.requires.left in
    omega (arith, l.ruled, l.few, l.front, l.short)

pub returns-then-at-self : goal.returns-then-at-self
returns-then-at-self c =
    section_behind c.if-at-self.true c.two-length.ensures.0 c.own_length.ensures c.rules_with.ensures

pub returns : goal.returns
returns c = sub_behind c.if-at-self.false c.two-length.ensures.0
