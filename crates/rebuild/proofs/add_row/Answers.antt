-- The step at the row tells the kind of its part.
use mathlib.Core.Path.{sym, ◌∙◌}
use borrow.Author.Rules.{rules}
use Rattle.format.specs.KindNames.{named}
use Rattle.rebuild.proofs.Laws.{no_end, no_stop, kind_told, of_kind, of_part}
use Rattle.rebuild.proofs.add_row.Goals as goal
use Rattle.rebuild.proofs.add_row.Goals.{in_default-via-in-Ok+in_default, in_default-via-in_default}

pub unreachable-requires : goal.unreachable-requires
unreachable-requires c =
    elim c.in_default.branch [
      | in_default-via-in-Ok+in_default w ↦ no_end c.requires (let h = w.in_default in search rules)
      | in_default-via-in_default w ↦ no_stop c.requires (sym w.in_default.is ∙ c.nth_step.ensures)
    ]

pub unreachable-requires-in_default-from_number : goal.unreachable-requires-in_default-from_number
unreachable-requires-in_default-from_number c =
    let e = rw c.in-Ok-Some.field-0-is at c.in-Ok-Some.ensures in
    c.in_default-from_number.ensures c.requires.part.kind (kind_told c.requires e)

pub add_kind-requires : goal.add_kind-requires
add_kind-requires c =
    let e = rw c.in-Ok-Some.field-0-is at c.in-Ok-Some.ensures in
    of_kind (named c.in-Some.kind) c.requires e c.in-Some.ensures

pub returns : goal.returns
returns c =
    let e = rw c.in-Ok-Some.field-0-is at c.in-Ok-Some.ensures in
    of_part (of_kind (named c.in-Some.kind) c.requires e c.in-Some.ensures) c.add_kind.ensures
