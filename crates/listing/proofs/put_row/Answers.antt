-- `put_row`: the columns of the row, one after the other.
use mathlib.Core.Path.{◌≡◌, sym, ◌∙◌}
use Rattle.listing.proofs.Lines.{columns, row_columns, row_is, row_put}
use Rattle.listing.proofs.put_row.Goals as goal

pub returns-clause-bytes : goal.returns-clause-bytes
returns-clause-bytes c =
    let a = c.args in
    let e : c.put_number-5.new.line ≡ columns (row_columns a.place a.row) =
    rw (c.put_number-5.ensures.bytes, c.put_number-4.ensures.bytes, c.put_number-3.ensures.bytes, c.put_number-2.ensures.bytes, c.put_kind.ensures.bytes, c.put_number.ensures.bytes, c.requires)
    (row_put a.place a.row) in
    e ∙ sym (row_is a.place a.row)
