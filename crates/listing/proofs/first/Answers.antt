-- `first`: the words and numbers of the line, one after the other.
use mathlib.Core.Path.{◌≡◌, sym, ap, ◌∙◌}
use Rattle.format.specs.Lines.{first_line}
use Rattle.listing.proofs.Lines.{columns, accepted_columns, refused_columns, accepted_is, refused_is, accepted_put, refused_put}
use Rattle.listing.proofs.first.Goals as goal

pub returns-in-Ok : goal.returns-in-Ok
returns-in-Ok c =
    let a = c.args in
    let e : c.put-in-Ok-2.new.self ≡ columns (accepted_columns a.id a.bytes c.in-Ok.rows) =
    rw (c.put-in-Ok-2.ensures.bytes, c.put_number-in-Ok.ensures.bytes, c.put-in-Ok.ensures.bytes, c.put_number.ensures.bytes, c.put_id.ensures.bytes, c.put.ensures.bytes, c.new-line.ensures)
    (accepted_put _ _ _) in
    e ∙ sym (ap (first_line a.id a.bytes) c.in-Ok.is ∙ accepted_is a.id a.bytes _)

pub returns-in-Err : goal.returns-in-Err
returns-in-Err c =
    let a = c.args in
    let r = c.in-Err.refusal in
    let e : c.put_number-in-Err-2.new.line ≡ columns (refused_columns r.number r.place) =
    rw (c.put_number-in-Err-2.ensures.bytes, c.put-in-Err-2.ensures.bytes, c.put_number-in-Err.ensures.bytes, c.put-in-Err.ensures.bytes, c.new-line.ensures)
    (refused_put _ _) in
    e ∙ sym (ap (first_line a.id a.bytes) c.in-Err.is ∙ refused_is a.id a.bytes _ _)
