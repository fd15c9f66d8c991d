-- The three tests of `date_exists` are those of the definition. Assumes nothing.
use Rattle.std.proofs.Common.{rules, arith, ◌≡◌, get_or, ◌+◌}
use Rattle.format.specs.Bytes.{number, bytes_at}
use Rattle.format.specs.Forms.{between, days_in}
use Rattle.read_fields.proofs.Days.{date_fields}
use Rattle.read_fields.proofs.dates.date_exists.Goals as goal
use Rattle.read_fields.proofs.dates.date_exists.Goals.{then-y-le9999, else-y-le9999}

pub returns-then-contains : goal.returns-then-contains
returns-then-contains c =
    let s = c.args.s.now in
    let i = c.args.i in
    let day : c.contains-then-contains.result ≡ between 1 (days_in (number (bytes_at s i 2)) (get_or s (i + 2) 0)) (get_or s (i + 3) 0) = search rules in
    rw (date_fields, ← day) (elim c.if-y-le9999.branch [
      | then-y-le9999 w ↦ let month : w.contains.result ≡ between 1 12 (get_or s (i + 2) 0) = search rules in grind arith
      | else-y-le9999 w ↦ grind arith
    ])

pub returns-else-contains : goal.returns-else-contains
returns-else-contains c =
    rw date_fields (elim c.if-y-le9999.branch [
      | then-y-le9999 w ↦ let month : w.contains.result ≡ between 1 12 (get_or c.args.s.now (c.args.i + 2) 0) = search rules in grind arith
      | else-y-le9999 w ↦ grind arith
    ])
