-- The lines of the rows before row i are written.
use Rattle.std.proofs.Common.{◌*◌, ◌≤◌, length}
use Rattle.std.specs.Io.KnownBytes.{Appends}
use Rattle.format.specs.Table.{columns}
use Rattle.list_token.specs.Listing.{table_lines}
use Rattle.list_token.proofs.write_rows.Given as goal

abbrev pub invariant-loop-i : goal.invariant-loop-i
invariant-loop-i g l =
    columns * l.n ≤ length l.table → Appends (g.W.Write.contents l.initial.out) (g.W.Write.contents l.out) (table_lines l.table 0 l.i)
