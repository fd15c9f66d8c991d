-- The fields that are read as numbers have their lengths.
use native.Mathlib.Omega.{arith}
use Rattle.rebuild_parts.proofs.Laws.{fitting}
use Rattle.rebuild_parts.proofs.subsections.dates.Goals as goal

pub two-flags-requires : goal.two-flags-requires
two-flags-requires c = let f = fitting c.requires in omega arith
