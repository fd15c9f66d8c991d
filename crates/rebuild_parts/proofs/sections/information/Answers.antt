-- The fields that are read as numbers have their lengths.
use native.Mathlib.Omega.{arith}
use Rattle.rebuild_parts.proofs.Laws.{fitting}
use Rattle.rebuild_parts.proofs.sections.information.Goals as goal

pub four-flags-requires : goal.four-flags-requires
four-flags-requires c = let f = fitting c.requires in omega arith
