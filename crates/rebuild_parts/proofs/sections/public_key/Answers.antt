-- The fields that are read as numbers have their lengths.
use native.Mathlib.Omega.{arith}
use Rattle.rebuild_parts.proofs.Laws.{fitting}
use Rattle.rebuild_parts.proofs.sections.public_key.Goals as goal

pub two-bits-requires : goal.two-bits-requires
two-bits-requires c = let f = fitting c.requires in omega arith

pub four-flags-requires : goal.four-flags-requires
four-flags-requires c = let f = fitting c.requires in omega arith
