-- The fields that are read as numbers have their lengths.
use native.Mathlib.Omega.{arith}
use Rattle.rebuild_parts.proofs.Laws.{fitting}
use Rattle.rebuild_parts.proofs.subsections.export_parameters.Goals as goal

pub one-minimum-requires : goal.one-minimum-requires
one-minimum-requires c = let f = fitting c.requires in omega arith

pub one-maximum-requires : goal.one-maximum-requires
one-maximum-requires c = let f = fitting c.requires in omega arith
