-- The fields that are read as numbers have their lengths.
use native.Mathlib.Omega.{arith}
use Rattle.rebuild_parts.proofs.Laws.{fitting}
use Rattle.rebuild_parts.proofs.sections.rule.Goals as goal

pub four-flags-requires : goal.four-flags-requires
four-flags-requires c = let f = fitting c.requires in omega arith

pub one-generated-requires : goal.one-generated-requires
one-generated-requires c = let f = fitting c.requires in omega arith

pub one-check-requires : goal.one-check-requires
one-check-requires c = let f = fitting c.requires in omega arith

pub one-symmetric-requires : goal.one-symmetric-requires
one-symmetric-requires c = let f = fitting c.requires in omega arith

pub one-asymmetric-requires : goal.one-asymmetric-requires
one-asymmetric-requires c = let f = fitting c.requires in omega arith
