-- The reading's answer, the test for room, then the second pass.
use mathlib.Core.Path.{◌∙◌}
use native.Mathlib.Omega.{arith}
use Rattle.format.proofs.Answers.{passed_up}
use Rattle.reading.proofs.Filled.{ReadWhole, bytes_of, accepted_read, refused_table, short_table, filled_table}
use Rattle.reading.proofs.read_table.Goals as goal
use Rattle.reading.proofs.read_table.Goals.{In_ok-n}

-- The token is accepted.
whole : (c : In_ok-n) → ReadWhole c.args.token.now c.in_ok-n.n
whole c = accepted_read c.args.token.now c.in_ok-n.ensures

pub returns-in_err-n : goal.returns-in_err-n
returns-in_err-n c =
    let z = refused_table c.args.token.now c.args.table.now c.in_err-n.ensures in
    record { answer = passed_up c.from_residual.ensures ∙ z.0; table = z.1 }

pub returns-then-table-n : goal.returns-then-table-n
returns-then-table-n c =
    let z = short_table c.args.token.now c.args.table.now (whole (goal.at.returns-then-table-n c).In_ok-n) (omega (arith, c.if-table-n.true)) in
    record { answer = z.0; table = z.1 }

pub fill-requires : goal.fill-requires
fill-requires c =
    let w = whole (goal.at.fill-requires c).In_ok-n in
    record { sections = w.sections; bytes = bytes_of c.args.token.now (λ k. (c.type_inv.token k).fits); read = w.read; room = omega (arith, c.if-table-n.false, w.rows) }

pub returns : goal.returns
returns c =
    let w = whole (goal.at.returns c).In_ok-n in
    let z = filled_table c.args.token.now c.args.table.now w (omega (arith, c.if-table-n.false)) c.fill.ensures in
    record { answer = z.0; table = z.1 }
