-- Each turn writes the line of one row more.
use Rattle.std.proofs.Common.{arith, sym, subst}
use Rattle.std.specs.Io.KnownBytes.{Appends}
use Rattle.std.proofs.KnownBytes.{Appends-trans}
use Rattle.list_token.proofs.Lines.{one_more}
use Rattle.list_token.proofs.write_rows.Goals as goal

pub loop-i-preserved : goal.loop-i-preserved
loop-i-preserved g c h =
    let t = c.args.table.now in
    let i = c.loop-i.i in
    subst (Appends _ _) (sym (one_more t i))
    (Appends-trans _ _ _ _ _ (c.loop-i.invariant h) (c.in_ok-write_nth.ensures (omega (arith, h, c.loop-i-test.true))))
