-- The loop over parts of 20 bytes.
use mathlib.Core.Path.{◌∙◌}
use Prim.Native.Nat.{◌+◌}
use native.Mathlib.Omega.{arith}
use Rattle.write_last_part.proofs.Tiling.{stated_at}
use Rattle.write_last_part.proofs.Stepping.{twenty_more}
use Rattle.write_last_part.proofs.last_twenty.Goals as goal

pub loop-q-preserved : goal.loop-q-preserved
loop-q-preserved c =
    let n = c.two.ensures.0 ∙ stated_at c.args.s.now (c.loop-q.q + 20) in
    twenty_more c.loop-q.invariant c.loop-q-test.true (omega arith)
