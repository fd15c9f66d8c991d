-- The places from the hash on are full and hold other numbers; the first empty one takes the number.
use Rattle.std.proofs.Common.{arith}
use Rattle.read_rule_ids.proofs.Laws.{start, step, fresh, seen}
use Rattle.read_rule_ids.proofs.RuleIds.put.Goals as goal

pub loop-i-init : goal.loop-i-init
loop-i-init c = start _ _ c.hash-i.ensures.0

pub returns-then-self-i : goal.returns-then-self-i
returns-then-self-i c = seen _ _ c.requires.1 c.loop-i.invariant (rw c.self.view_is at c.if-self-i.true)

pub loop-i-preserved : goal.loop-i-preserved
loop-i-preserved c =
    step _ _ c.requires.1 c.loop-i.invariant (rw c.self.view_is at c.loop-i-test.true) (rw c.self.view_is at c.if-self-i.false)

pub loop-i-smaller : goal.loop-i-smaller
loop-i-smaller c = omega (arith, c.loop-i.invariant.bound)

pub returns : goal.returns
returns c = rw c.self.view_is (fresh _ _ c.requires.0 c.requires.1 c.loop-i.invariant (rw c.self.view_is at c.loop-i-test.false))
