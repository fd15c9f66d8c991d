-- The places from the hash on are full and hold other numbers.
use Prim.Native.Nat.{◌-◌}
use Rattle.read_rule_ids.specs.Keys.{id_places}
use Rattle.read_rule_ids.proofs.Laws.{Looked}
use Rattle.read_rule_ids.proofs.RuleIds.put.Given as goal

abbrev pub invariant-loop-i : goal.invariant-loop-i
invariant-loop-i l = Looked l.fn.self l.k l.i

abbrev pub decreases-loop-i : goal.decreases-loop-i
decreases-loop-i l = id_places - l.i
