-- The loop of `rule_id_form`: where none has fallen so far, and none falls from here on, none falls. Assumes nothing.
use Rattle.std.proofs.Common.{◌∙◌}
use Rattle.format.specs.Bytes.{bytes_at}
use Rattle.read_characters.proofs.Ranks.{steady_turn, rule_id_told}
use Rattle.read_characters.proofs.rule_id_form.Goals as goal

pub loop-b-preserved : goal.loop-b-preserved
loop-b-preserved c =
    steady_turn _ _ c.character-c.ensures c.loop-b-test.true c.loop-b.falls c.loop-b.before ∙ c.loop-b.invariant

pub returns-then-not-falls : goal.returns-then-not-falls
unfolding bytes_at
returns-then-not-falls c =
    rw (rule_id_told c.args.s.now c.args.i c.character-first.ensures c.requires _ c.loop-b-test.false _ _ c.loop-b.invariant, c.if-not-falls.true)

pub returns-else-not-falls : goal.returns-else-not-falls
unfolding bytes_at
returns-else-not-falls c =
    rw (rule_id_told c.args.s.now c.args.i c.character-first.ensures c.requires _ c.loop-b-test.false _ _ c.loop-b.invariant, c.if-not-falls.false)
