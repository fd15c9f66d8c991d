-- The loop of `rule_id_form`: where none has fallen so far, and none falls from here on, none falls. Assumes nothing.
use lib.ListN.{drop}
use mathlib.Core.Bool.{not, ◌&&◌}
use mathlib.Core.Path.{◌≡◌}
use Rattle.read_characters.proofs.Ranks.{steady}
use Rattle.read_characters.proofs.rule_id_form.Given as goal

abbrev pub invariant-loop-b : goal.invariant-loop-b
invariant-loop-b l = (not l.falls && steady l.before (drop l.b-index l.b-items)) ≡ steady l.first l.b-items
