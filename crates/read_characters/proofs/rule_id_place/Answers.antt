-- Where a Rule ID cannot go on: the run of its characters, and the spaces behind them. Assumes nothing.
use Rattle.std.proofs.Common.{arith, ◌≡◌, ◌+◌, ◌-◌, ap, sym, ◌∙◌}
use Rattle.format.specs.Bytes.{bytes_at}
use Rattle.format.specs.Forms.{leading, in_rule_id, rule_id_reach}
use Rattle.read_characters.specs.Classes.{of_class, letter_class, rule_class}
use Rattle.read_characters.proofs.Classes.{rule_class_is}
use Rattle.read_characters.proofs.Runs.{leading_same}
use Rattle.read_fields.proofs.Lists.{bytes_start}
use Rattle.read_characters.proofs.rule_id_place.Goals as goal

pub returns : goal.returns
unfolding rule_id_reach bytes_at
returns c =
    let field = bytes_at c.args.s.now c.args.i (c.args.i + 8 - c.args.i) in
    let run : c.leading-n.result ≡ leading in_rule_id field
    = c.leading-n.ensures.0 ∙ sym (leading_same in_rule_id (of_class letter_class rule_class) rule_class_is field) in
    (c.place_after.ensures.0 ∙ rw run (ap rule_id_reach (bytes_start c.args.s.now c.args.i 8)), omega (arith, c.place_after.ensures.1))
