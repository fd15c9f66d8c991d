-- Where a label template cannot go on: its characters, and the spaces behind them. Assumes nothing.
use Rattle.std.proofs.Common.{arith, ◌+◌, ◌-◌, ap, sym, ◌∙◌}
use Rattle.format.specs.Bytes.{bytes_at}
use Rattle.format.specs.Forms.{label_reach}
use Rattle.read_characters.specs.Templates.{place_after}
use Rattle.read_characters.proofs.Templates.{place_told}
use Rattle.read_fields.proofs.Lists.{bytes_start}
use Rattle.read_characters.proofs.label_place.Goals as goal

pub returns : goal.returns
unfolding bytes_at
returns c =
    let s = c.args.s.now in
    let i = c.args.i in
    let field = bytes_at s i (i + 64 - i) in
    (c.place_after.ensures.0 ∙ ap (λ n. place_after n field) c.template_length.ensures.0 ∙ sym (place_told field) ∙ ap label_reach (bytes_start s i 64), omega (arith, c.place_after.ensures.1))
