-- A label template: it has a length, and spaces follow. Assumes nothing.
use Rattle.std.proofs.Common.{arith, ◌+◌, ◌-◌, ap, sym, ◌∙◌}
use Rattle.std.proofs.lemmas.Slice.{between_to_end}
use Rattle.format.specs.Bytes.{every, bytes_at}
use Rattle.format.specs.Forms.{space, label_form}
use Rattle.read_characters.proofs.Templates.{label_none, label_some}
use Rattle.read_fields.proofs.Lists.{bytes_start}
use Rattle.read_characters.proofs.label_form.Goals as goal

pub returns-then-n-ne0 : goal.returns-then-n-ne0
unfolding bytes_at
returns-then-n-ne0 c =
    let s = c.args.s.now in
    let i = c.args.i in
    let field = bytes_at s i (i + 64 - i) in
    c.only_spaces.ensures ∙ ap (every space) (between_to_end field c.template_length-n.result _ (omega arith))
    ∙ sym (label_some field c.template_length-n.ensures.0 c.if-n-ne0.true) ∙ ap label_form (bytes_start s i 64)

pub returns-else-n-ne0 : goal.returns-else-n-ne0
unfolding bytes_at
returns-else-n-ne0 c =
    let s = c.args.s.now in
    let i = c.args.i in
    let field = bytes_at s i (i + 64 - i) in
    rw c.if-n-ne0.false (sym (label_none field c.template_length-n.ensures.0 c.if-n-ne0.false) ∙ ap label_form (bytes_start s i 64))
