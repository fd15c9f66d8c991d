-- Each turn stores one byte more; at the end all are stored.
use Rattle.std.proofs.Common.{◌≡◌, ◌++◌, ◌∷◌, [], List, length, get_or, arith, sym, ap, ◌∙◌}
use Rattle.std.proofs.lemmas.List.{take_all, take_more, take_more_set}
use Rattle.add_key_and_data.proofs.copy.Goals as goal

pub bytes-preserved : goal.bytes-preserved
bytes-preserved c =
    let len = c.bytes.auto.place in
    let below = c.bytes-test.true in
    let byte = get_or c.args.text.now c.bytes.i 0 in
    take_more_set c.bytes.place c.bytes.i byte (omega (arith, c.requires))
    ∙ ap (λ (l : List _). l ++ byte ∷ []) c.bytes.invariant
    ∙ sym (take_more c.args.text.now c.bytes.i 0 below)

pub returns : goal.returns
returns c =
    let len = c.bytes.auto.place in
    let done : c.bytes.i ≡ length c.args.text.now = omega arith in
    sym (take_all c.bytes.i c.bytes.place (omega (arith, c.requires))) ∙ c.bytes.invariant ∙ take_all c.bytes.i c.args.text.now (omega arith)
