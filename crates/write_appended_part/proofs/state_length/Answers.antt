use mathlib.Core.Path.{◌∙◌}
use Rattle.write_appended_part.proofs.Longer.{length_put}
use Rattle.write_appended_part.proofs.state_length.Goals as goal

pub returns : goal.returns
returns c =
    let a = c.args in
    length_put a.at a.n a.bytes.now (c.copy_from_slice.ensures.after ∙ c.to_be_bytes.ensures) c.requires.0
