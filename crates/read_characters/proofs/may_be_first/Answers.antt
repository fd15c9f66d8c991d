-- The three classes of `may_be_first`, and no other. Assumes nothing.
use Rattle.std.proofs.Common.{arith, ◌≡◌, false, sym, ◌∙◌}
use Rattle.read_characters.proofs.Classes.{first_class, first_class_is}
use Rattle.read_characters.proofs.may_be_first.Goals as goal

pub returns-in_default : goal.returns-in_default
returns-in_default c b e =
    let out : first_class c.args.c ≡ false = grind arith in
    sym (first_class_is b c.args.c e ∙ out)
