-- The flag, gathered over all bytes, tells whether all are spaces. Assumes nothing.
use Rattle.std.proofs.Common.{rules, tests, ◌≡◌, ◌&&◌, Bool, true, ℕ, ◌∙◌}
use Rattle.std.specs.List.{fold}
use Rattle.std.proofs.lemmas.Iterator.{YieldsList-from_slice}
use Rattle.std.proofs.lemmas.Iterator.Consumers.{fold_from_yields_List}
use Rattle.format.specs.Forms.{space}
use Rattle.read_characters.proofs.Runs.{every_fold}
use Rattle.read_characters.proofs.only_spaces.Goals as goal

pub returns : goal.returns
returns c =
    let bs = c.args.bytes.now in
    let h = λ (only : Bool) (b : ℕ). only && space b in
    let gathered : c.fold.result ≡ fold h true bs = fold_from_yields_List _ h true _ c.fold.ensures.ran (YieldsList-from_slice bs cc) (λ a x b q k. search (rules, tests)) in
    gathered ∙ every_fold space bs true
