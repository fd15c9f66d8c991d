-- The run at the front, as the library counts it. Assumes nothing.
use Rattle.std.proofs.Common.{rules, tests, ◌≡◌, length, take, ◌∙◌}
use Rattle.std.specs.List.{prefix_len}
use Rattle.std.proofs.lemmas.Iterator.{YieldsList-from_slice}
use Rattle.std.proofs.lemmas.Iterator.Consumers.{count_from_yields_List}
use Rattle.std.proofs.lemmas.Iterator.Search.{YieldsList-from_take_while}
use Rattle.std.proofs.lemmas.List.Folds.{length-prefix_len}
use Rattle.read_characters.specs.Classes.{of_class}
use Rattle.read_characters.proofs.Runs.{leading_counted, leading_within}
use Rattle.read_characters.proofs.page.Page.leading.Goals as goal

pub returns : goal.returns
returns c =
    let f = of_class c.args.lo c.args.hi in
    let bs = c.args.bytes.now in
    let n : c.count.result ≡ length (take (prefix_len f bs) bs) =
    count_from_yields_List c.take_while.result _ c.count.ensures.ran (YieldsList-from_take_while _ f (YieldsList-from_slice bs cc) c.take_while.ensures.closure c.take_while.ensures.done (λ x b q k. search (rules, tests))) in
    let e = n ∙ length-prefix_len f bs ∙ leading_counted f bs in
    (e, rw e (leading_within f bs))
