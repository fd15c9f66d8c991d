-- `transport_rule`: `referenced_rule` with the tag of its kind. Assumes nothing.
use mathlib.Core.Path.{refl}
use Rattle.format.specs.Parts.{transport_rule}
use Rattle.add_variant_and_references.specs.References.{NamesRule}
use Rattle.add_variant_and_references.proofs.transport_rule.Goals as goal

pub returns : goal.returns
returns c =
    let f = c.referenced_rule.ensures in
    let y : NamesRule transport_rule 2 = record { subsection = refl; section = refl; fields = refl } in record {
      answer = f.answer transport_rule y;
      draft = f.draft transport_rule y;
    }
