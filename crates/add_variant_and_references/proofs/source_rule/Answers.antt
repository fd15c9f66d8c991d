-- `source_rule`: `referenced_rule` with the tag of its kind. Assumes nothing.
use mathlib.Core.Path.{refl}
use Rattle.format.specs.Parts.{source_rule}
use Rattle.add_variant_and_references.specs.References.{NamesRule}
use Rattle.add_variant_and_references.proofs.source_rule.Goals as goal

pub returns : goal.returns
returns c =
    let f = c.referenced_rule.ensures in
    let y : NamesRule source_rule 4 = record { subsection = refl; section = refl; fields = refl } in record {
      answer = f.answer source_rule y;
      draft = f.draft source_rule y;
    }
