-- The lines that are written are those of the listing.
use Rattle.std.specs.Prelude.{Ok, Err}
use Rattle.std.proofs.Common.{◌++◌, arith, length, sym, ap, ap₂, ◌∙◌, subst, OnOk, Result, Ok, Err}
use Rattle.std.specs.Io.KnownBytes.{Appends}
use Rattle.std.proofs.KnownBytes.{Appends-trans}
use Rattle.format.specs.Lines.{first_line}
use Rattle.format.proofs.Main.{at_most_300_rows}
use Rattle.read_fields.proofs.Sizes.{bytes_of}
use Rattle.list_token.specs.Listing.{table_lines}
use Rattle.list_token.proofs.Listings.{accepted_listing, refused_listing}
use Rattle.list_token.proofs.list.Goals as goal

-- what follows from a statement of an Ok
then : {T E : Type 0} {P Q : Type 0} (r : Result T E) → (P → Q) → OnOk r P → OnOk r Q
then (Ok x) f p = f p
then (Err e) f p = p

pub returns-in_default : goal.returns-in_default
returns-in_default g c =
    let bs = c.args.token.now in
    let told = sym c.read_table-answer.ensures.answer ∙ c.in_default.is in
    let bytes = bytes_of bs (λ i. (c.type_inv.token i).fits) in
    let line = refused_listing bs _ c.in_default.field-0.number c.in_default.field-0.place bytes
    (λ l. omega (arith, at_most_300_rows bs l, c.read_table-answer.auto.table)) told in
    let id = ap₂ (λ i a. first_line i (length bs) a) c.id_of-id.ensures c.in_default.is in
    subst (Appends _ _) (id ∙ sym line) c.in_ok-write_first.ensures

pub returns : goal.returns
returns g c =
    let bs = c.args.token.now in
    let told = sym c.read_table-answer.ensures.answer ∙ c.in-Ok.is in
    let bytes = bytes_of bs (λ i. (c.type_inv.token i).fits) in
    let lines = accepted_listing bs _ c.in-Ok.rows bytes told in
    let id = ap₂ (λ i a. first_line i (length bs) a) c.id_of-id.ensures c.in-Ok.is in
    let table = ap (λ t. table_lines t 0 c.in-Ok.rows) c.read_table-answer.ensures.table in
    then c.write_rows.result
    (λ p. subst (Appends _ _) (ap₂ (λ x y. x ++ y) id table ∙ sym lines.0) (Appends-trans _ _ _ _ _ c.in_ok-write_first.ensures p))
    (c.write_rows.ensures (omega (arith, lines.1, c.read_table-answer.auto.table)))
