-- The token's own refusal, 23, or its very bytes. Assumes nothing.
use mathlib.Core.Path.{ap, ◌∙◌}
use Rattle.std.proofs.Common.{Err}
use Rattle.format.proofs.Answers.{passed_up}
use Rattle.read_fields.proofs.Sizes.{bytes_of}
use Rattle.rebuild.proofs.Laws.{own_refusal, no_room, whole, has_rows}
use Rattle.rebuild.proofs.rebuild.Goals as goal

pub returns-in_err-rows : goal.returns-in_err-rows
returns-in_err-rows c =
    let z = own_refusal c.args.token.now c.args.draft.now c.in_err-rows.ensures in
    record { answer = passed_up c.from_residual.ensures ∙ z.0; draft = z.1 }

pub returns-then-draft-token : goal.returns-then-draft-token
returns-then-draft-token c =
    let b = bytes_of c.args.token.now (λ k. (c.type_inv.token k).fits) in
    let z = no_room c.args.token.now c.args.draft.now c.in_ok-rows.ensures b c.if-draft-token.true in
    record { answer = ap Err c.at.ensures ∙ z.0; draft = z.1 }

pub build-requires : goal.build-requires
build-requires c =
    let b = bytes_of c.args.token.now (λ k. (c.type_inv.token k).fits) in
    (has_rows c.args.token.now c.args.draft.now c.in_ok-rows.ensures b, c.if-draft-token.false)

pub returns : goal.returns
returns c =
    let b = bytes_of c.args.token.now (λ k. (c.type_inv.token k).fits) in
    let z = whole c.args.token.now c.args.draft.now c.in_ok-rows.ensures b c.if-draft-token.false c.build.ensures.0 c.build.ensures.1 in
    record { answer = z.0; draft = z.1 }
