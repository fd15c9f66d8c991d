-- The header, then the sections.
use mathlib.Core.Path.{sym, ap, ◌∙◌}
use mathlib.Core.Bool.{true}
use native.Mathlib.Omega.{arith}
use Rattle.format.specs.Parts.{external}
use Rattle.format.specs.Reading.{answer}
use Rattle.format.proofs.Answers.{passed_up}
use Rattle.read_token.specs.Progress.{sections_answer}
use Rattle.read_token.proofs.Headers.{id_first, header_stops, header_lengths, whole_length, whole_goes}
use Rattle.reading.proofs.read.Goals as goal

pub returns-in_err-header : goal.returns-in_err-header
unfolding answer
returns-in_err-header c = passed_up c.from_residual.ensures ∙ header_stops true c.args.token.now c.in_err-header.ensures

pub bounds-token-0 : goal.bounds-token-0
bounds-token-0 c = omega (arith, (header_lengths true c.args.token.now c.in_ok-header.ensures).front)

pub sections_of-requires : goal.sections_of-requires
sections_of-requires c =
    let l = header_lengths true c.args.token.now c.in_ok-header.ensures in
    (l.front, omega (arith, whole_length c.args.token.now c.in_ok-header.ensures, l.most))

pub returns : goal.returns
returns c =
    let s = c.args.token.now in
    let l = header_lengths true s c.in_ok-header.ensures in
    c.sections_of.ensures
    ∙ ap (λ i. sections_answer s true (external i)) (sym (id_first s (omega (arith, l.front))))
    ∙ sym (whole_goes s c.in_ok-header.ensures)
