-- The kind by the id, then the checks of the kind.
use mathlib.Core.Path.{refl, sym, ap, ◌∙◌}
use Prim.Native.Nat.{ℕ, ◌≤◌}
use native.Mathlib.Omega.{arith}
use lib.ListN.{get_or}
use Rattle.format.specs.Parts.{public_key, name, information, application_data}
use Rattle.format.specs.Reading.{section_kind}
use Rattle.format.proofs.Answers.{passed_up}
use Rattle.read_sections.proofs.Laws.{byte_number}
use Rattle.read_sections.proofs.Subs.{at_start}
use Rattle.read_token.proofs.Steps.{unknown_here}
use Rattle.read_token.proofs.Others.{kind_told, alone_stops, alone_found, unknown}
use Rattle.read_token.proofs.other.other_at.Goals as goal

-- four bytes are there
four : {m n : ℕ} → 4 ≤ m → m ≤ n → 4 ≤ n
four a b = omega arith

pub returns-in_err-public_key_at-in-17 : goal.returns-in_err-public_key_at-in-17
returns-in_err-public_key_at-in-17 c before m =
    passed_up c.from_residual.ensures
    ∙ alone_stops c.args.full c.args.external public_key before _ _ (four c.args.part.four c.args.part.here) (kind_told public_key _ (four c.args.part.four c.args.part.here) refl c.in-17.is) (m public_key refl refl) c.in_err-public_key_at-in-17.ensures

pub returns-in_ok-public_key_at-in-17 : goal.returns-in_ok-public_key_at-in-17
returns-in_ok-public_key_at-in-17 c before m =
    alone_found c.args.full c.args.external public_key before _ _ (four c.args.part.four c.args.part.here) (kind_told public_key _ (four c.args.part.four c.args.part.here) refl c.in-17.is) (m public_key refl refl) c.in_ok-public_key_at-in-17.ensures refl refl

pub returns-in_err-name_at-in-19 : goal.returns-in_err-name_at-in-19
returns-in_err-name_at-in-19 c before m =
    passed_up c.from_residual-in_err-name_at-in-19.ensures
    ∙ alone_stops c.args.full c.args.external name before _ _ (four c.args.part.four c.args.part.here) (kind_told name _ (four c.args.part.four c.args.part.here) refl c.in-19.is) (m name refl refl) c.in_err-name_at-in-19.ensures

pub returns-in_ok-name_at-in-19 : goal.returns-in_ok-name_at-in-19
returns-in_ok-name_at-in-19 c before m =
    alone_found c.args.full c.args.external name before _ _ (four c.args.part.four c.args.part.here) (kind_told name _ (four c.args.part.four c.args.part.here) refl c.in-19.is) (m name refl refl) c.in_ok-name_at-in-19.ensures refl refl

pub information_at-requires : goal.information_at-requires
information_at-requires c = sym (byte_number _ 0 (omega (arith, c.args.part.four, c.args.part.here))) ∙ c.in-20.is

pub returns-in-20 : goal.returns-in-20
returns-in-20 c before m = c.information_at.ensures before (m information refl refl)

pub returns-in_err-application_data_at-in-21 : goal.returns-in_err-application_data_at-in-21
returns-in_err-application_data_at-in-21 c before m =
    passed_up c.from_residual-in_err-application_data_at-in-21.ensures
    ∙ alone_stops c.args.full c.args.external application_data before _ _ (four c.args.part.four c.args.part.here) (kind_told application_data _ (four c.args.part.four c.args.part.here) refl c.in-21.is) (m application_data refl refl) c.in_err-application_data_at-in-21.ensures

pub returns-in_ok-application_data_at-in-21 : goal.returns-in_ok-application_data_at-in-21
returns-in_ok-application_data_at-in-21 c before m =
    alone_found c.args.full c.args.external application_data before _ _ (four c.args.part.four c.args.part.here) (kind_told application_data _ (four c.args.part.four c.args.part.here) refl c.in-21.is) (m application_data refl refl) c.in_ok-application_data_at-in-21.ensures refl refl

pub returns-in_default : goal.returns-in_default
returns-in_default c before m =
    let r = c.args.part.bytes.now in
    let h = four c.args.part.four c.args.part.here in
    let b = byte_number r 0 (omega arith) in
    unknown_here r c.args.full c.args.external before c.args.part.place (at_start c.refused.ensures) h
    (ap section_kind (sym b) ∙ unknown (get_or r 0 0) (λ e. omega arith) (λ e. c.requires (sym b ∙ e)) (λ e. omega arith) (λ e. omega arith) (λ e. omega arith))
