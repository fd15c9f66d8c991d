-- The kinds by the names that they have in the code, and their numbers.
use Rattle.std.specs.Prelude.{◌≡◌, ℕ}
use Rattle.format.specs.Parts as Parts
use Rattle.format.specs.Parts.{kind_number}
use Rattle.format.specs.declared.kinds.Kind.{Kind}
use Rattle.format.specs.declared.kinds.Kind.TheVariants.{PublicKey, Rule, TransportVariant, TransportRule, ExportParameters, SourceRule, TokenParameters}
use Rattle.format.specs.declared.kinds.Kind.TheVariants.{Name, Information, Protection, Dates, ApplicationData}

-- the kind with this name
abbrev pub named : Kind → Parts.Kind
named PublicKey = Parts.public_key
named Rule = Parts.rule
named TransportVariant = Parts.transport_variant
named TransportRule = Parts.transport_rule
named ExportParameters = Parts.export_parameters
named SourceRule = Parts.source_rule
named TokenParameters = Parts.token_parameters
named Name = Parts.name
named Information = Parts.information
named Protection = Parts.protection
named Dates = Parts.dates
named ApplicationData = Parts.application_data

-- the number of the kind with this name
abbrev pub IsNumberOf : ℕ → Kind → Type 0
IsNumberOf n k = n ≡ kind_number (named k)

-- no kind has this number
abbrev pub IsNoKind : ℕ → Type 0
IsNoKind n = (k : Parts.Kind) → n ≡ kind_number k → ⊥
