-- The words for what the calls answer. In the code an answer is a `Result`, whose error is a refusal: here its cases have the
-- words of the definitions.
use Rattle.std.specs.Prelude.{ℕ, Option, Some, None, Result, Ok, Err}
use Rattle.format.specs.declared.Refusal.{Refusal}
use Rattle.format.specs.declared.Row.{Row}
use Rattle.format.specs.declared.Span.{Span}
use Rattle.format.specs.declared.RowStep.{RowStep}

-- the answer of a call: accepted with its second number, or the refusal's number and place
abbrev pub Answer : Type 0
Answer = Result ℕ Refusal

abbrev pub Accepted : ℕ → Answer
Accepted n = Ok n

abbrev pub Refused : ℕ → ℕ → Answer
Refused n p = Err (record { number = n; place = p })

-- what a view asks for: where a field lies in the token and how long it is, or the refusal's number and place
abbrev pub Where : Type 0
Where = Result Span Refusal

abbrev pub At : ℕ → ℕ → Where
At o n = Ok (record { offset = o; length = n })

abbrev pub Missing : ℕ → ℕ → Where
Missing n p = Err (record { number = n; place = p })

-- a step of the walk: a row with the next row's place, the end, or the refusal's number and place
abbrev pub Step : Type 0
Step = Result (Option RowStep) Refusal

abbrev pub Record : Row → ℕ → Step
Record r n = Ok (Some (record { row = r; next = n }))

abbrev pub End : Step
End = Ok None

abbrev pub Stopped : ℕ → ℕ → Step
Stopped n p = Err (record { number = n; place = p })
