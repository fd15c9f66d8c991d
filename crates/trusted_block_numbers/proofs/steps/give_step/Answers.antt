-- The numbers where the step is no row: the end, or the refusal.
use borrow.Author.Rules.{rules}
use Rattle.format.specs.GivenNumbers.{number_of, second_of, step_number, step_second, row_kind, row_offset, row_length, row_owner, row_rule, next_of}
use Rattle.trusted_block_numbers.proofs.steps.give_step.Goals.{in_default-via-in-Ok+in_default, in_default-via-in_default}
use Rattle.trusted_block_numbers.proofs.steps.give_step.Goals as goal

pub returns-in_default : goal.returns-in_default
unfolding number_of second_of step_number step_second row_kind row_offset row_length row_owner row_rule next_of
returns-in_default c = elim c.in_default.branch [
  | in_default-via-in-Ok+in_default w ↦ search rules
  | in_default-via-in_default w ↦ search rules
]

pub returns : goal.returns
unfolding step_number step_second row_kind row_offset row_length row_owner row_rule next_of
returns c = search rules
