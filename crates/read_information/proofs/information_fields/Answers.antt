-- The first refusal of the fields of section 14 is that of their tests.
use mathlib.Core.Path.{◌≡◌}
use mathlib.Core.Bool.{Bool}
use mathlib.Core.List.{List}
use Prim.Native.Nat.{ℕ}
use lib.ListN.{drop}
use Rattle.format.specs.Bytes.{number, bytes_at}
use Rattle.format.specs.Parts.{information}
use Rattle.format.specs.Reading.{field_checks}
use Rattle.read_sections.proofs.Laws.{Left, all_left, passed, failed, none_left, zero_yes, zero_not, at_most, above}
use Rattle.read_information.proofs.information_fields.Goals as goal

-- after the reserved bytes
past_reserved : (x : Bool) (p : ℕ) (s : List ℕ) {v : ℕ} → v ≡ number (bytes_at s 4 2) → v ≡ 0 → let cs = field_checks x information s in Left p cs (drop 1 cs)
past_reserved x p s e h = passed (all_left _) (zero_yes s 4 2 e h)

pub returns-then-two-ne0 : goal.returns-then-two-ne0
returns-then-two-ne0 c x = failed (all_left _) c.refused.ensures (zero_not _ 4 2 c.two.ensures.0 c.if-two-ne0.true)

pub returns-then-four-gt1 : goal.returns-then-four-gt1
returns-then-four-gt1 c x = failed (past_reserved x _ _ c.two.ensures.0 c.if-two-ne0.false) c.refused-then-four-gt1.ensures (above _ 6 4 c.four.ensures 1 c.if-four-gt1.true)

pub returns : goal.returns
returns c x = none_left (passed (past_reserved x _ _ c.two.ensures.0 c.if-two-ne0.false) (at_most _ 6 4 c.four.ensures 1 c.if-four-gt1.false))
