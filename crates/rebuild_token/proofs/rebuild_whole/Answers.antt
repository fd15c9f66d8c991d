-- An accepted answer is the token's length, which the draft has.
use Rattle.std.proofs.Common.{◌≡◌, ℕ, ◌≤◌, List, length, arith, sym, length-take-le}
use Rattle.format.specs.Writer.{write_answer}
use Rattle.format.specs.Answers.{Accepted}
use Rattle.rebuild.specs.Rebuilding.{rebuilt}
use Rattle.rebuild.proofs.Main.{length_told}
use Rattle.rebuild_token.proofs.rebuild_whole.Goals as goal

within : (bs d e : List ℕ) (n : ℕ) → Accepted n ≡ write_answer (rebuilt bs d) → length e ≡ length d → n ≤ length e
within bs d e n a l = let told = length_told bs d n a in omega (arith, told.0, told.1)

pub slice_bounds-write_rebuilt-end : goal.slice_bounds-write_rebuilt-end
slice_bounds-write_rebuilt-end g c = within _ _ _ _ c.in-Ok.ensures.answer c.rebuild-a.auto.draft

pub slice_bounds-write_rebuilt-end-2 : goal.slice_bounds-write_rebuilt-end-2
slice_bounds-write_rebuilt-end-2 g c = sym (length-take-le _ _ (within _ _ _ _ c.in-Ok.ensures.answer c.rebuild-a.auto.draft))

pub slice_bounds-write_unused-count : goal.slice_bounds-write_unused-count
slice_bounds-write_unused-count g c = within _ _ _ _ c.in-Ok.ensures.answer c.rebuild-a.auto.draft

pub slice_bounds-write_unused-start : goal.slice_bounds-write_unused-start
slice_bounds-write_unused-start g c = within _ _ _ _ c.in-Ok.ensures.answer c.rebuild-a.auto.draft
