-- Internal: the rows of a token, for the functions that add their parts.
use Rattle.std.specs.Prelude.{◌≡◌, List, ℕ, length}
use Rattle.format.specs.Parts.{Part}
use Rattle.format.specs.Legal.{Legal}
use Rattle.format.specs.Writer.{addition}
use Rattle.format.specs.Answers.{Answer}
use Rattle.writer.specs.Runs.{Call}
use Rattle.rebuild_parts.specs.Rows.{RowOf}

-- row k stands for some part
pub record IsThere (bs : List ℕ) (k : ℕ) : Type 0 where
  pub part : Part
  pub row : RowOf bs k part

-- the token is legal and has n rows
pub record HasRows (bs : List ℕ) (n : ℕ) : Type 0 where
  pub legal : Legal bs
  pub rows : length legal.parts ≡ n

-- a call with the answer a that leaves the draft x of the draft d, by which the part that row k stands for is added
abbrev pub AddsRow : List ℕ → ℕ → List ℕ → Answer → List ℕ → Type 0
AddsRow bs k d a x = (p : Part) → RowOf bs k p → Call (addition p.kind p.fields d) d a x
