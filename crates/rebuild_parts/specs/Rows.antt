-- Internal: a row of a token and its part, and the addition of its views.
use Rattle.std.specs.Prelude.{◌≡◌, List, ℕ}
use Rattle.format.specs.Layout.{Fields}
use Rattle.format.specs.Parts.{Kind, layout, Part}
use Rattle.format.specs.Legal.{Legal}
use Rattle.format.specs.Table.{Placed}
use Rattle.format.specs.Writer.{addition}
use Rattle.format.specs.Claims.{IsRow, chosen_views}
use Rattle.format.specs.Answers.{Answer}
use Rattle.writer.specs.Runs.{Call}

-- row number k of the legal token stands for the part p
pub record RowOf (bs : List ℕ) (k : ℕ) (p : Part) : Type 0 where
  pub legal : Legal bs
  pub placed : Placed
  pub is : IsRow bs legal k placed
  pub part : placed.part ≡ p

-- it stands for some part of this kind
pub record RowOfKind (bs : List ℕ) (k : ℕ) (j : Kind) : Type 0 where
  pub part : Part
  pub row : RowOf bs k part
  pub kind : part.kind ≡ j

-- the views of the chosen fields of row k, whose part has this kind
abbrev pub views_of : List ℕ → ℕ → Kind → Fields
views_of bs k j = chosen_views bs k 0 (layout j)

-- a call with the answer a that leaves the draft x of the draft d, by which the views of row k are added as a part of kind j
abbrev pub AddsViews : List ℕ → ℕ → Kind → List ℕ → Answer → List ℕ → Type 0
AddsViews bs k j d a x = Call (addition j (views_of bs k j) d) d a x
