-- The two subsections that name another rule: 12/0002 and 12/0004 differ in the tag only.
use Rattle.std.specs.Prelude.{◌≡◌, true, ◌++◌, ℕ}
use Rattle.format.specs.Parts.{Kind, transport_rule, is_subsection, section_id, layout, body, frame}

-- the kind with the tag g is a subsection of section 12 that holds a Rule ID
pub record NamesRule (k : Kind) (g : ℕ) : Type 0 where
  pub subsection : is_subsection k ≡ true
  pub section : section_id k ≡ 0x12
  pub fields : layout k ≡ frame true 0x12 g ++ body transport_rule
