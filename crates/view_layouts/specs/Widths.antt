-- Internal: the lengths of a kind's fields as the code has them, and what the walk through them keeps.
use Rattle.std.specs.Prelude.{◌≡◌, List, map, ℕ, ◌+◌, ◌<◌, ◌≤◌, length, get_or, slice_set, drop}
use Rattle.format.specs.Bytes.{number, bytes_at}
use Rattle.format.specs.Layout.{Item, code, zeros, own, count, fixed, counted}
use Rattle.format.specs.Parts.{Kind, kind_number, layout, Part}
use Rattle.format.specs.KindNames.{named}
use Rattle.format.specs.Rules.{longest}
use Rattle.format.specs.Reading.{made_length}
use Rattle.format.specs.Views.{slot_of}
use Rattle.format.specs.Answers.{Where}
use Rattle.format.specs.declared.kinds.Kind as Names
use Rattle.view_layouts.specs.declared.Counts.{Counts}
use Rattle.view_layouts.specs.declared.Width.{Width}
use Rattle.view_layouts.specs.declared.Width.TheVariants.{Bytes, Count, Counted}

-- ---- the lengths of a kind's fields

-- the length of a field, as the code has it
abbrev pub width_of : Item → Width
width_of (code w v) = Bytes w
width_of (zeros n q) = Bytes n
width_of (own w) = Bytes w
width_of (count w k) = Count w
width_of (fixed n) = Bytes n
width_of (counted j) = Counted j

-- the lengths of the kind's fields
abbrev pub widths_of : Names.Kind → List Width
widths_of k = map width_of (layout (named k))

-- ---- the counts that were passed

-- of a count that a length names the number is held
abbrev pub IsHeld : Width → Type 0
IsHeld (Bytes n) = Unit {0}
IsHeld (Count n) = Unit {0}
IsHeld (Counted j) = j < 2

-- the length of a field after these counts
abbrev pub length_of : Counts → Width → ℕ
length_of c (Bytes n) = n
length_of c (Count n) = n
length_of c (Counted j) = get_or c.numbers j 0

-- where the field is a count, its bytes are there, and its number can be held
abbrev pub HasRoom : List ℕ → ℕ → Counts → Width → Type 0
HasRoom s o c (Bytes n) = Unit {0}
HasRoom s o c (Count n) = (0 < n) × (n < 3) × (o + n ≤ length s) × (c.passed < 2)
HasRoom s o c (Counted j) = Unit {0}

-- the counts after the field
abbrev pub counts_after : List ℕ → ℕ → Counts → Width → Counts
counts_after s o c (Bytes n) = c
counts_after s o c (Count n) = record { numbers = slice_set c.numbers c.passed (number (bytes_at s o n)); passed = c.passed + 1 }
counts_after s o c (Counted j) = c

-- ---- the walk through a layout

-- a part of this kind stands at this place of a short token
pub record Standing (s : List ℕ) (at n : ℕ) : Type 0 where
  pub kind : Kind
  pub told : n ≡ kind_number kind
  pub short : length s ≤ longest
  pub inside : at + made_length kind (drop at s) ≤ length s

-- where a field lies of the part of this kind that stands at this place
abbrev pub InSlot : List ℕ → ℕ → ℕ → ℕ → Where → Type 0
InSlot s at n field r = (p : Part) → n ≡ kind_number p.kind → r ≡ slot_of s at p field
