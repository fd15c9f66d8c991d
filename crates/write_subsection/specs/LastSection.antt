-- Internal: the last section of a draft, to which a subsection is added.
use Rattle.std.specs.Prelude.{◌≡◌, Bool, true, false, ◌||◌, List, ℕ, ◌+◌, ◌≤◌, eqb, take, drop}
use Rattle.format.specs.Reading.{refused, found, fault, id_of, stated, header_checks, Outcome}
use Rattle.format.proofs.Tests.{Hold}
use Rattle.write_last_part.specs.Tiling.{LastAt}

-- sections 12 and 14 have subsections
abbrev pub holds_subsections : ℕ → Bool
holds_subsections i = eqb i 0x12 || eqb i 0x14

-- the bytes of their fixed fields
abbrev pub fixed_fields : ℕ → ℕ
fixed_fields i = elim (eqb i 0x12) [ true ↦ 20 | false ↦ 10 ]

-- the last section of a draft stands at the place o; it has the id of a section that has subsections, and its fixed fields,
-- which end at first
pub record LastOpen (d : List ℕ) (o first : ℕ) : Type 0 where
  pub header : Hold (header_checks false d)
  pub last : LastAt (take (stated d) d) 8 o
  pub id : ℕ
  pub there : id_of (drop o d) ≡ id
  pub holds : holds_subsections id ≡ true
  pub ends : first ≡ o + fixed_fields id
  pub fixed : first ≤ stated d

-- an outcome whose refusal stands j bytes further on
abbrev pub moved : {A : Type 0} → ℕ → Outcome A → Outcome A
moved j (refused f) = refused (fault f.number (f.part + j) (f.place + j))
moved j (found a) = found a
