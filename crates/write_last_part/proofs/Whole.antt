-- What the walk over the sections of a draft says of its reading. Assumes nothing.
use Rattle.std.specs.Prelude.{⊤, Ok, Err}
use mathlib.Core.Path.{◌≡◌, ◌∙◌}
use mathlib.Core.Bool.{false}
use mathlib.Core.List.{List}
use Prim.Native.Nat.{ℕ}
use native.Mathlib.Omega.{arith}
use lib.ListN.{take}
use lib.Seq.{length-take-le}
use Rattle.format.specs.Bytes.{Bytes}
use Rattle.format.specs.Reading.{stated, header_checks, row_count}
use Rattle.format.specs.Answers.{Accepted}
use Rattle.format.specs.declared.Refusal.{Refusal}
use Rattle.format.proofs.Writing.{told_found}
use Rattle.read_sections.specs.Refusals.{first_refusal}
use Rattle.read_sections.proofs.Laws.{all_hold}
use Rattle.read_token.proofs.Headers.{header_stops, header_lengths}
use Rattle.write_last_part.specs.Tiling.{Reads, LastOf, LastSection}
use Rattle.write_last_part.specs.declared.Last.{Last}
use Rattle.write_last_part.specs.declared.Last.TheVariants.{At, Empty, Broken}
use Rattle.write_last_part.proofs.LaidSections.{reads_tiled}

-- A header that is refused: the draft does not read.
pub header_unread : {r : Refusal} (d : List ℕ) → Err r ≡ first_refusal 0 (header_checks false d) → Reads d → ⊥
header_unread d e w = clash (header_stops false d e ∙ told_found row_count w.1)
  where
    clash : {r : Refusal} {c : ℕ} → Err r ≡ Accepted c → ⊥
    clash q = cc

-- The last section of a draft, from the last part after its header.
pub section_last : {u : ⊤} (d : List ℕ) (r : Last) → Bytes d → Ok u ≡ first_refusal 0 (header_checks false d)
    → LastOf (take (stated d) d) 8 r → LastSection d r
section_last d (At p) b e w = (all_hold 0 (header_checks false d) e, w)
section_last d Empty b e w =
    let l = length-take-le (stated d) d (header_lengths false d e).within in
    (all_hold 0 (header_checks false d) e, omega arith)
section_last d Broken b e w = λ r. w (reads_tiled d r.0 b r.1)
