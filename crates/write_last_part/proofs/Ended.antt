-- Where the walk over the parts ends they are tiled. Assumes nothing.
use mathlib.Core.Path.{◌≡◌, refl, sym, subst}
use mathlib.Core.Bool.{false}
use mathlib.Core.List.{List}
use Prim.Native.Nat.{ℕ}
use native.Mathlib.Omega.{arith}
use lib.ListN.{take, drop, drop_of_length-le}
use lib.Seq.{length-take-le}
use Rattle.format.specs.Reading.{stated, header_checks}
use Rattle.format.proofs.Tests.{Hold}
use Rattle.read_token.proofs.Headers.{lengths}
use Rattle.write_last_part.specs.Tiling.{Tiled, LastOf, LastSection, here}
use Rattle.write_last_part.specs.declared.Last.{Last}
use Rattle.write_last_part.specs.declared.Last.TheVariants.{At, Empty, Broken}
use Rattle.write_last_part.proofs.Tiling.{tiled_last}

pub walk_ended : (s : List ℕ) (first : ℕ) (r : Last) → LastOf s first r → (r ≡ Broken → ⊥) → Tiled (drop first s)
walk_ended s first (At p) w n = tiled_last w
walk_ended s first Empty w n = subst Tiled (sym (drop_of_length-le s {i = first} (omega arith))) here
walk_ended s first Broken w n = absurd (n refl)

-- The same of a draft's sections.
pub sections_ended : (d : List ℕ) (r : Last) → LastSection d r → (r ≡ Broken → ⊥) → Hold (header_checks false d) × Tiled (drop 8 (take (stated d) d))
sections_ended d (At p) w n = (w.0, tiled_last w.1)
sections_ended d Empty w n =
    let l = length-take-le (stated d) d (lengths false d w.0).within in
    let e = w.1 in
    (w.0, subst Tiled (sym (drop_of_length-le (take (stated d) d) {i = 8} (omega arith))) here)
sections_ended d Broken w n = absurd (n refl)
