-- Internal: a draft with a part after it. The part is its bytes as they are to stand in the draft.
use Rattle.std.specs.Prelude.{◌≡◌, false, ◌&&◌, List, ◌++◌, ◌⊎◌, ℕ, ◌+◌, ◌≤◌, leb, length, take, drop}
use Rattle.format.specs.Rules.{longest}
use Rattle.format.specs.Reading.{found, fault, stated, reading, Outcome, need, and_then}
use Rattle.format.proofs.Changes.{restate}

-- the draft's bytes are there, and so are those of the section at place o, or of the header where o is 0
pub record Standing (d : List ℕ) (o : ℕ) : Type 0 where
  pub least : 8 ≤ stated d
  pub most : stated d ≤ longest
  pub there : stated d ≤ length d
  pub head : o + 4 ≤ stated d
  pub ends : o + stated (drop o d) ≤ stated d
  pub apart : (o ≡ 0) ⊎ (8 ≤ o)

-- the draft longer by the bytes w: its own bytes with the lengths that they make, the header's and that of the section at
-- place o, and w after them. At place 0 stands the header itself
abbrev pub grown : List ℕ → ℕ → List ℕ → List ℕ
grown d o w = restate o (stated (drop o d) + length w) (restate 0 (stated d + length w) (take (stated d) d)) ++ w

-- 23, then what reading the longer draft gives
unfoldable pub appended : List ℕ → ℕ → List ℕ → Outcome (List ℕ)
appended d o w =
    need (leb (stated d + length w) longest && leb (stated d + length w) (length d)) (fault 23 (stated d) (stated d))
    (and_then (reading false (grown d o w)) (λ ts. found (grown d o w)))
