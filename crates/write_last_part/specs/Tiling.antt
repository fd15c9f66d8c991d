-- Internal: parts that follow each other, each as long as it states.
use Rattle.std.specs.Prelude.{◌≡◌, false, List, [], ℕ, ◌+◌, ◌≤◌, length, take, drop}
use Rattle.format.specs.Rules.{Section}
use Rattle.format.specs.Reading.{stated, header_checks, found, reading}
use Rattle.format.proofs.Tests.{Hold}
use Rattle.write_last_part.specs.declared.Last.{Last}
use Rattle.write_last_part.specs.declared.Last.TheVariants.{At, Empty, Broken}

-- stepping from part to part by the lengths that they state, one comes from the front of the bytes to z
pub data TiledTo (z : List ℕ) : List ℕ → Type 0 where
  here : TiledTo z z
  next : {r : List ℕ} → 4 ≤ stated r → stated r ≤ length r → TiledTo z (drop (stated r) r) → TiledTo z r

-- the parts end where the bytes do
abbrev pub Tiled : List ℕ → Type 0
Tiled r = TiledTo [] r

-- the part of s at q has 20 bytes, and one comes to it from p
pub record Twenties (s : List ℕ) (p q : ℕ) : Type 0 where
  pub front : p ≤ q
  pub inside : q + 20 ≤ length s
  pub states : stated (drop q s) ≡ 20
  pub tiled : TiledTo (drop q s) (drop p s)

-- the last part of s from the place first on begins at p
pub record LastAt (s : List ℕ) (first p : ℕ) : Type 0 where
  pub front : first ≤ p
  pub head : p + 4 ≤ length s
  pub tiled : TiledTo (drop p s) (drop first s)
  pub ends : p + stated (drop p s) ≡ length s

-- what is found of the last part of s from the place first on
abbrev pub LastOf : List ℕ → ℕ → Last → Type 0
LastOf s first (At p) = LastAt s first p
LastOf s first Empty = first ≡ length s
LastOf s first Broken = Tiled (drop first s) → ⊥

-- the bytes read as a draft
abbrev pub Reads : List ℕ → Type 0
Reads d = (ss : List Section) × (reading false d ≡ found ss)

-- what is found of the last section of a draft: its header passes its tests, or the draft does not read
abbrev pub LastSection : List ℕ → Last → Type 0
LastSection d (At p) = Hold (header_checks false d) × LastAt (take (stated d) d) 8 p
LastSection d Empty = Hold (header_checks false d) × (stated d ≡ 8)
LastSection d Broken = Reads d → ⊥
