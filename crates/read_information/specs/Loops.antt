-- Internal: what the loops over subsections have read so far.
use Rattle.std.specs.Prelude.{◌≡◌, Bool, List, [], ℕ, suc, ◌+◌, ◌-◌, ◌≤◌, length, drop}
use Rattle.format.specs.Parts.{information, protection, dates, token_parameters, Part}
use Rattle.format.specs.Rules.{has, of_kind}
use Rattle.format.proofs.Turns.{subsections_from}

-- Of the section 14 with the bytes r, at a place and of length e, the subsections up to offset q are read: n rows with the section's
-- own, and the flags say which tags are among them. What is read from here is what is read from the first one on.
pub record InformationRead (r : List ℕ) (at e : ℕ) (x : Bool) (q n : ℕ) (protected dated : Bool) : Type 0 where
  pub done : List Part
  pub protections : has protection done ≡ protected
  pub dateds : has dates done ≡ dated
  pub unmasked : of_kind token_parameters done ≡ []
  pub rows : n ≡ suc (length done)
  pub few : n + 9 ≤ q
  pub ends : q ≤ e
  pub same : subsections_from x information done (at + q) (e - q) (drop q r) ≡ subsections_from x information [] (at + 10) (e - 10) (drop 10 r)
