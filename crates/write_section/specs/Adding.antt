-- Internal: an addition as bytes. What is added is the part's bytes as they are to stand in the draft.
use Rattle.std.specs.Prelude.{false, List, [], ◌∷◌, ℕ, ◌+◌, eqb, drop}
use Rattle.format.specs.Parts.{span}
use Rattle.format.specs.Rules.{Section}
use Rattle.format.specs.Reading.{Outcome, refused, found, fault, need, and_then, id_of, stated, reading}
use Rattle.write_appended_part.specs.Appended.{appended}

-- the place of the last of the sections that stand from the place at on, the one before them standing at `last`
abbrev pub last_place : ℕ → ℕ → List Section → ℕ
last_place last at [] = last
last_place last at (s ∷ ss) = last_place at (at + span s.head s.subs) ss

-- the draft's own fault, else the refusal with this number and place
abbrev pub refused_after : List ℕ → ℕ → ℕ → Outcome (List ℕ)
refused_after d n p = and_then (reading false d) (λ ss. refused (fault n p p))

-- the draft's own fault, else 24
unfoldable pub unfit : List ℕ → Outcome (List ℕ)
unfit d = refused_after d 24 (stated d)

-- an outcome whose refusal gives way to the draft's own fault
unfoldable pub own_first : List ℕ → Outcome (List ℕ) → Outcome (List ℕ)
own_first d (refused f) = and_then (reading false d) (λ ss. refused f)
own_first d (found bs) = found bs

-- the addition of a section: the draft's own fault, then 23 and the rest
unfoldable pub section_added : List ℕ → List ℕ → Outcome (List ℕ)
section_added d w = and_then (reading false d) (λ ss. appended d 0 w)

-- the addition of a subsection to a section with the id i: the draft's own fault, 25, then 23 and the rest
unfoldable pub subsection_added : ℕ → List ℕ → List ℕ → Outcome (List ℕ)
subsection_added i d w =
    and_then (reading false d)
    (λ ss.
    let o = last_place 0 8 ss in
    need (eqb (id_of (drop o d)) i) (fault 25 (stated d) (stated d)) (appended d o w))
