-- A run of the writer's calls on one draft, by their contracts: each gives an answer and leaves the draft as its contract
-- says, and nothing else touches the draft.
use Rattle.std.specs.Prelude.{◌≡◌, List, [], ◌∷◌, ℕ}
use Rattle.format.specs.Parts.{Part}
use Rattle.format.specs.Reading.{Outcome}
use Rattle.format.specs.Writer.{write_answer, draft_after, addition}
use Rattle.format.specs.Answers.{Answer, Accepted, Refused}

-- a call of the writer: its answer r, and the draft e that it leaves of the draft d, for what it comes to
pub record Call (o : Outcome (List ℕ)) (d : List ℕ) (r : Answer) (e : List ℕ) : Type 0 where
  pub answer : r ≡ write_answer o
  pub draft : e ≡ draft_after o d

-- the additions of the first parts, one after another, lead from the first draft to the second; the second parts are
-- those of them that were added, whose calls were accepted
pub data Run : List Part → List Part → List ℕ → List ℕ → Type 0 where
  done : {d : List ℕ} → Run [] [] d d
  added : {p : Part} {ps qs : List Part} {d x e : List ℕ} {n : ℕ} → Call (addition p.kind p.fields d) d (Accepted n) x
      → Run ps qs x e → Run (p ∷ ps) (p ∷ qs) d e
  refused : {p : Part} {ps qs : List Part} {d x e : List ℕ} {m q : ℕ} → Call (addition p.kind p.fields d) d (Refused m q) x
      → Run ps qs x e → Run (p ∷ ps) qs d e
