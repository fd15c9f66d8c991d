-- What `start` comes to: a draft too short, an unknown id, or the header. Assumes nothing.
use Rattle.std.specs.Prelude.{Err}
use mathlib.Core.Path.{◌≡◌, refl, sym, ap, ◌∙◌}
use mathlib.Core.Bool.{Bool, true, false}
use mathlib.Core.List.{List, [], ◌∷◌, ◌++◌}
use Prim.Native.Nat.{ℕ, ◌≤◌, ◌<◌}
use lib.ListN.{length, drop}
use borrow.Author.Tests.{le-leb, lt-leb}
use Rattle.format.specs.Parts.{written, known_id}
use Rattle.format.specs.Reading.{refused, found, fault, need, as_answer}
use Rattle.format.specs.Writer.{write_answer, draft_after, start}
use Rattle.format.specs.declared.Refusal.{Refusal}
use Rattle.format.specs.Answers.{Accepted}
use Rattle.write_appended_part.proofs.Outcomes.{same_written}

-- a draft of less than 8 bytes
pub too_short : {r : Refusal} (i : ℕ) (d : List ℕ) → r ≡ record { number = 23; place = 0 } → length d < 8
    → (Err r ≡ write_answer (start i d)) × (d ≡ draft_after (start i d) d)
unfolding start need as_answer
too_short i d e h =
    same_written {o = refused (fault 23 0 0)} {u = start i d} d
    (sym (ap (λ (b : Bool). need b (fault 23 0 0) (need (known_id i) (fault 2 0 0) (found (written i [])))) (lt-leb 8 (length d) h)))
    (ap (λ (r : Refusal). Err r) e) refl

-- room, and an id that is not known
pub id_unknown : {r : Refusal} (i : ℕ) (d : List ℕ) → r ≡ record { number = 2; place = 0 } → 8 ≤ length d → false ≡ known_id i
    → (Err r ≡ write_answer (start i d)) × (d ≡ draft_after (start i d) d)
unfolding start need as_answer
id_unknown i d e h b =
    same_written {o = refused (fault 2 0 0)} {u = start i d} d
    (ap (λ (x : Bool). need x (fault 2 0 0) (found (written i []))) b
    ∙ sym (ap (λ (x : Bool). need x (fault 23 0 0) (need (known_id i) (fault 2 0 0) (found (written i [])))) (le-leb 8 (length d) h)))
    (ap (λ (r : Refusal). Err r) e) refl

-- room and a known id: the header was stored
pub header_stored : {new : List ℕ} (i : ℕ) (d : List ℕ) → 8 ≤ length d → true ≡ known_id i
    → new ≡ (i ∷ 0 ∷ 0 ∷ 8 ∷ 0 ∷ 0 ∷ 0 ∷ 0 ∷ []) ++ drop 8 d
    → (Accepted 8 ≡ write_answer (start i d)) × (new ≡ draft_after (start i d) d)
unfolding start need as_answer
header_stored i d h b s =
    same_written {o = found (written i [])} {u = start i d} d
    (ap (λ (x : Bool). need x (fault 2 0 0) (found (written i []))) b
    ∙ sym (ap (λ (x : Bool). need x (fault 23 0 0) (need (known_id i) (fault 2 0 0) (found (written i [])))) (le-leb 8 (length d) h)))
    refl s
