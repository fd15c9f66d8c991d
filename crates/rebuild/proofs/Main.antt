-- What building a token again comes to. By the contract of `rebuild`, the code answers and leaves the draft so. Assumes nothing.
use mathlib.Core.Path.{◌≡◌, sym, ap, ◌∙◌}
use mathlib.Core.Bool.{true}
use mathlib.Core.List.{List}
use Prim.Native.Nat.{ℕ, ◌≤◌, ◌<◌}
use lib.Dec.{leb}
use lib.ListN.{length}
use borrow.Author.Tests.{le-leb, lt-leb, leb-true}
use Rattle.format.specs.Legal.{Legal}
use Rattle.format.specs.Reading.{Fault, refused, found, fault, reading}
use Rattle.format.specs.Writer.{write_answer}
use Rattle.format.specs.Answers.{Accepted}
use Rattle.format.proofs.Accepted.{legal_read}
use Rattle.format.proofs.Tests.{found_inj, needed, need_passed, need_failed, followed, then_found, then_refused}
use Rattle.format.proofs.Writing.{told_accepted}
use Rattle.rebuild.specs.Rebuilding.{rebuilt}

-- "Adding the parts of any legal token in their order, to a draft newly started with its identifier and with room, gives
-- back its very bytes."
pub gives_back : (bs d : List ℕ) → Legal bs → length bs ≤ length d → rebuilt bs d ≡ found bs
unfolding rebuilt
gives_back bs d l h = then_found _ (legal_read bs l) ∙ need_passed _ _ _ (le-leb (length bs) (length d) h)

-- The draft has no room: 23.
pub without_room : (bs d : List ℕ) → Legal bs → length d < length bs → rebuilt bs d ≡ refused (fault 23 0 0)
unfolding rebuilt
without_room bs d l h = then_found _ (legal_read bs l) ∙ need_failed _ _ _ (lt-leb (length bs) (length d) h)

-- The token's own refusal.
pub own_fault : (bs d : List ℕ) (f : Fault) → reading true bs ≡ refused f → rebuilt bs d ≡ refused f
unfolding rebuilt
own_fault bs d f e = then_refused _ e

-- An accepted answer tells the token's length, and the draft has room for it.
pub length_told : (bs d : List ℕ) (n : ℕ) → Accepted n ≡ write_answer (rebuilt bs d) → (n ≡ length bs) × (length bs ≤ length d)
unfolding rebuilt
length_told bs d n e =
    let t = told_accepted length (rebuilt bs d) n (sym e) in
    let f = followed (reading true bs) _ t.0 t.1 in
    let w = needed (leb (length bs) (length d)) _ _ t.0 f.2 in
    (sym t.2 ∙ ap length (sym (found_inj w.1)), leb-true (length bs) (length d) w.0)
