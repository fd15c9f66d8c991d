-- A read puts its bytes behind those that were there, and takes them from the reader's.
use Rattle.std.proofs.Common.{◌≡◌, ℕ, ◌+◌, ◌≤◌, List, ◌++◌, rules, length, take, sym, ap, ◌∙◌, subst, length-take-le}
use Rattle.std.proofs.Math.Seq.{take-append-add}
use Rattle.std.proofs.lemmas.List.{take-append-le}
use Rattle.std.specs.Io.KnownBytes.{Consumes}
use Rattle.std.proofs.KnownBytes.{Consumes-trans}
use borrow.Rule.Slice.PartMut.{put_mid, post_of}
use Rattle.list_output.proofs.read_full.Goals as goal

-- the first done bytes, and n of the k bytes that now stand behind them
take_read : (done k n : ℕ) (xs ys : List ℕ) → done ≤ length xs → n ≤ length ys
    → take (done + n) (put_mid done k xs ys) ≡ take done xs ++ take n ys
take_read done k n xs ys within fits =
    ap (λ m. take (m + n) (put_mid done k xs ys)) (sym (length-take-le done xs within))
    ∙ take-append-add (take done xs) (ys ++ post_of done k xs) n
    ∙ ap (λ l. take done xs ++ l) (take-append-le n ys (post_of done k xs) fits)

pub loop-done-preserved : goal.loop-done-preserved
loop-done-preserved g c =
    let before = c.loop-done.invariant in
    let taken = take_read c.loop-done.done _ c.in-Ok.n c.loop-done.bytes c.read.new.buf before.0 c.in-Ok.ensures.bound.0 in
    (search rules, subst (Consumes _ _) (sym taken) (Consumes-trans _ _ _ _ _ before.1 c.in-Ok.ensures.bytes.0))
