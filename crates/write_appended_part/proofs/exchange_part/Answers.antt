-- The exchange and the two lengths, each by its contract.
use mathlib.Core.Path.{◌≡◌, refl, ap, ◌∙◌}
use mathlib.Core.List.{List}
use Prim.Native.Nat.{ℕ, ◌+◌, ◌-◌}
use native.Mathlib.Omega.{arith}
use lib.ListN.{length, take, drop}
use Rattle.format.specs.Bytes.{bytes_at}
use Rattle.format.proofs.Changes.{restate}
use Rattle.write_appended_part.proofs.Longer.{put_over}
use Rattle.write_appended_part.proofs.exchange_part.Goals as goal

-- So many bytes from a place on.
between : (bs : List ℕ) (i n : ℕ) → take (i + n - i) (drop i bs) ≡ bytes_at bs i n
unfolding bytes_at
between bs i n =
    let e : i + n - i ≡ n = omega arith in
    ap (λ (k : ℕ). take k (drop i bs)) e

pub returns : goal.returns
returns c =
    let a = c.args in
    let d = a.draft.now in
    let w = a.part.now in
    let x = c.swap_with_slice.ensures in
    let put = put_over a.l (a.l + length w) d w x.after refl c.requires.0 in
    record {
      draft = c.state_length-2.ensures ∙ ap (restate a.section a.m) (c.state_length.ensures ∙ ap (restate 0 a.n) put);
      part = x.other_after ∙ between d a.l (length w);
    }
