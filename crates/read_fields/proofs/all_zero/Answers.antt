-- The bits of all bytes, gathered, are 0 exactly when every byte is. Assumes nothing.
use Rattle.std.proofs.Common.{rules, ◌≡◌, ◌+◌, ◌-◌, ℕ, nat_eq, bit_or, ap, ◌∙◌}
use Rattle.std.specs.List.{fold}
use Rattle.format.specs.Bytes.{bytes_at, all_zero}
use Rattle.read_fields.proofs.Lists.{bytes_start, zero_gathered}
use Rattle.read_fields.proofs.all_zero.Goals as goal

pub returns : goal.returns
unfolding bytes_at
returns c =
    let s = c.args.s.now in
    let i = c.args.i in
    let n = c.args.n in
    let bs = bytes_at s i (i + n - i) in
    let gathered : c.fold.result ≡ fold bit_or 0 bs = search rules in
    ap (λ (bits : ℕ). nat_eq bits 0) gathered ∙ zero_gathered bs 0 ∙ ap all_zero (bytes_start s i n)
