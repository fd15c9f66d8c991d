-- Five stores make the row.
use Rattle.format.proofs.Elements.{four_sets}
use native.Mathlib.Omega.{arith}
use mathlib.Core.Path.{◌≡◌, ap₂}
use mathlib.Core.List.{List}
use Prim.Native.Nat.{ℕ, suc, ◌+◌, ◌*◌}
use lib.ListN.{set}
use Rattle.read_rows.proofs.put_row.Goals as goal

pub returns : goal.returns
returns c =
    let at : ℕ = 5 * c.args.n in
    let last : at + 4 ≡ suc (suc (suc (suc at))) = omega arith in
    let row = c.args.row in
    ap₂ (λ (l : List ℕ) (j : ℕ). set l j row.rule) (four_sets c.args.table.now at row.kind row.offset row.length row.owner) last
