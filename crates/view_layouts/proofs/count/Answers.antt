-- The number of one byte.
use mathlib.Core.Path.{sym, ap, ◌∙◌}
use Prim.Native.Nat.{ℕ}
use native.Mathlib.Omega.{arith}
use Rattle.format.specs.Bytes.{number, bytes_at}
use Rattle.format.proofs.Numbers.{number_one}
use Rattle.view_layouts.proofs.count.Goals as goal

pub returns-then-bytes-eq1 : goal.returns-then-bytes-eq1
returns-then-bytes-eq1 c =
    let a = c.args in
    c.from.ensures ∙ sym (number_one a.s.now a.place (omega arith)) ∙ ap (λ (n : ℕ). number (bytes_at a.s.now a.place n)) (sym c.if-bytes-eq1.true)
