-- The loop of `put_number`: the digits that are left, set before those that are, give all of them.
use mathlib.Core.List.{List, [], ◌∷◌, ◌++◌, map}
use mathlib.Core.Path.{◌≡◌, sym, ap, ap₂, ◌∙◌}
use Prim.Native.Nat.{ℕ, ◌+◌, ◌-◌, ◌/◌}
use native.Mathlib.Omega.{arith}
use lib.ListN.{length, take, length-set}
use Rattle.format.specs.Lines.{digit_text}
use Rattle.list_words.proofs.Digits.{last_digits}
use Rattle.list_words.proofs.Numerals.{numeral_last}
use Rattle.list_words.proofs.Stores.{with_digits, digits_start, digit_turn, digits_end}
use Rattle.list_words.proofs.put_number.Goals as goal

pub set-requires : goal.set-requires
set-requires c =
    let f : length c.as_slice-first.result.now ≡ length c.args.line.now = ap length c.as_slice-first.ensures.bytes in
    (omega arith, omega (arith, c.lengthen.ensures.len))

pub loop-k-init : goal.loop-k-init
loop-k-init c =
    let a = c.args in
    let first = length c.as_slice-first.result.now in
    let l = c.lengthen.new.self in
    let w = c.digit_places-count.result in
    let f : first ≡ length a.line.now = ap length c.as_slice-first.ensures.bytes in
    let g : length l ≡ first + w + 1 = omega (arith, c.lengthen.ensures.len) in
    let t : length c.set.new.self ≡ first + w + 1 = ap length c.set.ensures ∙ length-set l (first + w) a.end ∙ g in (
      omega arith,
      t,
      ap (λ (s : List ℕ). with_digits s first w a.base a.n) c.set.ensures
          ∙ digits_start l first w a.base a.n a.end g
          ∙ ap₂ (λ (i k : ℕ). take i l ++ (map digit_text (last_digits k a.base a.n) ++ (a.end ∷ []))) f c.digit_places-count.ensures.0
          ∙ ap₂ (λ (t u : List ℕ). t ++ (u ++ (a.end ∷ []))) c.lengthen.ensures.bytes (sym (numeral_last a.base a.width a.n (omega arith))),
    )

pub set-requires-in-loop-k : goal.set-requires-in-loop-k
set-requires-in-loop-k c = let i = c.loop-k.invariant in (omega arith, omega (arith, i.1))

pub loop-k-preserved : goal.loop-k-preserved
loop-k-preserved c =
    let l = c.loop-k in
    let a = c.args in
    let first = length c.as_slice-first.result.now in
    let i = l.invariant in
    let t : length c.set-in-loop-k.new.self ≡ length l.line = ap length c.set-in-loop-k.ensures ∙ length-set l.line (first + (l.k - 1)) c.digit_text.result in (
      omega arith,
      t ∙ i.1,
      ap (λ (s : List ℕ). with_digits s first (l.k - 1) a.base (l.rest / a.base)) c.set-in-loop-k.ensures
          ∙ digit_turn l.line first l.k a.base l.rest c.digit_text.result c.loop-k-test.true (omega (arith, i.1)) c.digit_text.ensures
          ∙ i.2,
    )

pub returns-clause-bytes : goal.returns-clause-bytes
returns-clause-bytes c =
    let l = c.loop-k in
    let first = length c.as_slice-first.result.now in
    sym (digits_end l.line first l.k c.args.base l.rest c.loop-k-test.false) ∙ l.invariant.2

pub returns-clause-len : goal.returns-clause-len
returns-clause-len c =
    let f : length c.as_slice-first.result.now ≡ length c.args.line.now = ap length c.as_slice-first.ensures.bytes in
    let i = c.loop-k.invariant in
    let w = c.digit_places-count.ensures.1 in
    omega (arith, i.1)
