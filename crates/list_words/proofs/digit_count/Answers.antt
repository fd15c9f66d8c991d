-- `digit_count` divides until one digit is left. Assumes nothing.
use native.Mathlib.Omega.{arith}
use native.Mathlib.Nat.{div-lt_self}
use borrow.Author.Rules.{rules}
use Rattle.list_words.proofs.Numerals.{count_one, count_more, count_ten}
use Rattle.list_words.proofs.digit_count.Goals as goal

pub loop-rest-init : goal.loop-rest-init
loop-rest-init c =
    (count_ten c.args.base c.args.n (search rules) (search rules), omega arith)

pub loop-rest-smaller : goal.loop-rest-smaller
loop-rest-smaller c = div-lt_self (omega arith) (omega arith)

pub loop-rest-preserved : goal.loop-rest-preserved
loop-rest-preserved c =
    let l = c.loop-rest in
    (l.invariant.0, omega (arith, count_more c.args.base l.rest (omega arith) (omega arith)))

pub returns : goal.returns
returns c =
    let r = count_one c.args.base c.loop-rest.rest (omega arith) in
    (omega arith, omega arith)
