-- The exponent, by its last byte, by its length, by what a longer one has in front, and byte by byte. Assumes nothing.
use Rattle.std.proofs.Common.{rules, arith, ◌≡◌, ◌-◌, length, length-drop, take, drop, sym, ◌∙◌}
use lib.Seq.{take_all}
use Rattle.format.proofs.Numbers.{bytes_drop}
use Rattle.read_fields.proofs.Exponents.{exponent_even, exponent_shorter, exponent_zeros, exponent_more}
use Rattle.read_fields.proofs.Order.{slice_order}
use Rattle.read_fields.proofs.Sizes.{bytes_of}
use Rattle.read_fields.proofs.keys.exponent_form.Goals as goal

pub returns-then-exponent-ne1 : goal.returns-then-exponent-ne1
returns-then-exponent-ne1 c =
    sym (exponent_even c.args.exponent.now c.args.modulus.now c.requires.0 c.if-exponent-ne1.true)

pub returns-then-exponent-modulus : goal.returns-then-exponent-modulus
returns-then-exponent-modulus c =
    let e = c.args.exponent.now in
    sym (exponent_shorter e c.args.modulus.now c.requires.0 c.if-exponent-ne1.false (bytes_of e (λ k. (c.type_inv.exponent k).fits)) c.if-exponent-modulus.true c.requires.1)

pub returns-then-all_zero : goal.returns-then-all_zero
returns-then-all_zero c =
    let e = c.args.exponent.now in
    let m = c.args.modulus.now in
    let d = length e - length m in
    let l = length-drop d e in
    let rest : take (length e - d) (drop d e) ≡ drop d e = take_all (length e - d) (drop d e) (omega arith) in
    let order = slice_order (drop d e) m (omega arith) (bytes_drop d e (bytes_of e (λ k. (c.type_inv.exponent k).fits))) (bytes_of m (λ k. search rules)) in
    exponent_zeros e m c.requires.0 c.if-exponent-ne1.false c.if-exponent-modulus.false (sym c.all_zero.ensures ∙ c.if-all_zero.true)
    (c.is_lt.ensures ∙ rw (c.cmp.ensures, rest) order)

pub returns-else-all_zero : goal.returns-else-all_zero
returns-else-all_zero c =
    let m = c.args.modulus.now in
    let t = c.if-all_zero.false in
    t ∙ sym (exponent_more c.args.exponent.now m c.requires.0 c.if-exponent-ne1.false (bytes_of m (λ k. search rules)) c.if-exponent-modulus.false (sym c.all_zero.ensures ∙ t))
