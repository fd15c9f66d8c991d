-- `public_key`: the place, the rules on the fields, then the section's bytes and the new length.
use mathlib.Core.Path.{refl, sym, ◌∙◌}
use Prim.Native.Nat.{◌+◌}
use native.Mathlib.Omega.{arith}
use lib.Dec.{ltb}
use lib.ListN.{length}
use Rattle.format.specs.Bytes.{big_endian}
use Rattle.format.specs.Parts.{public_key}
use Rattle.format.specs.Writer.{public_key_fields}
use Rattle.format.proofs.Answers.{passed_up}
use Rattle.format.proofs.Numbers.{number_big_endian}
use Rattle.reading.proofs.Filled.{bytes_of}
use Rattle.write_section.proofs.Additions.{unfit_added}
use Rattle.write_section.proofs.Fields.{count_unfit, later_unfit}
use Rattle.write_judged_section.proofs.Answers.{no_place, rule_broken, rules_kept, put_after}
use Rattle.add_key_and_data.proofs.Ready.{key_ready, key_states, room, part_long, put_and_stated}
use Rattle.add_key_and_data.proofs.public_key.Goals as goal

pub returns-then-exponent-gt65535 : goal.returns-then-exponent-gt65535
returns-then-exponent-gt65535 c =
    let a = c.args in
    let d = a.draft.now in
    let e = a.exponent.now in
    let m = a.modulus.now in
    let z = unfit_added public_key (public_key_fields a.modulus_bits e m a.flags) d (count_unfit (length e) 65535 _ (omega arith)) c.not_fitting.ensures in
    record { answer = z.0; draft = z.1 }

pub returns-then-modulus-gt65535 : goal.returns-then-modulus-gt65535
returns-then-modulus-gt65535 c =
    let a = c.args in
    let d = a.draft.now in
    let e = a.exponent.now in
    let m = a.modulus.now in
    let z = unfit_added public_key (public_key_fields a.modulus_bits e m a.flags) d
    (later_unfit (ltb (length e) 65536) (count_unfit (length m) 65535 _ (omega arith))) c.not_fitting-then-modulus-gt65535.ensures in
    record { answer = z.0; draft = z.1 }

pub returns-in_err-l : goal.returns-in_err-l
returns-in_err-l c =
    let a = c.args in
    let d = a.draft.now in
    let e = a.exponent.now in
    let m = a.modulus.now in
    let y = key_ready d a.modulus_bits e m a.flags (omega arith) (omega arith) (bytes_of d (λ i. (c.slice_known-1.given i).fits)) in
    let z = no_place y c.in_err-l.ensures in
    record { answer = passed_up c.from_residual.ensures ∙ z.0; draft = z.1 }

pub returns-in_err-key_fields : goal.returns-in_err-key_fields
returns-in_err-key_fields c =
    let a = c.args in
    let d = a.draft.now in
    let e = a.exponent.now in
    let m = a.modulus.now in
    let y = key_ready d a.modulus_bits e m a.flags (omega arith) (omega arith) (bytes_of d (λ i. (c.slice_known-1.given i).fits)) in
    let s = key_states a.modulus_bits e m a.flags (omega arith) (omega arith) in
    let z = rule_broken y c.in_ok-l.ensures (c.in_err-key_fields.ensures _ (big_endian 2 a.modulus_bits) (big_endian 4 a.flags) s.0 s.1 (sym (number_big_endian 2 a.modulus_bits (omega arith))) (sym (number_big_endian 4 a.flags (omega arith)))) in
    record { answer = passed_up c.from_residual-in_err-key_fields.ensures ∙ z.0; draft = z.1 }

pub slice_bounds-put_key-end : goal.slice_bounds-put_key-end
slice_bounds-put_key-end c =
    let a = c.args in
    let d = a.draft.now in
    let e = a.exponent.now in
    let m = a.modulus.now in
    let n = 16 + length e + length m in
    let r = room d 0x11 n c.in_ok-l.ensures in
    omega arith

pub put_key-requires : goal.put_key-requires
put_key-requires c =
    let a = c.args in
    let d = a.draft.now in
    let e = a.exponent.now in
    let m = a.modulus.now in
    let n = 16 + length e + length m in
    let r = room d 0x11 n c.in_ok-l.ensures in
    let l = part_long d c.in_ok-l.field-0 n r.there in
    (l, omega arith)

pub overflow_cast-end : goal.overflow_cast-end
overflow_cast-end c =
    let a = c.args in
    let d = a.draft.now in
    let e = a.exponent.now in
    let m = a.modulus.now in
    let n = 16 + length e + length m in
    let r = room d 0x11 n c.in_ok-l.ensures in
    omega arith

pub overflow_cast-result : goal.overflow_cast-result
overflow_cast-result c =
    let a = c.args in
    let d = a.draft.now in
    let e = a.exponent.now in
    let m = a.modulus.now in
    let n = 16 + length e + length m in
    let r = room d 0x11 n c.in_ok-l.ensures in
    omega arith

pub returns : goal.returns
returns c =
    let a = c.args in
    let d = a.draft.now in
    let e = a.exponent.now in
    let m = a.modulus.now in
    let n = 16 + length e + length m in
    let r = room d 0x11 n c.in_ok-l.ensures in
    let y = key_ready d a.modulus_bits e m a.flags (omega arith) (omega arith) (bytes_of d (λ i. (c.slice_known-1.given i).fits)) in
    let s = key_states a.modulus_bits e m a.flags (omega arith) (omega arith) in
    let z = put_after y c.in_ok-l.ensures (rules_kept y _ (c.in_ok-key_fields.ensures _ (big_endian 2 a.modulus_bits) (big_endian 4 a.flags) s.0 s.1 (sym (number_big_endian 2 a.modulus_bits (omega arith))) (sym (number_big_endian 4 a.flags (omega arith))))) refl
    (put_and_stated public_key (public_key_fields a.modulus_bits e m a.flags) d c.in_ok-l.field-0 n r c.put_key.ensures y.long (c.copy_from_slice.ensures.after ∙ c.to_be_bytes.ensures)) in
    record { answer = z.0; draft = z.1 }

pub overflow_cast-l-2 : goal.overflow_cast-l-2
overflow_cast-l-2 c =
    let a = c.args in
    let d = a.draft.now in
    let e = a.exponent.now in
    let m = a.modulus.now in
    let n = 16 + length e + length m in
    let r = room d 0x11 n c.in_ok-l.ensures in
    omega arith
