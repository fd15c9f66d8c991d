-- The modulus, by the bits of its first byte and the parity of its last. Assumes nothing.
use Rattle.std.proofs.Common.{arith, rules}
use Rattle.read_fields.proofs.Sizes.{bytes_of, modulus_ends}
use Rattle.read_fields.proofs.keys.modulus_form.Goals as goal

pub returns-then-modulus-bits-eq1 : goal.returns-then-modulus-bits-eq1
returns-then-modulus-bits-eq1 c =
    let m = c.args.modulus.now in
    let p = c.requires in
    rw (modulus_ends m (bytes_of m (λ k. (c.type_inv.modulus k).fits)) c.args.bits (omega (arith, p.0)) p.2) (search rules)

pub returns-else-modulus-bits-eq1 : goal.returns-else-modulus-bits-eq1
returns-else-modulus-bits-eq1 c =
    let m = c.args.modulus.now in
    let p = c.requires in
    rw (modulus_ends m (bytes_of m (λ k. (c.type_inv.modulus k).fits)) c.args.bits (omega (arith, p.0)) p.2) (search rules)
