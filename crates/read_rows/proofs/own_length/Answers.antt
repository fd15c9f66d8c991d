-- The length that a section's id tells.
use native.Mathlib.Omega.{arith}
use Rattle.read_rows.proofs.Places.{own_twenty, own_ten, own_stated}
use Rattle.read_rows.proofs.own_length.Goals as goal

pub returns-in-18 : goal.returns-in-18
returns-in-18 c = own_twenty c.args.length c.in-18.is

pub returns-in-20 : goal.returns-in-20
returns-in-20 c = own_ten c.args.length c.in-20.is

pub returns-in_default : goal.returns-in_default
returns-in_default c = own_stated c.args.id c.args.length (λ e. omega arith) (λ e. omega arith)
