-- The bytes before place i are the text's.
use Rattle.std.proofs.Common.{◌≡◌, take}
use Rattle.add_key_and_data.proofs.copy.Given as goal

abbrev pub invariant-bytes : goal.invariant-bytes
invariant-bytes l = take l.i l.place ≡ take l.i l.text
