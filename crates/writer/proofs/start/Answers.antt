-- `start`: a draft too short, an unknown id, or the header at the draft's start. Assumes nothing.
use mathlib.Core.Path.{ap}
use mathlib.Core.List.{List, ◌++◌}
use Prim.Native.Nat.{ℕ}
use native.Mathlib.Omega.{arith}
use lib.ListN.{drop}
use Rattle.std.proofs.lemmas.Bool.Decides.{nat_tests}
use Rattle.writer.proofs.StartBytes.{too_short, id_unknown, header_stored}
use Rattle.writer.proofs.start.Goals as goal

pub returns-then-short : goal.returns-then-short
returns-then-short c = let z = too_short c.args.id c.args.draft.now c.at.ensures (omega arith) in record { answer = z.0; draft = z.1 }

pub returns-in-30 : goal.returns-in-30
returns-in-30 c =
    let z = header_stored c.args.id c.args.draft.now (omega arith) (grind (arith, nat_tests)) (ap (λ (y : List ℕ). y ++ drop 8 c.args.draft.now) c.copy_from_slice.ensures.after) in
    record { answer = z.0; draft = z.1 }

pub returns-in_default : goal.returns-in_default
returns-in_default c =
    let z = id_unknown c.args.id c.args.draft.now c.at-in_default.ensures (omega arith) (grind (arith, nat_tests)) in
    record { answer = z.0; draft = z.1 }
