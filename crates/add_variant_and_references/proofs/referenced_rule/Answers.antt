-- `referenced_rule`: a Rule ID of another length than 8 is refused; else the bytes are put in order and added, of each of the two
-- kinds. Assumes nothing.
use mathlib.Core.Path.{◌≡◌, ap}
use mathlib.Core.Bool.{true}
use mathlib.Core.List.{List, [], ◌∷◌, ◌++◌, append-nil}
use Prim.Native.Nat.{ℕ}
use native.Mathlib.Omega.{arith}
use lib.ListN.{length}
use borrow.Author.Rules.{rules}
use Rattle.format.specs.Layout.{write}
use Rattle.format.specs.Parts.{transport_rule, frame, body}
use Rattle.add_variant_and_references.proofs.NamedRules.{rules_unfit, rules_put}
use Rattle.add_variant_and_references.proofs.referenced_rule.Goals as goal

pub returns-then-rule_id-ne8 : goal.returns-then-rule_id-ne8
returns-then-rule_id-ne8 c =
    let a = c.args in let z = rules_unfit a.tag a.rule_id.now a.draft.now c.if-rule_id-ne8.true c.not_fitting.ensures in record { answer = z.0; draft = z.1 }

pub returns : goal.returns
returns c =
    let a = c.args in
    let w : List ℕ = c.as_mut_slice.result.now in
    let e : w ≡ write 14 (frame true 0x12 a.tag ++ body transport_rule) (a.rule_id.now ∷ []) =
    simp (c.as_mut_slice.ensures, c.put-3.ensures.bytes, c.put-2.ensures.bytes, c.put.ensures.bytes, c.new-reference.ensures, c.subsection_head.ensures) (simp append-nil) in
    let l : 14 ≡ length w = omega (arith, ap length c.as_mut_slice.ensures, ap length c.new-reference.ensures) in
    let z = rules_put a.tag a.rule_id.now a.draft.now w (search rules) e l
    (c.add_subsection.ensures.answer, (c.add_subsection.ensures.draft, c.add_subsection.ensures.bytes)) in
    record { answer = z.0; draft = z.1 }
