-- One section at the front of bytes: its tests, and its reading where it is all that is left. Assumes nothing.
use mathlib.Core.Path.{◌≡◌, ap, ◌∙◌}
use mathlib.Core.Bool.{Bool, false}
use mathlib.Core.List.{List, [], ◌∷◌, ◌++◌}
use mathlib.Core.Option.{Option, none, some}
use Prim.Native.Nat.{ℕ, ◌+◌, ◌≤◌}
use native.Mathlib.Omega.{arith}
use lib.Dec.{leb}
use lib.ListN.{length, drop, length-drop}
use borrow.Author.Tests.{le-leb}
use Rattle.format.specs.Parts.{Kind}
use Rattle.format.specs.Rules.{Section}
use Rattle.format.specs.Reading.{refused, found, fault, id_of, stated, Outcome, need, and_then, section_kind, part_in, tested, kind_before, rule_before, section_checks, section_rest, section}
use Rattle.format.proofs.Tests.{need_passed}
use Rattle.format.proofs.Turns.{then_same, sections_from, sections_none, sections_more}

-- A section of kind k at the front of r: its tests, and then the rest of it.
pub known : (x : Bool) (k : Kind) (ss : List Section) (at : ℕ) (r : List ℕ) → 4 ≤ length r → section_kind (id_of r) ≡ some k
    → section false x ss at r ≡ tested at (section_checks x k (kind_before k ss) (rule_before (part_in k r) ss) r) (section_rest false x k at r)
unfolding section
known x k ss at r h q =
    need_passed (leb 4 (length r)) (fault 6 at at) _ (le-leb 4 (length r) h)
    ∙ ap (λ (o : Option Kind). elim o as (λ y. Outcome Section) [
      | none ↦ refused (fault 7 at at)
      | some j ↦ tested at (section_checks x j (kind_before j ss) (rule_before (part_in j r) ss) r) (section_rest false x j at r)
    ]) q

-- One section that is all that is left.
pub alone : (x : Bool) (ss : List Section) (at : ℕ) (r : List ℕ) → 4 ≤ length r → stated r ≡ length r
    → sections_from false x ss at r ≡ and_then (section false x ss at r) (λ s. found (ss ++ s ∷ []))
unfolding need
alone x ss at r h e =
    sections_more false x ss at r (omega arith)
    ∙ then_same (section false x ss at r) _ _
    (λ s q.
    let l = length-drop (stated r) r in
    sections_none false x (ss ++ s ∷ []) (at + stated r) (drop (stated r) r) (omega arith))
