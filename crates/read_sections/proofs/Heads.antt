-- A section of a known kind, by what its check answers: the outcome that the definition gives.
use Rattle.std.specs.Prelude.{⊤, Result, Ok, Err}
use mathlib.Core.Path.{◌≡◌, refl, sym, ap, ap₂, ◌∙◌}
use mathlib.Core.Bool.{Bool, true, false, not, ◌&&◌, ◌||◌, or-true}
use mathlib.Core.List.{List, []}
use mathlib.Core.Option.{Option, none, some}
use Prim.Native.Nat.{ℕ, suc, ◌+◌, ◌-◌, ◌≤◌}
use native.Mathlib.Omega.{arith}
use lib.Dec.{eqb, leb}
use lib.ListN.{length, get_or, drop}
use borrow.Author.Tests.{eqb-true, le-leb}
use Rattle.format.specs.Bytes.{number}
use Rattle.format.specs.Parts.{Kind, rule, information, same_kind}
use Rattle.format.specs.Reading.{id_of, section_kind, Outcome, refused, found, fault, and_then, tested, as_answer, stated, made_length, part_in, kind_before, rule_before, section_checks, mask_offset, after_subsections, section_rest, section}
use Rattle.format.specs.Rules.{Section, has_required}
use Rattle.format.specs.declared.Refusal.{Refusal}
use Rattle.format.proofs.Tests.{need_passed, then_found}
use Rattle.format.proofs.Turns.{subsections_from, subs_from, subs_none}
use Rattle.read_sections.specs.Refusals.{first_refusal, section_rows}
use Rattle.read_sections.proofs.Laws.{all_hold}
use Rattle.read_sections.proofs.Subs.{refused_same, refused_told, stops, leads}

module _ (full x : Bool) (k : Kind) (before : List Section) (r : List ℕ) (p : ℕ) where
  -- The tests of the section with these bytes, at p, where it is of kind k.
  abbrev Tests : Bool → Bool → Result ⊤ Refusal
  Tests seen repeated = first_refusal p (section_checks x k seen repeated r)

  known : 4 ≤ length r → section_kind (id_of r) ≡ some k
      → section full x before p r
      ≡ tested p (section_checks x k (kind_before k before) (rule_before (part_in k r) before) r) (section_rest full x k p r)
  unfolding section
  known h e =
      need_passed (leb 4 (length r)) (fault 6 p p) _ (le-leb 4 (length r) h)
      ∙ ap (λ (m : Option Kind). elim m as (λ y. Outcome Section) [ none ↦ refused (fault 7 p p) | some j ↦ tested p (section_checks x j (kind_before j before) (rule_before (part_in j r) before) r) (section_rest full x j p r) ])
      e

  -- A section that a test refuses is refused with it.
  pub section_stops : {w : Refusal} {seen repeated : Bool} → 4 ≤ length r → section_kind (id_of r) ≡ some k
      → kind_before k before ≡ seen → rule_before (part_in k r) before ≡ repeated
      → Err w ≡ Tests seen repeated → Err w ≡ as_answer section_rows (section full x before p r)
  section_stops h e a b f =
      let g = f ∙ ap₂ Tests (sym a) (sym b) in
      refused_told section_rows (refused_same (known h e) (stops p _ _ g))

  -- One that none refuses is what its subsections and its end make of it.
  pub section_goes : {u : ⊤} {seen repeated : Bool} → 4 ≤ length r → section_kind (id_of r) ≡ some k
      → kind_before k before ≡ seen → rule_before (part_in k r) before ≡ repeated
      → Ok u ≡ Tests seen repeated → section full x before p r ≡ section_rest full x k p r
  section_goes h e a b f = known h e ∙ leads p _ _ (f ∙ ap₂ Tests (sym a) (sym b))

-- After its own fields a section, whose length is e, is its subsections and its end.
pub section_rest_is : (full x : Bool) (k : Kind) (r : List ℕ) (p e : ℕ) → e ≡ stated r
    → section_rest full x k p r
    ≡ and_then (subsections_from x k [] (p + made_length k r) (e - made_length k r) (drop (made_length k r) r))
    (λ us. after_subsections full p (p + made_length k r) (record { head = part_in k r; subs = us }))
unfolding section_rest
section_rest_is full x k r p e l =
    let m : ℕ = made_length k r in
    ap (λ o. and_then o (λ us. after_subsections full p (p + m) (record { head = part_in k r; subs = us })))
    (subs_from (suc (stated r)) x k [] (p + m) (stated r - m) (drop m r) (omega arith)
    ∙ ap (λ (a : ℕ). subsections_from x k [] (p + m) (a - m) (drop m r)) (sym l))

-- A section without subsections whose counts make its length is found as it is.
plain_rest : (full x : Bool) (k : Kind) (p : ℕ) (r : List ℕ) → made_length k r ≡ stated r → same_kind rule k ≡ false → same_kind information k ≡ false
    → section_rest full x k p r ≡ found (record { head = part_in k r; subs = [] })
unfolding section_rest after_subsections
plain_rest full x k p r e a b =
    let m : ℕ = made_length k r in
    let none : stated r - m ≡ 0 = omega arith in
    let s : Section = record { head = part_in k r; subs = [] } in
    then_found _
    (subs_from (suc (stated r)) x k [] (p + m) (stated r - m) (drop m r) (omega arith)
    ∙ ap (λ (n : ℕ). subsections_from x k [] (p + m) n (drop m r)) none
    ∙ subs_none x k [] (p + m) (drop m r))
    ∙ need_passed true (fault 18 (p + m) (p + m + mask_offset)) _ refl
    ∙ need_passed (not full || has_required s) (fault 20 p p) (found s)
    (ap (λ (c : Bool). not full || c) (ap₂ (λ (u v : Bool). (not (u && eqb (number (get_or (part_in k r).fields 1 [])) 1) || false) && (not v || false)) a b)
    ∙ or-true (not full))

-- A section of a kind without subsections that no test refuses is found as it is.
pub plain_found : (full x : Bool) (k : Kind) (before : List Section) (r : List ℕ) (p : ℕ) {u : ⊤} {seen repeated : Bool} → 4 ≤ length r
    → section_kind (id_of r) ≡ some k → kind_before k before ≡ seen → rule_before (part_in k r) before ≡ repeated
    → Ok u ≡ first_refusal p (section_checks x k seen repeated r) → same_kind rule k ≡ false → same_kind information k ≡ false
    → section full x before p r ≡ found (record { head = part_in k r; subs = [] })
plain_found full x k before r p {seen} {repeated} h e a b f rules informs =
    let c = all_hold p (section_checks x k seen repeated r) f in
    let w : eqb (made_length k r) (stated r) ≡ true =
    sym (ap₂ (λ (u v : Bool). (u || v) || eqb (made_length k r) (stated r)) rules informs) ∙ c.1.1.1.0 in
    section_goes full x k before r p h e a b f ∙ plain_rest full x k p r (eqb-true _ _ w) rules informs
