-- The end of a rule: what its subsections owe each other, and what is required. Assumes nothing.
use Rattle.std.specs.Prelude.{Some, None, unwrap_or, Err}
use mathlib.Core.Path.{◌≡◌, refl, sym, ap, ap₂, ◌∙◌}
use mathlib.Core.Bool.{Bool, true, false, not, ◌&&◌, ◌||◌, and-true, or-true, or-false}
use mathlib.Core.List.{List, [], ◌∷◌}
use Prim.Native.Nat.{ℕ, ◌+◌, ◌-◌, ◌≤◌}
use native.Mathlib.Omega.{arith}
use lib.Dec.{eqb, leb}
use lib.ListN.{length, get_or, drop}
use Rattle.format.specs.Bytes.{every, number, bytes_at}
use Rattle.format.specs.Parts.{rule, export_parameters, token_parameters, Part}
use Rattle.format.specs.Rules.{has, of_kind, mask_covers, has_required}
use Rattle.format.specs.Reading.{found, fault, need, Test, test, tested, as_answer, stated, place_of, mask_offset, after_subsections, section_rest}
use Rattle.format.specs.Answers.{Accepted, Refused}
use Rattle.format.proofs.Tests.{then_found}
use Rattle.format.proofs.Turns.{subsections_from, subs_none}
use Rattle.read_sections.specs.Refusals.{whether, first_refusal, section_rows}
use Rattle.format.specs.declared.Refusal.{Refusal}
use Rattle.read_sections.proofs.Laws.{either, test_passes}
use Rattle.read_sections.proofs.Subs.{stops, refused_told, refused_same}
use Rattle.read_sections.proofs.Heads.{section_rest_is}
use Rattle.format.proofs.Reaching.{mask_none}
use Rattle.read_rules.specs.Loops.{Place, rule_of, standing, RuleRead}

-- ---- 0005 against 0003

-- Where each part passes a test, all do.
every_part : (f : Part → Bool) → ((p : Part) → f p ≡ true) → (us : List Part) → every f us ≡ true
every_part f h [] = refl
every_part f h (u ∷ us) = ap₂ (λ (a b : Bool). a && b) (h u) (every_part f h us)

-- Where no 0003 is, every mask will do.
pub mask_free : (us : List Part) → of_kind export_parameters us ≡ [] → mask_covers us ≡ true
mask_free us e = rw e (every_part _ (λ p. or-true (eqb (length (get_or p.fields 0 [])) 0)) (of_kind token_parameters us))

-- With one of each, the mask is none or as long as the minimum.
pub mask_both : (us : List Part) (u v : Part) {k m : ℕ} → of_kind export_parameters us ≡ u ∷ [] → of_kind token_parameters us ≡ v ∷ []
    → number (get_or u.fields 0 []) ≡ k → length (get_or v.fields 0 []) ≡ m → mask_covers us ≡ (eqb m 0 || leb k m)
mask_both us u v {k} {m} e f a b = rw (e, f, a, b, and-true (leb k m), and-true (eqb m 0 || leb k m))

-- A 0005 that is refused stands.
mask_stands : (s : List ℕ) (us : List Part) (place : Place) (p q : ℕ) → of_kind token_parameters us ≡ standing s token_parameters place → mask_covers us ≡ false
    → unwrap_or place p ≡ unwrap_or place q
mask_stands s us None p q e f = absurd (cc (mask_none us e, f))
mask_stands s us (Some i) p q e f = refl

-- ---- what is required

-- An export rule has a 0003.
rule_required : (r : List ℕ) (us : List Part) → has_required (rule_of r us) ≡ (not (eqb (number (bytes_at r 12 4)) 1) || has export_parameters us)
rule_required r us = and-true (not (eqb (number (bytes_at r 12 4)) 1) || has export_parameters us)

-- Without one, the rule must be no export rule.
pub required_told : (r : List ℕ) (us : List Part) (full : Bool) {v : ℕ} → full ≡ true → has export_parameters us ≡ false → v ≡ number (bytes_at r 12 4)
    → not (eqb v 1) ≡ (not full || has_required (rule_of r us))
required_told r us full {v = v} f e l = rw (f, rule_required r us, sym l, e, or-false (not (eqb v 1)))

-- ---- the whole section

module _ {r : List ℕ} {p e q n : ℕ} {places : List Place} (full x : Bool) (w : RuleRead r p e q n places) (h : e ≤ q) (l : e ≡ stated r) where
  -- What the loop has read when it ends is all of the section.
  rule_end : section_rest full x rule p r
      ≡ need (mask_covers w.done) (fault 18 (place_of token_parameters (p + 20) w.done) (place_of token_parameters (p + 20) w.done + mask_offset))
      (need (not full || has_required (rule_of r w.done)) (fault 20 p p) (found (rule_of r w.done)))
  unfolding after_subsections
  rule_end =
      let zero : e - q ≡ 0 = omega arith in
      section_rest_is full x rule r p e l
      ∙ then_found _
      (sym (w.same x) ∙ ap (λ (a : ℕ). subsections_from x rule w.done (p + q) a (drop q r)) zero ∙ subs_none x rule w.done (p + q) (drop q r))

  -- The rule is refused with 18 at the m of its 0005 where the mask is too short.
  pub ends_masked : {v : Refusal} → Err v ≡ first_refusal (p + unwrap_or (get_or places 0x0005 None) 0) (test mask_offset 18 (mask_covers w.done) ∷ [])
      → Err v ≡ as_answer section_rows (section_rest full x rule p r)
  unfolding first_refusal tested whether
  ends_masked f =
      let o = w.once token_parameters refl in
      let place : Place = get_or places 0x0005 None in
      let c : Test = test mask_offset 18 (mask_covers w.done) in
      either c.holds
      (λ b. absurd (cc (f ∙ test_passes (p + unwrap_or place 0) c [] b)))
      (λ b.
      let stands = ap (λ (i : ℕ). p + i) (mask_stands r w.done place 0 q o.parts b) ∙ sym o.stands in
      refused_told section_rows (refused_same rule_end (stops _ (c ∷ []) _ (f ∙ ap (λ (i : ℕ). first_refusal i (c ∷ [])) stands))))

  -- It is refused with 20 where the 0003 is missing that it requires.
  pub ends_missing : mask_covers w.done ≡ true → (not full || has_required (rule_of r w.done)) ≡ false
      → Refused 20 p ≡ as_answer section_rows (section_rest full x rule p r)
  unfolding as_answer need
  ends_missing a b = sym (ap (as_answer section_rows) rule_end ∙ rw (a, b))

  -- It is accepted with its rows.
  pub ends_there : mask_covers w.done ≡ true → (not full || has_required (rule_of r w.done)) ≡ true
      → Accepted n ≡ as_answer section_rows (section_rest full x rule p r)
  unfolding as_answer need
  ends_there a b = ap Accepted w.rows ∙ sym (ap (as_answer section_rows) rule_end ∙ rw (a, b))
