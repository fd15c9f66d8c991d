-- The answer to a rule's subsection is that of its kind, by its tag.
use mathlib.Core.Logic.{⊎_elim}
use mathlib.Core.Path.{◌≡◌, refl, sym, ◌∙◌, ap}
use mathlib.Core.Bool.{Bool}
use mathlib.Core.List.{List}
use Prim.Native.Nat.{ℕ, ◌≤◌}
use native.Mathlib.Omega.{arith}
use lib.ListN.{get_or}
use Rattle.std.specs.Prelude.{⊤, Result, None, is_some}
use Rattle.format.specs.Bytes.{number, bytes_at}
use Rattle.format.specs.Parts.{Kind, rule, transport_variant, transport_rule, export_parameters, source_rule, token_parameters, tag, Part}
use Rattle.format.specs.Reading.{subsection_kind, subsection_checks, subsection}
use Rattle.format.specs.declared.Refusal.{Refusal}
use Rattle.read_sections.specs.Refusals.{whether, first_refusal}
use Rattle.read_sections.proofs.Subs.{at_start, sub_short, sub_unknown, sub_known, told_of}
use Rattle.read_rules.specs.Loops.{Place, OfRule, Marked}
use Rattle.read_rules.proofs.Turns.{tag_unknown}
use Rattle.read_rules.proofs.subsections.rule_sub.Goals as goal

-- Where the tag t tells a kind of a rule's subsections, its check answers.
known : (r : List ℕ) (p n : ℕ) (places : List Place) {t : ℕ} {seen : Bool} {a : Result ⊤ Refusal} (k : Kind) (x : Bool) → 4 ≤ n → t ≡ number (bytes_at r 0 2)
    → OfRule k → t ≡ tag k → seen ≡ is_some (get_or places (tag k) None) → a ≡ first_refusal p (subsection_checks x k seen n r)
    → (before : List Part) → Marked before places → a ≡ whether (subsection x rule before p n r)
known r p n places k x h t o e seen f before marks =
    sub_known x rule before p n r k _ h (ap (subsection_kind rule) (sym t ∙ e) ∙ o) (marks k o ∙ sym seen) f

-- what stands before with the tag t
abbrev Seen : List Place → ℕ → Bool
Seen places t = is_some (get_or places t None)

-- four bytes are there
four : {m l : ℕ} → l ≡ m → 4 ≤ m → 4 ≤ l
four e h = omega arith

pub returns-then-end-at-lt4 : goal.returns-then-end-at-lt4
returns-then-end-at-lt4 c x before marks = sub_short x rule before _ _ _ c.refused.ensures c.if-end-at-lt4.true

pub returns-in-1 : goal.returns-in-1
returns-in-1 c x before marks =
    told_of x rule before c.subsection-part.ensures
    (known _ _ _ _ transport_variant x (four c.subsection-part.ensures.2 c.if-end-at-lt4.false) c.two-tag.ensures.0 refl c.in-1.is c.is_some.ensures (c.variant_at.ensures x) before marks)

pub returns-in-2 : goal.returns-in-2
returns-in-2 c x before marks =
    let seen = c.is_some-in-2.ensures in
    let places = c.args.places.now in
    let h = four c.subsection-part.ensures.2 c.if-end-at-lt4.false in
    told_of x rule before c.subsection-part.ensures
    (⊎_elim
    (λ e. known _ _ _ _ transport_rule x h c.two-tag.ensures.0 refl e (seen ∙ ap (Seen places) e) (c.reference_at.ensures x) before marks)
    (λ e. known _ _ _ _ source_rule x h c.two-tag.ensures.0 refl e (seen ∙ ap (Seen places) e) (c.reference_at.ensures x) before marks)
    c.in-2.is)

pub returns-in-3 : goal.returns-in-3
returns-in-3 c x before marks =
    told_of x rule before c.subsection-part.ensures
    (known _ _ _ _ export_parameters x (four c.subsection-part.ensures.2 c.if-end-at-lt4.false) c.two-tag.ensures.0 refl c.in-3.is c.is_some-in-3.ensures (c.export_at.ensures x) before marks)

pub returns-in-5 : goal.returns-in-5
returns-in-5 c x before marks =
    told_of x rule before c.subsection-part.ensures
    (known _ _ _ _ token_parameters x (four c.subsection-part.ensures.2 c.if-end-at-lt4.false) c.two-tag.ensures.0 refl c.in-5.is c.is_some-in-5.ensures (c.token_at.ensures x) before marks)

pub returns-in_default : goal.returns-in_default
returns-in_default c x before marks =
    let t = c.two-tag.result in
    let none = tag_unknown t (λ e. omega arith) (λ e. grind arith) (λ e. omega arith) (λ e. grind arith) (λ e. omega arith) in
    told_of x rule before c.subsection-part.ensures
    (sub_unknown x rule before _ _ _ (at_start c.refused-in_default.ensures) (four c.subsection-part.ensures.2 c.if-end-at-lt4.false)
    (ap (subsection_kind rule) (sym c.two-tag.ensures.0) ∙ none))
