-- The loop over the subsections of a rule: what is read from here is what is read from the first one on.
use mathlib.Core.Bool.{Bool, true, false}
use mathlib.Core.Path.{◌≡◌, refl, sym, ap, ◌∙◌}
use Prim.Native.Nat.{ℕ, ◌+◌, ◌-◌, ◌≤◌}
use native.Mathlib.Omega.{arith}
use lib.ListN.{drop}
use Rattle.std.specs.Prelude.{Ok, Err}
use Rattle.format.specs.Parts.{rule, export_parameters, token_parameters}
use Rattle.format.specs.Bytes.{number, bytes_at}
use Rattle.format.specs.Rules.{mask_covers}
use Rattle.format.specs.Reading.{subsection}
use Rattle.format.specs.declared.Refusal.{Refusal}
use Rattle.format.proofs.Answers.{passed_up}
use Rattle.read_sections.specs.Refusals.{whether, section_rows}
use Rattle.read_sections.proofs.Laws.{all_hold}
use Rattle.read_sections.proofs.Subs.{at_start, refused_told, refused_same, refused_then, loop_stops, loop_room}
use Rattle.read_sections.proofs.Heads.{section_rest_is}
use Rattle.read_rules.proofs.Ends.{ends_masked, ends_missing, ends_there}
use Rattle.read_rules.proofs.Turns.{rule_start, tag_six, turn_on}
use Rattle.read_rules.proofs.Places.{once_has}
use Rattle.read_rules.proofs.subsections.rule_subs.Goals as goal
use Rattle.read_rules.proofs.subsections.rule_subs.Goals.{In_ok-rule_sub, In_ok-check_mask}

-- The subsection at q is found.
told : (c : In_ok-rule_sub) (x : Bool) → Ok tt ≡ whether (subsection x rule c.loop-at.invariant.done (c.args.section.place + c.loop-at.at) (c.two-end.result - c.loop-at.at) (drop c.loop-at.at c.args.section.bytes.now))
told c x = c.in_ok-rule_sub.ensures x c.loop-at.invariant.done (λ k o. once_has (c.loop-at.invariant.once k o))

room : (c : In_ok-rule_sub) → let l = number (bytes_at c.args.section.bytes.now (c.loop-at.at + 2) 2) in (4 ≤ l) × (l ≤ c.two-end.result - c.loop-at.at)
room c = loop_room c.args.section.bytes.now c.args.section.place false rule c.loop-at.invariant.done c.loop-at.at c.two-end.result c.loop-at-test.true (told c false)

-- The mask will do.
masked : (c : In_ok-check_mask) → mask_covers c.loop-at.invariant.done ≡ true
masked c =
    let w = c.loop-at.invariant in
    (all_hold _ _ (c.in_ok-check_mask.ensures w.done (w.once export_parameters refl).parts (w.once token_parameters refl).parts)).0

pub loop-at-init : goal.loop-at-init
loop-at-init c = rule_start _ _ _ (omega (arith, c.requires.0, c.two-end.ensures.0))

pub returns-in_err-rule_sub : goal.returns-in_err-rule_sub
returns-in_err-rule_sub c x =
    let w = c.loop-at.invariant in
    let a = c.args in
    let told = c.in_err-rule_sub.ensures x w.done (λ k o. once_has (w.once k o)) in
    passed_up c.from_residual.ensures
    ∙ refused_told section_rows
    (refused_same (section_rest_is a.full x rule a.section.bytes.now a.section.place c.two-end.result c.two-end.ensures.0)
    (refused_then _ (refused_same (sym (w.same x)) (loop_stops a.section.bytes.now a.section.place x rule w.done c.loop-at.at c.two-end.result c.loop-at-test.true told))))

pub two-tag-requires : goal.two-tag-requires
two-tag-requires c = let r = room (goal.at.two-tag-requires c).In_ok-rule_sub in omega arith

pub bounds-places-tag : goal.bounds-places-tag
bounds-places-tag c =
    let t = told (goal.at.bounds-places-tag c).In_ok-rule_sub in
    let l : ◌≡◌ {A = ℕ} (number (bytes_at c.args.section.bytes.now (c.loop-at.at + 2) 2)) _ = refl in
    tag_six c.loop-at.invariant c.loop-at-test.true (omega (arith, c.requires.1, c.two-end.ensures.0)) t l c.two-tag.ensures.0

pub two-at-requires : goal.two-at-requires
two-at-requires c = let r = room (goal.at.two-at-requires c).In_ok-rule_sub in omega arith

pub loop-at-smaller : goal.loop-at-smaller
loop-at-smaller c = let r = room (goal.at.loop-at-smaller c).In_ok-rule_sub in omega (arith, c.two-at.ensures.0)

pub loop-at-preserved : goal.loop-at-preserved
loop-at-preserved c =
    let t = told (goal.at.loop-at-preserved c).In_ok-rule_sub in
    turn_on c.loop-at.invariant c.loop-at-test.true (omega (arith, c.requires.1, c.two-end.ensures.0)) t c.two-at.ensures.0 c.two-tag.ensures.0

pub check_mask-requires : goal.check_mask-requires
check_mask-requires c = let w = c.loop-at.invariant in ((w.once export_parameters refl).within, (w.once token_parameters refl).within)

pub returns-in_err-check_mask : goal.returns-in_err-check_mask
returns-in_err-check_mask c x =
    let w = c.loop-at.invariant in
    let told = c.in_err-check_mask.ensures w.done (w.once export_parameters refl).parts (w.once token_parameters refl).parts in
    passed_up c.from_residual-in_err-check_mask.ensures
    ∙ ends_masked c.args.full x w c.loop-at-test.false c.two-end.ensures.0 told

pub returns-then-not-has_required : goal.returns-then-not-has_required
returns-then-not-has_required c x =
    let w = c.loop-at.invariant in
    ap (λ (r : Refusal). Err r) (at_start c.refused.ensures)
    ∙ ends_missing c.args.full x w c.loop-at-test.false c.two-end.ensures.0 (masked (goal.at.returns-then-not-has_required c).In_ok-check_mask)
    (sym (c.has_required.ensures w.done (once_has (w.once export_parameters refl) ∙ sym c.is_some.ensures)) ∙ c.if-not-has_required.true)

pub returns : goal.returns
returns c x =
    let w = c.loop-at.invariant in
    ends_there c.args.full x w c.loop-at-test.false c.two-end.ensures.0 (masked (goal.at.returns c).In_ok-check_mask)
    (sym (c.has_required.ensures w.done (once_has (w.once export_parameters refl) ∙ sym c.is_some.ensures)) ∙ c.if-not-has_required.false)
