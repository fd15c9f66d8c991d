-- The Rule ID of one section.
use native.Mathlib.Omega.{arith}
use Rattle.read_sections.proofs.Laws.{number_at}
use Rattle.read_rules.proofs.Ids.{held_room}
use Rattle.read_token.proofs.Notes.{RuleHere, rule_here, rule_noted, other_noted}
use Rattle.read_token.proofs.runs.note.Goals as goal
use Rattle.read_token.proofs.runs.note.Goals.{Then-s-q-eq18}

-- The section at q is a rule.
here : (c : Then-s-q-eq18) → RuleHere c.args.s.now c.args.q c.requires.section
here c = rule_here _ _ _ c.requires.stands (omega (arith, c.requires.stands.four, c.requires.inside)) c.if-s-q-eq18.true

pub eight-requires : goal.eight-requires
eight-requires c =
    let r = here (goal.at.eight-requires c).Then-s-q-eq18 in
    omega (arith, r.long, c.requires.inside)

pub put-seen-requires : goal.put-seen-requires
put-seen-requires c =
    let r = here (goal.at.put-seen-requires c).Then-s-q-eq18 in
    let e = number_at _ _ 4 8 c.eight.ensures in
    (omega (arith, r.some), held_room c.requires.held (omega (arith, c.requires.inside, c.requires.short)))

pub returns-then-s-q-eq18 : goal.returns-then-s-q-eq18
returns-then-s-q-eq18 c before k w held =
    rule_noted _ _ k w c.requires.inside (omega (arith, w.four, c.requires.inside)) c.if-s-q-eq18.true (λ j. (c.type_inv.s j).fits) held c.put-seen.ensures c.eight.ensures

pub returns-else-s-q-eq18 : goal.returns-else-s-q-eq18
returns-else-s-q-eq18 c before k w held = other_noted _ _ k w (omega (arith, w.four, c.requires.inside)) c.if-s-q-eq18.false held
