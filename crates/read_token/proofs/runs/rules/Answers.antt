-- A run of rules.
use mathlib.Core.Path.{◌≡◌, sym, ap, ◌∙◌, subst}
use mathlib.Core.List.{List, []}
use Prim.Native.Nat.{ℕ, ◌+◌, ◌*◌, ◌≤◌}
use native.Mathlib.Omega.{arith}
use lib.ListN.{length, drop}
use Rattle.format.specs.Reading.{id_of, stated}
use Rattle.format.proofs.Answers.{passed_up}
use Rattle.read_sections.proofs.Laws.{number_at, byte_number}
use Rattle.format.specs.Rules.{Section}
use Rattle.read_sections.proofs.Subs.{at_here}
use Rattle.read_rules.specs.Ids.{Held}
use Rattle.read_rules.proofs.Ids.{held_none, held_room}
use Rattle.read_token.specs.Progress.{Running, Ran}
use Rattle.read_token.proofs.Rules.{answered_there, run_short, run_refused, run_found, run_more, later}
use Rattle.read_token.proofs.runs.rules.Goals as goal
use Rattle.read_token.proofs.runs.rules.Goals.{In-loop-p, In_ok-n}

-- The set holds the Rule IDs before the rule that is taken.
held_there : {before : List Section} {r t : List ℕ} {p q m n : ℕ} {ids : List ℕ} → (r ≡ t) × (p ≡ q) × (m ≡ n) → Held before q ids → Held before p ids
held_there {before} {ids = ids} e h = subst (λ (p : ℕ). Held before p ids) (sym e.1) h

-- The sections up to p are read, in some reading.
running : (c : In-loop-p) → Running c.args.s.now c.args.full c.requires.3.0 c.requires.3.1.0 c.loop-p.p c.loop-p.n c.loop-p.ids
running c = c.loop-p.invariant.1 c.requires.3.0 c.requires.3.1.0 c.requires.3.1.1

-- The rule there is found: so many bytes, and so many rows.
room : (c : In_ok-n) → let l = stated (drop c.loop-p.p c.args.s.now) in
    (4 ≤ l) × (c.loop-p.p + l ≤ length c.args.s.now) × (c.loop-p.n + c.in_ok-n.field-0 ≤ 2 * (c.loop-p.p + l))
room c =
    let v = c.loop-p.invariant.1 c.requires.3.0 c.requires.3.1.0 c.requires.3.1.1 in
    let f = run_found v c.loop-p-test.true (answered_there c.section.ensures (c.in_ok-n.ensures c.requires.3.0 v.read.before (held_there c.section.ensures v.held))) in
    (f.four, f.inside, omega (arith, v.read.few, f.few))

pub note_before-requires : goal.note_before-requires
note_before-requires c =
    let w = c.requires.3.1.1 in
    (c.requires.1, w.ends, subst (Held [] 8) (sym c.new-ids.ensures) (held_none 8 (omega arith)), (w.before, w.ahead))

pub loop-p-init : goal.loop-p-init
loop-p-init c = (omega arith, λ x seen w. record { read = w; held = c.note_before.ensures w.before w.ahead })

pub returns-then-s-p : goal.returns-then-s-p
returns-then-s-p c x seen w = run_short (c.loop-p.invariant.1 x seen w) c.loop-p-test.true c.at.ensures c.if-s-p.true

pub returns-then-s-p-ne18 : goal.returns-then-s-p-ne18
returns-then-s-p-ne18 c x seen w =
    let h = c.requires.0 in
    ((c.loop-p.invariant.1 x seen w).read, later c.args.s.now c.args.first c.loop-p.p c.loop-p.invariant.0 (omega arith) c.requires.2 c.if-s-p-ne18.true)

pub rule_at-requires : goal.rule_at-requires
rule_at-requires c =
    let v = running (goal.at.rule_at-requires c).In-loop-p in (
      ap id_of c.section.ensures.0 ∙ at_here c.args.s.now c.loop-p.p 1 ∙ sym (byte_number c.args.s.now c.loop-p.p c.loop-p-test.true) ∙ c.if-s-p-ne18.false,
      held_room v.held (omega (arith, v.read.ends, c.requires.1)),
    )

pub returns-in_err-n : goal.returns-in_err-n
returns-in_err-n c x seen w =
    let v = c.loop-p.invariant.1 x seen w in
    subst (Ran c.args.s.now c.args.full x seen c.args.first) (sym (passed_up c.from_residual.ensures))
    (run_refused v c.loop-p-test.true (answered_there c.section.ensures (c.in_err-n.ensures x v.read.before (held_there c.section.ensures v.held))))

pub overflow_add-n : goal.overflow_add-n
overflow_add-n c = let r = room (goal.at.overflow_add-n c).In_ok-n in omega (arith, r, c.requires.1)

pub loop-p-smaller : goal.loop-p-smaller
loop-p-smaller c = let r = room (goal.at.loop-p-smaller c).In_ok-n in omega (arith, r, number_at _ _ 2 2 c.two.ensures.0, c.loop-p-test.true)

pub loop-p-preserved : goal.loop-p-preserved
loop-p-preserved c = (
  omega (arith, c.loop-p.invariant.0),
  λ x seen w.
      let v = c.loop-p.invariant.1 x seen w in
      run_more v c.loop-p-test.true (answered_there c.section.ensures (c.in_ok-n.ensures x v.read.before (held_there c.section.ensures v.held))) c.if-s-p-ne18.false (number_at _ _ 2 2 c.two.ensures.0),
)

pub returns : goal.returns
returns c x seen w =
    let h = c.requires.0 in
    ((c.loop-p.invariant.1 x seen w).read, omega (arith, c.loop-p-test.false))
