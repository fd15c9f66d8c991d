-- The loop over the sections.
use mathlib.Core.List.{List}
use mathlib.Core.Path.{◌≡◌, refl, sym, ap, ap₂, ◌∙◌}
use mathlib.Core.Bool.{not, Bool, false, ◌||◌}
use Prim.Native.Nat.{ℕ, ◌+◌, ◌*◌, ◌≤◌}
use native.Mathlib.Omega.{arith}
use lib.ListN.{length, get_or, drop, get_or-replicate}
use Rattle.format.specs.Reading.{id_of, stated, as_answer, section}
use Rattle.format.specs.Rules.{Section}
use Rattle.read_sections.specs.Refusals.{section_rows}
use Rattle.read_sections.proofs.Subs.{at_here}
use Rattle.format.proofs.Answers.{passed_up}
use Rattle.read_sections.proofs.Laws.{number_at, byte_number}
use Rattle.read_token.proofs.Steps.{Found, read_none, read_whole, read_missing}
use Rattle.read_token.proofs.Sections.{turn_short, turn_refused, turn_found, turn_id, turn_more}
use Rattle.read_token.proofs.whole.sections_of.Goals as goal
use Rattle.read_token.proofs.whole.sections_of.Goals.{In_ok-rows, else-full-via-then-full+else-not-seen, else-full-via-else-full}

-- What is answered of the section that is taken at p is answered of the bytes from there on.
there : (full x : Bool) (before : List Section) {r t : List ℕ} {p q m n : ℕ} → (r ≡ t) × (p ≡ q) × (m ≡ n)
    → as_answer section_rows (section full x before p r) ≡ as_answer section_rows (section full x before q t)
there full x before e = ap₂ (λ (p : ℕ) (r : List ℕ). as_answer section_rows (section full x before p r)) e.1 e.0

-- The section at p is found.
here : (c : In_ok-rows) → Found c.args.s.now c.args.full c.args.external c.loop-p.invariant.read.before c.loop-p.p c.in_ok-rows.field-0
here c = turn_found c.loop-p.invariant c.loop-p-test.true (λ before m. c.in_ok-rows.ensures before m ∙ there c.args.full c.args.external before c.section.ensures)

-- so many bytes, and so many rows
room : (c : In_ok-rows) → let l = stated (drop c.loop-p.p c.args.s.now) in
    (4 ≤ l) × (c.loop-p.p + l ≤ length c.args.s.now) × (c.loop-p.rows + c.in_ok-rows.field-0 ≤ 2 * (c.loop-p.p + l))
room c = let f = here c in (f.four, f.inside, omega (arith, c.loop-p.invariant.read.few, f.few))

pub loop-p-init : goal.loop-p-init
loop-p-init c = record { read = read_none _ _ _ _ c.requires.0 (λ i l. get_or-replicate 0x16 i false false l); marks = refl }

pub returns-then-s-p : goal.returns-then-s-p
returns-then-s-p c = turn_short c.loop-p.invariant c.loop-p-test.true c.at.ensures c.if-s-p.true

pub rules-requires : goal.rules-requires
rules-requires c =
    (c.if-s-p.false, c.requires.1, sym (byte_number c.args.s.now c.loop-p.p c.loop-p-test.true) ∙ c.if-id-eq18.true, (_, (_, c.loop-p.invariant.read)))

pub returns-in_err-run : goal.returns-in_err-run
returns-in_err-run c = passed_up c.from_residual.ensures ∙ c.in_err-run.ensures _ _ c.loop-p.invariant.read

pub loop-p-smaller-then-id-eq18 : goal.loop-p-smaller-then-id-eq18
loop-p-smaller-then-id-eq18 c = omega (arith, (c.in_ok-run.ensures _ _ c.loop-p.invariant.read).1, c.loop-p-test.true)

pub loop-p-preserved-then-id-eq18 : goal.loop-p-preserved-then-id-eq18
loop-p-preserved-then-id-eq18 c = record { read = (c.in_ok-run.ensures _ _ c.loop-p.invariant.read).0; marks = c.loop-p.invariant.marks }

pub other_at-requires : goal.other_at-requires
other_at-requires c =
    λ e.
    c.if-id-eq18.false
    (byte_number c.args.s.now c.loop-p.p c.loop-p-test.true ∙ sym (at_here c.args.s.now c.loop-p.p 1) ∙ sym (ap id_of c.section.ensures.0) ∙ e)

pub returns-in_err-rows : goal.returns-in_err-rows
returns-in_err-rows c = passed_up c.from_residual-in_err-rows.ensures ∙ turn_refused c.loop-p.invariant c.loop-p-test.true (λ before m. c.in_err-rows.ensures before m ∙ there c.args.full c.args.external before c.section.ensures)

pub overflow_add-rows : goal.overflow_add-rows
overflow_add-rows c = let r = room (goal.at.overflow_add-rows c).In_ok-rows in omega (arith, r, c.requires.1)

pub bounds-seen-from : goal.bounds-seen-from
bounds-seen-from c =
    omega (arith, turn_id c.loop-p.invariant c.loop-p-test.true (here (goal.at.bounds-seen-from c).In_ok-rows), c.from.ensures)

pub loop-p-smaller : goal.loop-p-smaller
loop-p-smaller c = let r = room (goal.at.loop-p-smaller c).In_ok-rows in omega (arith, r, number_at _ _ 2 2 c.two.ensures.0, c.loop-p-test.true)

pub loop-p-preserved : goal.loop-p-preserved
loop-p-preserved c =
    let f = here (goal.at.loop-p-preserved c).In_ok-rows in
    turn_more c.loop-p.invariant c.loop-p-test.true f (number_at _ _ 2 2 c.two.ensures.0) c.from.ensures

pub returns-then-not-seen : goal.returns-then-not-seen
returns-then-not-seen c = read_missing _ _ _ _ c.loop-p.invariant.read c.at-then-not-seen.ensures c.loop-p-test.false (ap₂ (λ (a b : Bool). not a || b) c.if-full.true c.if-not-seen.true)

pub returns : goal.returns
returns c =
    read_whole _ _ _ _ c.loop-p.invariant.read c.loop-p-test.false (elim c.else-full.branch [
      | else-full-via-then-full+else-not-seen w ↦ ap₂ (λ (a b : Bool). not a || b) w.if-full.true w.if-not-seen.false
      | else-full-via-else-full w ↦ ap (λ (a : Bool). not a || get_or c.loop-p.seen 0x14 false) w.if-full.false
    ])
