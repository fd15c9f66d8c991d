-- The loop over the parts, each as long as it states.
use native.Mathlib.Omega.{arith}
use Rattle.read_sections.proofs.Laws.{number_at}
use Rattle.write_last_part.proofs.Stepping.{twenty_first, stepped_none, stepped_more, stepped_twenties, stepped_broken}
use Rattle.write_last_part.proofs.last_part.Goals.{then-n-eq-RULE_FIELDS, else-n-eq-RULE_FIELDS}
use Rattle.write_last_part.proofs.last_part.Goals as goal

pub loop-p-init : goal.loop-p-init
loop-p-init c = stepped_none c.args.s.now c.args.first c.requires.0

pub returns-then-s-p-lt4 : goal.returns-then-s-p-lt4
returns-then-s-p-lt4 c = stepped_broken c.loop-p.invariant c.loop-p-test.true (λ a b. omega arith)

-- The length that was read is the part's.
pub returns-then-short : goal.returns-then-short
returns-then-short c =
    let n = number_at c.args.s.now c.loop-p.p 2 2 c.two-n.ensures.0 in
    stepped_broken c.loop-p.invariant c.loop-p-test.true (λ a b. omega arith)

pub returns-then-s-p : goal.returns-then-s-p
returns-then-s-p c =
    let n = number_at c.args.s.now c.loop-p.p 2 2 c.two-n.ensures.0 in
    stepped_broken c.loop-p.invariant c.loop-p-test.true (λ a b. omega arith)

pub last_twenty-last-requires : goal.last_twenty-last-requires
last_twenty-last-requires c =
    (twenty_first (number_at c.args.s.now c.loop-p.p 2 2 c.two-n.ensures.0) c.if-n-eq-RULE_FIELDS.true c.loop-p-test.true (omega arith), c.requires.1)

pub loop-p-preserved : goal.loop-p-preserved
loop-p-preserved c =
    let n = number_at c.args.s.now c.loop-p.p 2 2 c.two-n.ensures.0 in
    elim c.if-n-eq-RULE_FIELDS.branch [
      | then-n-eq-RULE_FIELDS w ↦ stepped_twenties c.loop-p.invariant w.last_twenty-last.ensures w.if-n-eq-RULE_FIELDS.true w.last-is
      | else-n-eq-RULE_FIELDS w ↦ stepped_more c.loop-p.invariant c.loop-p-test.true n (omega arith) (omega arith) w.last-is
    ]
