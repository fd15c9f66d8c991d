-- The stated length, of a token or of a draft.
use native.Mathlib.Omega.{arith}
use Rattle.read_token.proofs.Headers.{length_above, length_full, length_below, length_draft}
use Rattle.read_token.proofs.header.length_allowed.Goals as goal

pub returns-then-above : goal.returns-then-above
returns-then-above c = length_above c.args.full _ c.two-n.ensures.0 (omega arith)

pub returns-then-full : goal.returns-then-full
returns-then-full c = length_full _ c.two-n.ensures.0 c.if-above.false c.if-full.true

pub returns-then-below : goal.returns-then-below
returns-then-below c = length_below _ c.two-n.ensures.0 (omega arith) c.if-full.false

pub returns : goal.returns
returns c = length_draft _ c.two-n.ensures.0 c.if-above.false c.if-below.false c.if-full.false
