-- The header's tests, in order.
use mathlib.Core.Path.{◌≡◌, sym, ap, ◌∙◌}
use mathlib.Core.Bool.{Bool, true}
use mathlib.Core.List.{List}
use Prim.Native.Nat.{ℕ, ◌≤◌}
use native.Mathlib.Omega.{arith}
use lib.ListN.{length, get_or, drop}
use borrow.Author.Tests.{le-leb, lt-leb}
use Rattle.format.specs.Parts.{known_id}
use Rattle.format.specs.Reading.{id_of, header_checks}
use Rattle.read_sections.proofs.Laws.{Left, all_left, passed, failed, none_left, zero_yes, zero_not, byte_number}
use Rattle.read_token.proofs.Headers.{id_first}
use Rattle.read_token.proofs.header.header.Goals as goal
use Rattle.read_token.proofs.header.header.Goals.{Else-s-ne0, Else-not-length_allowed}

-- the first k tests have passed
abbrev Past : ℕ → Bool → List ℕ → Type 0
Past k full s = let cs = header_checks full s in Left 0 cs (drop k cs)

-- whether its id is known, by the first byte
known : {b : Bool} (s : List ℕ) → 8 ≤ length s → b ≡ known_id (get_or s 0 0) → known_id (id_of s) ≡ b
known s h e = ap known_id (id_first s (omega arith)) ∙ sym e

past_1 : (full : Bool) (s : List ℕ) → 8 ≤ length s → Past 1 full s
past_1 full s h = passed (all_left _) (le-leb 8 (length s) h)

past_2 : {b : Bool} (full : Bool) (s : List ℕ) → 8 ≤ length s → b ≡ known_id (get_or s 0 0) → b ≡ true → Past 2 full s
past_2 full s h e f = passed (past_1 full s h) (known s h e ∙ f)

past_3 : (c : Else-s-ne0) → Past 3 c.args.full c.args.s.now
past_3 c =
    passed (past_2 _ _ c.if-s-lt8.false c.known_id.ensures c.if-not-known_id.false)
    (zero_yes c.args.s.now 1 1 (byte_number c.args.s.now 1 (omega (arith, c.if-s-lt8.false))) c.if-s-ne0.false)

past_4 : (c : Else-not-length_allowed) → Past 3 c.args.full c.args.s.now → Past 4 c.args.full c.args.s.now
past_4 c l = passed l (sym c.length_allowed.ensures ∙ c.if-not-length_allowed.false)

pub returns-then-s-lt8 : goal.returns-then-s-lt8
returns-then-s-lt8 c = failed (all_left _) c.at.ensures (lt-leb 8 (length c.args.s.now) c.if-s-lt8.true)

pub returns-then-not-known_id : goal.returns-then-not-known_id
returns-then-not-known_id c =
    failed (past_1 _ _ c.if-s-lt8.false) c.at-then-not-known_id.ensures (known _ c.if-s-lt8.false c.known_id.ensures ∙ c.if-not-known_id.true)

pub returns-then-s-ne0 : goal.returns-then-s-ne0
returns-then-s-ne0 c =
    failed (past_2 _ _ c.if-s-lt8.false c.known_id.ensures c.if-not-known_id.false) c.at-then-s-ne0.ensures
    (zero_not c.args.s.now 1 1 (byte_number c.args.s.now 1 (omega (arith, c.if-s-lt8.false))) c.if-s-ne0.true)

pub returns-then-not-length_allowed : goal.returns-then-not-length_allowed
returns-then-not-length_allowed c =
    failed (past_3 (goal.at.returns-then-not-length_allowed c).Else-s-ne0) c.at-then-not-length_allowed.ensures
    (sym c.length_allowed.ensures ∙ c.if-not-length_allowed.true)

pub returns-then-four-ne0 : goal.returns-then-four-ne0
returns-then-four-ne0 c =
    let t = goal.at.returns-then-four-ne0 c in
    failed (past_4 t.Else-not-length_allowed (past_3 t.Else-s-ne0)) c.at-then-four-ne0.ensures (zero_not c.args.s.now 4 4 c.four.ensures c.if-four-ne0.true)

pub returns : goal.returns
returns c =
    let t = goal.at.returns c in
    none_left (passed (past_4 t.Else-not-length_allowed (past_3 t.Else-s-ne0)) (zero_yes c.args.s.now 4 4 c.four.ensures c.if-four-ne0.false))
