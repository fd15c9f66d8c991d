-- `place_line`: a line that has no room is not placed.
use Rattle.std.specs.Prelude.{Err}
use mathlib.Core.List.{List, ◌++◌}
use mathlib.Core.Path.{sym, ap, ◌∙◌}
use Prim.Native.Nat.{ℕ}
use lib.ListN.{length, drop}
use Rattle.listing.specs.Buffers.{line_answer, line_in}
use Rattle.listing.proofs.Buffers.{room, no_room}
use Rattle.listing.proofs.place_line.Goals as goal

pub returns-then-out-line : goal.returns-then-out-line
returns-then-out-line c =
    let out = c.args.out.now in
    let e = c.as_slice-line.ensures.bytes in
    let r = no_room c.as_slice-line.result.now out c.if-out-line.true in
    record {
      answer = ap Err c.at.ensures ∙ sym r.0 ∙ ap (λ (l : List ℕ). line_answer l out) e;
      buffer = sym r.1 ∙ ap (λ (l : List ℕ). line_in l out) e;
    }

pub returns : goal.returns
returns c =
    let out = c.args.out.now in
    let line = c.as_slice-line.result.now in
    let e = c.as_slice-line.ensures.bytes in
    let r = room line out c.if-out-line.false in
    record {
      answer = sym r.0 ∙ ap (λ (l : List ℕ). line_answer l out) e;
      buffer = ap (λ (l : List ℕ). l ++ drop (length line) out) c.copy_from_slice.ensures.after ∙ sym r.1 ∙ ap (λ (l : List ℕ). line_in l out) e;
    }
