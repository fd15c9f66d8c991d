-- `digit_text` makes the test of the definition. Assumes nothing.
use mathlib.Core.Path.{sym}
use Prim.Native.Nat.{◌+◌}
use lib.Dec.{ltb}
use borrow.Author.Tests.{lt-ltb, le-ltb}
use Rattle.format.proofs.Grouping.{is_true, is_false}
use Rattle.list_words.proofs.digit_text.Goals as goal

pub returns-then-d-lt10 : goal.returns-then-d-lt10
returns-then-d-lt10 c =
    let d = c.args.d in
    sym (is_true (ltb d 10) (0x30 + d) (0x37 + d) (lt-ltb d 10 c.if-d-lt10.true))

pub returns-else-d-lt10 : goal.returns-else-d-lt10
returns-else-d-lt10 c =
    let d = c.args.d in
    sym (is_false (ltb d 10) (0x30 + d) (0x37 + d) (le-ltb d 10 c.if-d-lt10.false))
