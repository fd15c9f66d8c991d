-- `put_kind`: the section id, then the tag.
use mathlib.Core.Path.{ap, ◌∙◌}
use mathlib.Core.List.{List, ◌++◌}
use Prim.Native.Nat.{ℕ}
use Rattle.write_bytes.proofs.Buffers.{put_then}
use Rattle.list_words.proofs.Words.{kind_is}
use Rattle.list_words.proofs.put_kind.Goals as goal

pub returns-clause-bytes : goal.returns-clause-bytes
returns-clause-bytes c =
    put_then c.args.line.now _ _ c.put_number.ensures.bytes c.put_tag.ensures.bytes
    ∙ ap (λ (l : List ℕ). c.args.line.now ++ l) (kind_is c.args.kind)
