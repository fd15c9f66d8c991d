-- `put_tag`: a section has no tag, and any other tag four digits.
use mathlib.Core.List.{List, [], ◌∷◌, ◌++◌}
use mathlib.Core.Path.{sym, ap, ◌∙◌}
use Prim.Native.Nat.{ℕ}
use Rattle.list_words.proofs.Words.{tag_is}
use Rattle.list_words.proofs.put_tag.Goals as goal

pub returns-else-tag-eq0-clause-bytes : goal.returns-else-tag-eq0-clause-bytes
returns-else-tag-eq0-clause-bytes c =
    c.put_number.ensures.bytes ∙ ap (λ (l : List ℕ). c.args.line.now ++ (l ++ (32 ∷ []))) (sym (tag_is c.args.tag c.if-tag-eq0.false))
