-- The number in the bytes of the view.
use borrow.Author.Rules.{rules}
use Rattle.rebuild_parts.proofs.Laws.{as_number}
use Rattle.read_fields.proofs.Sizes.{bytes_of}
use Rattle.rebuild_parts.proofs.fields.RowFields.two.Goals as goal

pub returns : goal.returns
returns c = as_number 2 _ (bytes_of _ (λ k. search rules)) c.bytes-bytes.ensures c.requires c.two.ensures.0
