-- The number in the bytes of the view.
use borrow.Author.Rules.{rules}
use Rattle.rebuild_parts.proofs.Laws.{as_number}
use Rattle.read_fields.proofs.Sizes.{bytes_of}
use Rattle.rebuild_parts.proofs.fields.RowFields.four.Goals as goal

pub returns : goal.returns
returns c = as_number 4 _ (bytes_of _ (λ k. search rules)) c.bytes-bytes.ensures c.requires c.four.ensures
