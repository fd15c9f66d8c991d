-- A token's id is its first byte, and 0 where it has none.
use Rattle.std.specs.Prelude.{slice_get}
use Rattle.std.proofs.Common.{◌≡◌, List, ℕ, [], ◌∷◌, arith, refl, ap, ◌∙◌, Option}
use Rattle.std.specs.Option.{unwrap_or}
use Rattle.format.specs.Bytes.{number, bytes_at}
use Rattle.format.specs.Reading.{id_of}
use Rattle.list_token.proofs.id_of.Goals as goal

first_byte : (s : List ℕ) → unwrap_or (slice_get s 0) 0 ≡ id_of s
unfolding number bytes_at
first_byte [] = refl
first_byte (x ∷ xs) = omega arith

pub returns : goal.returns
returns c =
    c.unwrap_or.ensures ∙ ap (λ (o : Option ℕ). unwrap_or o 0) (c.copied.ensures ∙ c.first.ensures.value) ∙ first_byte c.args.token.now
