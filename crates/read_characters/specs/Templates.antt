-- Internal: how many characters a label template has.
use Rattle.std.specs.Prelude.{Bool, true, false, not, ◌&&◌, List, [], ◌∷◌, ℕ, suc, ◌+◌, eqb, drop}
use Rattle.format.specs.Forms.{leading, digit, star, space, in_label, plain_label, one_star}

-- 1 where a star stands in front of the bytes, else 0; with true, where the template's first character is a star, none is taken
abbrev pub star_after : Bool → List ℕ → ℕ
star_after true xs = 0
star_after false xs = one_star xs

-- how many characters the template has: the first, plain ones, and, where the first is no star, one star or none
abbrev pub body : List ℕ → ℕ
body [] = 0
body (b ∷ bs) = let n = leading plain_label bs in suc (n + star_after (star b) (drop n bs))

-- the number n where the first character may be first, else 0
abbrev pub given : Bool → ℕ → ℕ
given true n = n
given false n = 0

-- how many characters of a label template stand at the front
unfoldable pub template_length : List ℕ → ℕ
template_length [] = 0
template_length (b ∷ bs) = given (in_label b && not (digit b)) (body (b ∷ bs))

-- where a field that has n characters cannot go on: after the spaces behind them, 0 where it has none
abbrev pub place_after : ℕ → List ℕ → ℕ
place_after n xs = elim (eqb n 0) [ true ↦ 0 | false ↦ n + leading space (drop n xs) ]
