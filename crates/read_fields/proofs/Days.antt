-- The date in four bytes, by its year, month and day. Assumes nothing.
use mathlib.Core.Path.{◌≡◌}
use mathlib.Core.Bool.{Bool, ◌&&◌}
use mathlib.Core.List.{List}
use Prim.Native.Nat.{ℕ, ◌+◌}
use native.Mathlib.Omega.{arith}
use lib.Dec.{leb}
use lib.ListN.{get_or}
use Rattle.format.specs.Bytes.{number, bytes_at}
use Rattle.format.specs.Forms.{between, days_in, date_exists}
use Rattle.read_fields.proofs.Lists.{bytes_take, bytes_get}

-- the year, the month and the day are those of a date
abbrev date_of : ℕ → ℕ → ℕ → Bool
date_of y m d = leb y 9999 && between 1 12 m && between 1 (days_in y m) d

-- the year is the number in the first two bytes, the month the third byte and the day the fourth
pub date_fields : (s : List ℕ) (i : ℕ)
    → date_exists (bytes_at s i 4) ≡ date_of (number (bytes_at s i 2)) (get_or s (i + 2) 0) (get_or s (i + 3) 0)
unfolding date_exists
date_fields s i = rw (bytes_take s i 4 2 (omega arith), bytes_get s i 4 2 (omega arith), bytes_get s i 4 3 (omega arith))
