-- Internal: a set of numbers that are not 0 in a list of `id_places` places. A number stands at its hash or after it, with no empty
-- place between; a place that holds 0 is empty.
use Rattle.std.specs.Prelude.{◌≡◌, List, [], ◌∷◌, Bool, false, ◌||◌, ℕ, ◌+◌, ◌-◌, ◌*◌, ◌/◌, ◌%◌, ◌≤◌, ◌<◌, eqb, length, get_or}

-- the places of a set
abbrev pub id_places : ℕ
id_places = 704

-- the number is an element of the list
unfoldable pub among : ℕ → List ℕ → Bool
among k [] = false
among k (x ∷ l) = eqb x k || among k l

-- the first place that may hold the number
unfoldable pub hash_of : ℕ → ℕ
hash_of k = (k / 4294967296 * 1640531527 + k % 4294967296 * 2135587861) / 8388608 % 512

-- no number stands at place m or after it
abbrev pub Below : ℕ → List ℕ → Type 0
Below m l = (i : ℕ) → (get_or l i 0 ≡ 0 → ⊥) → i < m

-- every number stands at its hash or after it, and from its hash to its place no place is empty
pub record Kept (l : List ℕ) : Type 0 where
  pub sized : length l ≡ id_places
  pub placed : (i : ℕ) → (get_or l i 0 ≡ 0 → ⊥) → hash_of (get_or l i 0) ≤ i
  pub probed : (i j : ℕ) → (get_or l i 0 ≡ 0 → ⊥) → hash_of (get_or l i 0) ≤ j → j < i → get_or l j 0 ≡ 0 → ⊥

-- there is room for one number more
pub record Room (l : List ℕ) : Type 0 where
  pub kept : Kept l
  pub below : Below (id_places - 1) l

-- the set with k put in; r says whether k was there
pub record Put (old : List ℕ) (k : ℕ) (r : Bool) (new : List ℕ) : Type 0 where
  pub told : r ≡ among k old
  pub kept : Kept new
  pub below : (m : ℕ) → 512 ≤ m → Below m old → Below (m + 1) new
  pub holds : (x : ℕ) → 0 < x → among x new ≡ (eqb k x || among x old)
