-- Lists, bytes, and big-endian numbers over any width.
--
-- 01 is the description that the project was given; "Beside 01" in a file names what of it to hold beside the file.
--
-- How to read these files. What stands after `use`, and `pub`, `abbrev`, `unfoldable`, may be passed over.
-- f : A → B → C    a function of an A and a B; `f x y` is its value, by the clause that fits; `λ x. e` has no name
-- {A : Type 0} →   for any type A; a `Type 0` is a type of data or a statement
-- statements       x ≡ y, x < y, x ≤ y; P × Q both; Unit {0} always; (x : A) → B for every x
-- tests            eqb =, ltb <, leb ≤; &&, ||, not; `t ≡ true` states a test
-- data, record     `data` lists the forms of its values; a `record` has all its lines, and as a statement asks for all of
--                  them, for data (in `Legal`) that there are such; `record { f = a; .. }` is a value, `r.f` its field.
--                  `(a, b)` is a pair, of type A × B, `p.0` and `p.1` its parts
-- lists            [] empty; x ∷ xs; ++ joins; take n l, drop n l the first n, the rest; get_or l k d element k, from 0, or d;
--                  get_elem? l k `some` of it or `none`; replicate n x; map f l
-- numbers          suc n is n + 1; a difference stops at 0; / drops the remainder, which is %; ^ is power
-- elim e [ p ↦ a | .. ]   a choice by cases, `as ..` only gives its type; `let x = e in` gives e a name
use Rattle.std.specs.Prelude.{Bool, true, false, ◌&&◌, ◌||◌, List, [], ◌∷◌, ◌++◌, ℕ, zero, suc, ◌+◌, ◌*◌, ◌/◌, ◌%◌, ◌<◌, eqb, take, drop}

-- every element of the list has the property
abbrev pub All : {A : Type 0} → (A → Type 0) → List A → Type 0
All P [] = Unit {0}
All P (x ∷ xs) = P x × All P xs

-- every element passes the test
abbrev pub every : {A : Type 0} → (A → Bool) → List A → Bool
every f [] = true
every f (x ∷ xs) = f x && every f xs

-- some element passes the test
abbrev pub any : {A : Type 0} → (A → Bool) → List A → Bool
any f [] = false
any f (x ∷ xs) = f x || any f xs

-- how many elements pass the test
abbrev pub how_many : {A : Type 0} → (A → Bool) → List A → ℕ
how_many f [] = 0
how_many f (x ∷ xs) = elim (f x) as (λ b. ℕ) [ true ↦ 1 | false ↦ 0 ] + how_many f xs

-- every element is a byte
abbrev pub Bytes : List ℕ → Type 0
Bytes bs = All (λ (b : ℕ). b < 256) bs

-- the number n in w bytes, the highest first; of a larger n its lowest w bytes
abbrev pub big_endian : ℕ → ℕ → List ℕ
big_endian zero n = []
big_endian (suc w) n = big_endian w (n / 256) ++ (n % 256 ∷ [])

-- the number that bytes state, a being that of the bytes before them
abbrev pub number_from : ℕ → List ℕ → ℕ
number_from a [] = a
number_from a (b ∷ bs) = number_from (a * 256 + b) bs

-- the number that bytes state, the highest first
unfoldable pub number : List ℕ → ℕ
number bs = number_from 0 bs

-- the n bytes from place i on, or as many of them as there are
unfoldable pub bytes_at : List ℕ → ℕ → ℕ → List ℕ
bytes_at bs i n = take n (drop i bs)

-- every byte is 0
unfoldable pub all_zero : List ℕ → Bool
all_zero bs = every (λ (b : ℕ). eqb b 0) bs

-- the two lists are the same bytes
unfoldable pub same_bytes : List ℕ → List ℕ → Bool
same_bytes [] [] = true
same_bytes [] (c ∷ cs) = false
same_bytes (b ∷ bs) [] = false
same_bytes (b ∷ bs) (c ∷ cs) = eqb b c && same_bytes bs cs
