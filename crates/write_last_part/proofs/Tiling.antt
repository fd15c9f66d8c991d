-- Things laid one after another, each stating its length, and what stepping by stated lengths finds of them. Assumes nothing.
use mathlib.Core.Path.{◌≡◌, refl, sym, ap, ◌∙◌, subst}
use mathlib.Core.List.{List, [], ◌∷◌, ◌++◌, append_assoc}
use Prim.Native.Nat.{ℕ, ◌+◌, ◌≤◌, ◌<◌}
use native.Mathlib.Nat.{add-zero}
use native.Mathlib.Omega.{arith}
use lib.ListN.{length, take, drop, drop_of_length-le, length-append, length-drop, take-append-drop, get_or}
use lib.Seq.{take_at, drop_at, length-take-le, drop-drop, get_or-drop, take_all}
use Rattle.format.proofs.Numbering.{stated_front}
use Rattle.format.specs.Bytes.{All, number, bytes_at}
use Rattle.format.specs.Reading.{stated, id_of}
use Rattle.format.proofs.Numbers.{number_one}
use Rattle.write_last_part.specs.Tiling.{TiledTo, here, next, Tiled, LastAt}

-- ---- what a part states

-- The length that the part at a place states, read in place.
pub stated_at : (d : List ℕ) (o : ℕ) → number (bytes_at d (o + 2) 2) ≡ stated (drop o d)
unfolding bytes_at
stated_at d o = ap (λ (y : List ℕ). number (take 2 y)) (sym (drop-drop 2 o d))

-- The id of the section at a place is the byte there.
pub id_at_is : (d : List ℕ) (o : ℕ) → o < length d → id_of (drop o d) ≡ get_or d o 0
id_at_is d o h =
    let l = length-drop o d in
    number_one (drop o d) 0 (omega arith) ∙ get_or-drop o d 0 0 ∙ ap (λ (j : ℕ). get_or d j 0) (add-zero o)

-- The bytes state their own length.
pub record States (b : List ℕ) : Type 0 where
  pub four : 4 ≤ length b
  pub says : stated b ≡ length b

-- ---- things laid one after another

abbrev pub laid : {A : Type 0} → (A → List ℕ) → List A → List ℕ
laid f [] = []
laid f (x ∷ xs) = f x ++ laid f xs

-- The things, cut where the bytes a end and z begins.
pub record Cut {A : Type 0} (f : A → List ℕ) (a z : List ℕ) (xs : List A) : Type 0 where
  pub front : List A
  pub back : List A
  pub whole : xs ≡ front ++ back
  pub fronts : a ≡ laid f front
  pub backs : z ≡ laid f back

-- Such bytes are tiled.
pub laid_tiled : {A : Type 0} (f : A → List ℕ) (xs : List A) (r : List ℕ) → All (λ x. States (f x)) xs → r ≡ laid f xs → Tiled r
laid_tiled f [] r h e = subst Tiled (sym e) here
laid_tiled f (x ∷ xs) r h e =
    let four = h.0.four in
    let s : stated r ≡ length (f x) = ap stated e ∙ stated_front (f x) (laid f xs) four ∙ h.0.says in
    let l : length r ≡ length (f x) + length (laid f xs) = ap length e ∙ length-append (f x) (laid f xs) in
    let rest : drop (stated r) r ≡ laid f xs =
    ap (λ (n : ℕ). drop n r) s ∙ ap (drop (length (f x))) e ∙ drop_at (f x) (laid f xs) (length (f x)) refl in
    next {r = r} (omega arith) (omega arith) (laid_tiled f xs (drop (stated r) r) h.1 rest)

-- ---- what stepping passes

unfoldable pub passed : {z r : List ℕ} → TiledTo z r → List ℕ
passed here = []
passed {z} {r} (next a b t) = take (stated r) r ++ passed t

pub passed_then : {z r : List ℕ} (t : TiledTo z r) → r ≡ passed t ++ z
unfolding passed
passed_then here = refl
passed_then {z} {r} (next a b t) =
    sym (take-append-drop (stated r) r)
    ∙ ap (λ (y : List ℕ). take (stated r) r ++ y) (passed_then t)
    ∙ sym (append_assoc (take (stated r) r) (passed t) z)

-- One step more at the end.
pub tiled_more : {z r : List ℕ} → TiledTo z r → 4 ≤ stated z → stated z ≤ length z → TiledTo (drop (stated z) z) r
tiled_more here a b = next a b here
tiled_more (next c d t) a b = next c d (tiled_more t a b)

-- Steps after steps.
pub tiled_through : {z y r : List ℕ} → TiledTo y r → TiledTo z y → TiledTo z r
tiled_through here u = u
tiled_through (next a b t) u = next a b (tiled_through t u)

-- Where all is tiled, so is what is left after some steps.
pub tiled_on : {z r : List ℕ} → TiledTo z r → Tiled r → Tiled z
tiled_on here u = u
tiled_on (next a b t) here = absurd (omega arith)
tiled_on (next a b t) (next c d u) = tiled_on t u

-- What is tiled and not empty begins with a part that ends within it.
pub tiled_first : {r : List ℕ} → Tiled r → 0 < length r → (4 ≤ stated r) × (stated r ≤ length r)
tiled_first here h = absurd (omega arith)
tiled_first (next a b t) h = (a, b)

-- Things whose bytes begin with what is passed are cut there.
pub cut_at : {A : Type 0} {z r : List ℕ} (f : A → List ℕ) (t : TiledTo z r) (xs : List A) (y : List ℕ) → All (λ x. States (f x)) xs
    → passed t ++ y ≡ laid f xs → Cut f (passed t) y xs
unfolding passed
cut_at f here xs y h e = record { front = []; back = xs; whole = refl; fronts = refl; backs = e }
cut_at {A} {z} {r} f (next a b t) [] y h e =
    absurd
    (let n = length-take-le (stated r) r b in
    let l = length-append (take (stated r) r) (passed t) in
    let m = length-append (take (stated r) r ++ passed t) y in
    let q = ap length e in
    omega arith)
cut_at {A} {z} {r} f (next a b t) (x ∷ xs) y h e =
    let T : List ℕ = take (stated r) r in
    let n : length T ≡ stated r = length-take-le (stated r) r b in
    let u : T ++ (passed t ++ y) ≡ f x ++ laid f xs = sym (append_assoc T (passed t) y) ∙ e in
    let s₁ : stated r ≡ stated T = sym (ap stated (take-append-drop (stated r) r)) ∙ stated_front T (drop (stated r) r) (omega arith) in
    let s₂ : stated T ≡ length (f x) =
    sym (stated_front T (passed t ++ y) (omega arith)) ∙ ap stated u ∙ stated_front (f x) (laid f xs) h.0.four ∙ h.0.says in
    let m : length (f x) ≡ length T = omega arith in
    let first : T ≡ f x =
    sym (take_at T (passed t ++ y) (length T) refl) ∙ ap (take (length T)) u ∙ take_at (f x) (laid f xs) (length T) m in
    let rest : passed t ++ y ≡ laid f xs =
    sym (drop_at T (passed t ++ y) (length T) refl) ∙ ap (drop (length T)) u ∙ drop_at (f x) (laid f xs) (length T) m in
    let c = cut_at f t xs y h.1 rest in
    record {
      front = x ∷ c.front;
      back = c.back;
      whole = ap (λ (v : List A). x ∷ v) c.whole;
      fronts = ap (λ (v : List ℕ). v ++ passed t) first ∙ ap (λ (v : List ℕ). f x ++ v) c.fronts;
      backs = c.backs;
    }

-- One thing that is all of the bytes is the only one.
pub only_one : {A : Type 0} (f : A → List ℕ) (xs : List A) (z : List ℕ) → All (λ x. States (f x)) xs → z ≡ laid f xs → 0 < length z
    → stated z ≡ length z → (x : A) × (xs ≡ x ∷ []) × (z ≡ f x)
only_one f [] z h e p s = absurd (let l = ap length e in omega arith)
only_one {A} f (x ∷ xs) z h e p s = (x, go xs h.1 rest, whole)
  where
    l : stated z ≡ length (f x)
    l = ap stated e ∙ stated_front (f x) (laid f xs) h.0.four ∙ h.0.says

    rest : length (laid f xs) ≡ 0
    rest = let m = ap length e ∙ length-append (f x) (laid f xs) in let n = l in omega arith

    whole : z ≡ f x
    whole =
        let m : length z ≡ length (f x) = sym s ∙ l in
        sym (take_all (length z) z (omega arith)) ∙ ap (take (length z)) e ∙ take_at (f x) (laid f xs) (length z) (sym m)

    go : (ys : List A) → All (λ y. States (f y)) ys → length (laid f ys) ≡ 0 → x ∷ ys ≡ x ∷ []
    go [] k q = refl
    go (y ∷ ys) k q = absurd (let m = length-append (f y) (laid f ys) in let n = k.0.four in omega arith)

-- Where the last part is known, all is tiled.
pub tiled_last : {s : List ℕ} {first p : ℕ} → LastAt s first p → Tiled (drop first s)
tiled_last {s} {first} {p} w =
    let l = length-drop p s in
    let e = w.ends in
    let h = w.head in
    let none : drop (stated (drop p s)) (drop p s) ≡ [] = drop_of_length-le (drop p s) {i = stated (drop p s)} (omega arith) in
    subst (λ (z : List ℕ). TiledTo z (drop first s)) none (tiled_more w.tiled (omega arith) (omega arith))
