-- Runs of bytes that pass a test, and fields of such a run and spaces after it.
use mathlib.Core.Path.{◌≡◌, refl, sym, ap, ◌∙◌}
use mathlib.Core.Bool.{Bool, true, false}
use mathlib.Core.List.{List, [], ◌∷◌, ◌++◌, append_assoc}
use Prim.Native.Nat.{ℕ, zero, suc, ◌+◌, ◌<◌, ◌≤◌}
use native.Mathlib.Omega.{arith}
use native.Mathlib.Nat.{add-zero}
use lib.Dec.{leb}
use lib.ListN.{length, get_or, take, drop, replicate, length-drop}
use lib.Seq.{length-take-le, take_all, take-add, take-suc, get_or-drop, drop-append_seam}
use borrow.Author.Tests.{le-leb, leb-true}
use Rattle.format.specs.Bytes.{every}
use Rattle.format.specs.Forms.{leading, space, padded}
use Rattle.format.proofs.Finding.{and_split, and_join}

-- ---- runs

-- The bytes of a run pass its test.
pub run_passes : (f : ℕ → Bool) (bs : List ℕ) → every f (take (leading f bs) bs) ≡ true
run_passes f [] = refl
run_passes f (b ∷ bs) = go (f b) refl (run_passes f bs)
  where
    go : (y : Bool) → f b ≡ y → every f (take (leading f bs) bs) ≡ true → every f (take (elim y as (λ z. ℕ) [ true ↦ suc (leading f bs) | false ↦ 0 ]) (b ∷ bs)) ≡ true
    go true e h = and_join (f b) _ e h
    go false e h = refl

-- A run is no longer than the bytes.
pub run_within : (f : ℕ → Bool) (bs : List ℕ) → leading f bs ≤ length bs
run_within f [] = omega arith
run_within f (b ∷ bs) = go (f b) (run_within f bs)
  where
    go : (y : Bool) → leading f bs ≤ length bs → elim y as (λ z. ℕ) [ true ↦ suc (leading f bs) | false ↦ 0 ] ≤ suc (length bs)
    go true h = omega arith
    go false h = omega arith

-- The byte after a run fails its test.
pub run_ends : (f : ℕ → Bool) (bs : List ℕ) → leading f bs < length bs → f (get_or bs (leading f bs) 0) ≡ false
run_ends f [] h = absurd (omega arith)
run_ends f (b ∷ bs) h = go (f b) refl (λ k. run_ends f bs k) h
  where
    go : (y : Bool) → f b ≡ y → (leading f bs < length bs → f (get_or bs (leading f bs) 0) ≡ false) → elim y as (λ z. ℕ) [ true ↦ suc (leading f bs) | false ↦ 0 ] < suc (length bs)
        → f (get_or (b ∷ bs) (elim y as (λ z. ℕ) [ true ↦ suc (leading f bs) | false ↦ 0 ]) 0) ≡ false
    go true e ih k = ih (omega arith)
    go false e ih k = e

-- Bytes that pass the test, then bytes whose first fails it: the run is the former.
pub run_joined : (f : ℕ → Bool) (xs ys : List ℕ) → every f xs ≡ true → leading f ys ≡ 0 → leading f (xs ++ ys) ≡ length xs
run_joined f [] ys p q = q
run_joined f (x ∷ xs) ys p q =
    let s = and_split (f x) (every f xs) p in
    ap (λ (b : Bool). elim b as (λ z. ℕ) [ true ↦ suc (leading f (xs ++ ys)) | false ↦ 0 ]) s.0 ∙ ap suc (run_joined f xs ys s.1 q)

pub none_leads : (f : ℕ → Bool) (b : ℕ) (bs : List ℕ) → f b ≡ false → leading f (b ∷ bs) ≡ 0
none_leads f b bs e = ap (λ (y : Bool). elim y as (λ z. ℕ) [ true ↦ suc (leading f bs) | false ↦ 0 ]) e

pub every_joined : (f : ℕ → Bool) (xs ys : List ℕ) → every f xs ≡ true → every f ys ≡ true → every f (xs ++ ys) ≡ true
every_joined f [] ys p q = q
every_joined f (x ∷ xs) ys p q = let s = and_split (f x) (every f xs) p in and_join (f x) _ s.0 (every_joined f xs ys s.1 q)

-- A byte in the middle that fails the test.
every_not : (f : ℕ → Bool) (xs : List ℕ) (c : ℕ) (t : List ℕ) → f c ≡ false → every f (xs ++ (c ∷ t)) ≡ true → ⊥
every_not f [] c t e p = let s = and_split (f c) (every f t) p in let z : true ≡ false = sym s.0 ∙ e in absurd (let w : ◌≡◌ {A = ℕ} 0 1 = cc in omega arith)
every_not f (x ∷ xs) c t e p = every_not f xs c t e (and_split (f x) (every f (xs ++ (c ∷ t))) p).1

pub all_spaces : (n : ℕ) → every space (replicate n 0x20) ≡ true
all_spaces zero = refl
all_spaces (suc n) = all_spaces n

-- ---- padded fields, whose characters are no spaces

module _ (f : ℕ → Bool) (apart : (b : ℕ) → space b ≡ true → f b ≡ false) where
  -- Spaces begin no run of characters.
  pub spaces_lead : (ys : List ℕ) → every space ys ≡ true → leading f ys ≡ 0
  spaces_lead [] p = refl
  spaces_lead (y ∷ ys) p = none_leads f y ys (apart y (and_split (space y) (every space ys) p).0)

  -- Characters and then spaces are such a field.
  pub padded_of : (xs ys : List ℕ) → 1 ≤ length xs → every f xs ≡ true → every space ys ≡ true → padded f (xs ++ ys) ≡ true
  padded_of xs ys h p q =
      let n = run_joined f xs ys p (spaces_lead ys q) in
      let e : every space (drop (leading f (xs ++ ys)) (xs ++ ys)) ≡ every space ys = ap (λ (k : ℕ). every space (drop k (xs ++ ys))) n ∙ ap (every space) (drop-append_seam xs ys) in
      and_join _ _ (le-leb 1 (leading f (xs ++ ys)) (omega arith)) (e ∙ q)

  -- Characters, spaces and then a byte that is no space, nor a character where there are no spaces, begin none.
  pub padded_not : (xs ys : List ℕ) (c : ℕ) (t : List ℕ) → every f xs ≡ true → every space ys ≡ true → space c ≡ false
      → (ys ≡ [] → f c ≡ false) → padded f (xs ++ (ys ++ (c ∷ t))) ≡ true → ⊥
  padded_not xs ys c t p q e k h =
      let n = run_joined f xs (ys ++ (c ∷ t)) p (stop ys q k) in
      let s = and_split (leb 1 (leading f (xs ++ (ys ++ (c ∷ t))))) (every space (drop (leading f (xs ++ (ys ++ (c ∷ t)))) (xs ++ (ys ++ (c ∷ t))))) h in
      every_not space ys c t e (sym (ap (λ (j : ℕ). every space (drop j (xs ++ (ys ++ (c ∷ t))))) n ∙ ap (every space) (drop-append_seam xs (ys ++ (c ∷ t)))) ∙ s.1)
    where
      stop : (zs : List ℕ) → every space zs ≡ true → (zs ≡ [] → f c ≡ false) → leading f (zs ++ (c ∷ t)) ≡ 0
      stop [] q k = none_leads f c t (k refl)
      stop (z ∷ zs) q k = none_leads f z (zs ++ (c ∷ t)) (apart z (and_split (space z) (every space zs) q).0)

  -- Bytes without a character in front begin none.
  pub no_character : (bs t : List ℕ) → 1 ≤ length bs → leading f bs ≡ 0 → padded f (take 1 bs ++ t) ≡ true → ⊥
  no_character [] t h z p = omega arith
  no_character (b ∷ bs) t h z p =
      let e : f b ≡ false = ap (λ (i : ℕ). f (get_or (b ∷ bs) i 0)) (sym z) ∙ run_ends f (b ∷ bs) (omega arith) in
      let s = and_split (leb 1 (leading f (b ∷ t))) (every space (drop (leading f (b ∷ t)) (b ∷ t))) p in
      let n = none_leads f b t e in
      let l = leb-true 1 (leading f (b ∷ t)) s.0 in
      omega arith

  module _ (bs : List ℕ) where
    -- the characters and the spaces after them
    abbrev chars : List ℕ
    chars = take (leading f bs) bs

    abbrev blanks : List ℕ
    blanks = take (leading space (drop (leading f bs) bs)) (drop (leading f bs) bs)

    chars_length : length chars ≡ leading f bs
    chars_length = length-take-le (leading f bs) bs (run_within f bs)

    blanks_length : length blanks ≡ leading space (drop (leading f bs) bs)
    blanks_length = length-take-le _ (drop (leading f bs) bs) (run_within space (drop (leading f bs) bs))

    -- Up to its place a field with a character goes on with spaces.
    pub goes_on : (k : ℕ) → 1 ≤ leading f bs → padded f (take (leading f bs + leading space (drop (leading f bs) bs)) bs ++ replicate k 0x20) ≡ true
    goes_on k h =
        let m : ℕ = leading space (drop (leading f bs) bs) in
        ap (λ (z : List ℕ). padded f (z ++ replicate k 0x20)) (take-add (leading f bs) m bs)
        ∙ ap (padded f) (append_assoc chars blanks (replicate k 0x20))
        ∙ padded_of chars (blanks ++ replicate k 0x20) (omega (arith, chars_length)) (run_passes f bs)
        (every_joined space blanks (replicate k 0x20) (run_passes space (drop (leading f bs) bs)) (all_spaces k))

    -- With the byte at its place it goes on with nothing.
    pub goes_nowhere : (t : List ℕ) → leading f bs + leading space (drop (leading f bs) bs) < length bs
        → padded f (take (suc (leading f bs + leading space (drop (leading f bs) bs))) bs ++ t) ≡ true → ⊥
    goes_nowhere t h p =
        let a : ℕ = leading f bs in
        let m : ℕ = leading space (drop a bs) in
        let c : ℕ = get_or bs (a + m) 0 in
        let l = length-drop a bs in
        let same : take (suc (a + m)) bs ++ t ≡ chars ++ (blanks ++ (c ∷ t)) =
        ap (λ (z : List ℕ). z ++ t) (take-suc bs (a + m) 0 h ∙ ap (λ (z : List ℕ). z ++ (c ∷ [])) (take-add a m bs))
        ∙ append_assoc (chars ++ blanks) (c ∷ []) t
        ∙ append_assoc chars blanks (c ∷ t) in
        let e = ap space (sym (get_or-drop a bs m 0)) ∙ run_ends space (drop a bs) (omega arith) in
        padded_not chars blanks c t (run_passes f bs) (run_passes space (drop a bs)) e
        (λ q.
        let z : m ≡ 0 = sym blanks_length ∙ ap length q in
        ap (λ (i : ℕ). f (get_or bs i 0)) (ap (λ (j : ℕ). a + j) z ∙ add-zero a) ∙ run_ends f bs (omega arith))
        (sym (ap (padded f) same) ∙ p)

    -- A field whose place is its end is such a field.
    pub reaches_end : 1 ≤ leading f bs → length bs ≤ leading f bs + leading space (drop (leading f bs) bs) → padded f bs ≡ true
    reaches_end h e =
        let m : ℕ = leading space (drop (leading f bs) bs) in
        ap (padded f) (sym (take_all (leading f bs + m) bs e) ∙ take-add (leading f bs) m bs)
        ∙ padded_of chars blanks (omega (arith, chars_length)) (run_passes f bs) (run_passes space (drop (leading f bs) bs))
