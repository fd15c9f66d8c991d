-- Where 17 points in a label template: the bytes before it begin some label template, with the byte there they begin none.
use mathlib.Core.Path.{◌≡◌, refl, sym, ap, ap₂, ◌∙◌, subst}
use mathlib.Core.Bool.{Bool, true, false, not, ◌&&◌, ◌||◌}
use mathlib.Core.Logic.{◌⊎◌, inl, inr, ⊎_elim}
use mathlib.Core.List.{List, [], ◌∷◌, ◌++◌, append_assoc}
use Prim.Native.Nat.{ℕ, zero, suc, ◌+◌, ◌-◌, ◌<◌, ◌≤◌}
use native.Mathlib.Omega.{arith}
use native.Mathlib.Nat.{eq-zero-or-pos}
use lib.Dec.{eqb, leb}
use lib.ListN.{get_or-append, length, get_or, take, drop, replicate, length-append, length-drop, length-replicate}
use lib.Seq.{length-take-le, take_all, take-add, take-suc, get_or-drop, take-append_seam, take-append-add, get_or-append-add, get_or-take}
use borrow.Author.Tests.{eqb-true, eqb-false, ne_eqb, leb-true}
use Rattle.format.specs.Bytes.{every, how_many}
use Rattle.format.specs.Forms.{leading, space, padded, label_form, label_reach, in_label, plain_label, star, digit, one_star}
use Rattle.format.proofs.Finding.{and_split, and_join}
use Rattle.format.specs.Claims.{Stops}
use Rattle.format.proofs.FormRuns.{run_passes, run_within, run_ends, run_joined, none_leads, every_joined, all_spaces, spaces_lead, padded_of, padded_not, no_character}

star_not_plain : (b : ℕ) → plain_label b ≡ true → star b ≡ false
star_not_plain b h = go (star b) refl
  where
    go : (y : Bool) → star b ≡ y → star b ≡ false
    go false e = e
    go true e =
        let z : plain_label b ≡ false = ap plain_label (eqb-true b 0x2A e) in
        absurd (let c : true ≡ false = sym h ∙ z in let v : ◌≡◌ {A = ℕ} 0 1 = cc in omega arith)

space_not_label : (b : ℕ) → space b ≡ true → in_label b ≡ false
space_not_label b e = ap in_label (eqb-true b 0x20 e)

plain_in : (xs : List ℕ) → every plain_label xs ≡ true → every in_label xs ≡ true
plain_in [] p = refl
plain_in (x ∷ xs) p =
    let s = and_split (plain_label x) (every plain_label xs) p in
    and_join (in_label x) _ (ap (λ (b : Bool). b || star x) s.0) (plain_in xs s.1)

-- how many stars
plain_none : (xs : List ℕ) → every plain_label xs ≡ true → how_many star xs ≡ 0
plain_none [] p = refl
plain_none (x ∷ xs) p =
    let s = and_split (plain_label x) (every plain_label xs) p in
    ap₂ (λ (b : Bool) (n : ℕ). elim b as (λ z. ℕ) [ true ↦ 1 | false ↦ 0 ] + n) (star_not_plain x s.0) (plain_none xs s.1)

many_joined : (xs ys : List ℕ) → how_many star (xs ++ ys) ≡ how_many star xs + how_many star ys
many_joined [] ys = omega arith
many_joined (x ∷ xs) ys = let i = many_joined xs ys in omega arith

many_star : (b : ℕ) (bs : List ℕ) → star b ≡ true → how_many star (b ∷ bs) ≡ 1 + how_many star bs
many_star b bs e = ap (λ (y : Bool). elim y as (λ z. ℕ) [ true ↦ 1 | false ↦ 0 ] + how_many star bs) e

-- What is asked of the characters.
abbrev Body : List ℕ → Bool
Body xs =
    not (digit (get_or xs 0 0))
    && leb (how_many star xs) 1
    && (eqb (how_many star xs) 0 || star (get_or xs 0 0) || star (get_or xs (length xs - 1) 0))

-- Characters and then bytes of which the first is none: the form is that of the characters, and spaces.
label_of : (xs ys : List ℕ) → 1 ≤ length xs → every in_label xs ≡ true → leading in_label ys ≡ 0 → every space ys ≡ true → Body xs ≡ true
    → label_form (xs ++ ys) ≡ true
unfolding label_form
label_of xs ys h p q w b =
    let L : List ℕ = xs ++ ys in
    let n : leading in_label L ≡ length xs = run_joined in_label xs ys p q in
    let first : get_or L 0 0 ≡ get_or xs 0 0 = get_or-append xs ys 0 0 (omega arith) in
    let last : get_or L (length xs - 1) 0 ≡ get_or xs (length xs - 1) 0 = get_or-append xs ys 0 (length xs - 1) (omega arith) in
    let st : how_many star (take (leading in_label L) L) ≡ how_many star xs = ap (λ (k : ℕ). how_many star (take k L)) n ∙ ap (how_many star) (take-append_seam xs ys) in
    let b₁ = and_split (not (digit (get_or xs 0 0)) && leb (how_many star xs) 1) _ b in
    let b₂ = and_split (not (digit (get_or xs 0 0))) (leb (how_many star xs) 1) b₁.0 in
    and_join _ _ (and_join _ _ (and_join _ _ (padded_of in_label space_not_label xs ys h p w) (ap (λ (y : ℕ). not (digit y)) first ∙ b₂.0)) (ap (λ (k : ℕ). leb k 1) st ∙ b₂.1))
    (ap₂ (λ (k y : ℕ). eqb k 0 || star (get_or L 0 0) || star y) st (ap (λ (k : ℕ). get_or L (k - 1) 0) n ∙ last) ∙ ap (λ (y : ℕ). eqb (how_many star xs) 0 || star y || star (get_or xs (length xs - 1) 0)) first ∙ b₁.1)

-- What the form says.
abbrev stars_in : List ℕ → ℕ
stars_in L = how_many star (take (leading in_label L) L)

label_says : (L : List ℕ) → label_form L ≡ true
    → (padded in_label L ≡ true) × (stars_in L ≤ 1)
    × ((eqb (stars_in L) 0 || star (get_or L 0 0) || star (get_or L (leading in_label L - 1) 0)) ≡ true)
unfolding label_form
label_says L h =
    let a = and_split (padded in_label L && not (digit (get_or L 0 0)) && leb (stars_in L) 1) (eqb (stars_in L) 0 || star (get_or L 0 0) || star (get_or L (leading in_label L - 1) 0)) h in
    let b = and_split (padded in_label L && not (digit (get_or L 0 0))) (leb (stars_in L) 1) a.0 in
    let c = and_split (padded in_label L) (not (digit (get_or L 0 0))) b.0 in
    (c.0, leb-true (stars_in L) 1 b.1, a.1)

-- A run goes on after bytes that pass.
run_after : (f : ℕ → Bool) (xs zs : List ℕ) → every f xs ≡ true → leading f (xs ++ zs) ≡ length xs + leading f zs
run_after f [] zs p = omega arith
run_after f (x ∷ xs) zs p =
    let s = and_split (f x) (every f xs) p in
    let i = run_after f xs zs s.1 in
    ap (λ (b : Bool). elim b as (λ z. ℕ) [ true ↦ suc (leading f (xs ++ zs)) | false ↦ 0 ]) s.0 ∙ omega arith

lead_one : (f : ℕ → Bool) (c : ℕ) (t : List ℕ) → f c ≡ true → leading f (c ∷ t) ≡ suc (leading f t)
lead_one f c t e = ap (λ (b : Bool). elim b as (λ z. ℕ) [ true ↦ suc (leading f t) | false ↦ 0 ]) e

-- A list without stars has none anywhere.
none_star : (zs : List ℕ) (i : ℕ) → how_many star zs ≡ 0 → star (get_or zs i 0) ≡ false
none_star [] i e = refl
none_star (z ∷ zs) zero e = go (star z) refl
  where
    go : (y : Bool) → star z ≡ y → star z ≡ false
    go false q = q
    go true q = absurd (omega (arith, many_star z zs q))
none_star (z ∷ zs) (suc i) e = none_star zs i (omega arith)

module _ (xs : List ℕ) (c : ℕ) (t : List ℕ) (p : every in_label xs ≡ true) (e : in_label c ≡ true) where
  -- the characters from c on
  abbrev more : List ℕ
  more = take (leading in_label (c ∷ t)) (c ∷ t)

  stars_more : stars_in (xs ++ (c ∷ t)) ≡ how_many star xs + how_many star more
  stars_more =
      ap (λ (k : ℕ). how_many star (take k (xs ++ (c ∷ t)))) (run_after in_label xs (c ∷ t) p)
      ∙ ap (how_many star) (take-append-add xs (c ∷ t) (leading in_label (c ∷ t)))
      ∙ many_joined xs more

  -- A second star.
  dead_star : how_many star xs ≡ 1 → star c ≡ true → label_form (xs ++ (c ∷ t)) ≡ true → ⊥
  dead_star one s h =
      let l = (label_says (xs ++ (c ∷ t)) h).1 in
      let m : how_many star more ≡ 1 + how_many star (take (leading in_label t) t) =
      ap (λ (k : ℕ). how_many star (take k (c ∷ t))) (lead_one in_label c t e) ∙ many_star c (take (leading in_label t) t) s in
      omega (arith, stars_more, l, m)

  -- A character behind the star that is not the first.
  dead_plain : how_many star xs ≡ 1 → 1 ≤ length xs → star (get_or xs 0 0) ≡ false → label_form (xs ++ (c ∷ t)) ≡ true → ⊥
  dead_plain one h s w =
      let L : List ℕ = xs ++ (c ∷ t) in
      let k : ℕ = leading in_label (c ∷ t) in
      let q = label_says L w in
      let l = q.1 in
      let none : how_many star more ≡ 0 = omega (arith, stars_more, l) in
      let st : stars_in L ≡ 1 = omega (arith, stars_more) in
      let first : star (get_or L 0 0) ≡ false = ap star (get_or-append xs (c ∷ t) 0 0 (omega arith)) ∙ s in
      let one_more = lead_one in_label c t e in
      let i : leading in_label L - 1 ≡ length xs + (k - 1) = omega (arith, run_after in_label xs (c ∷ t) p) in
      let last : star (get_or L (leading in_label L - 1) 0) ≡ false =
      ap (λ (j : ℕ). star (get_or L j 0)) i
      ∙ ap star (get_or-append-add xs (c ∷ t) (k - 1) 0)
      ∙ ap star (sym (get_or-take k (c ∷ t) (k - 1) 0 (omega arith)))
      ∙ none_star more (k - 1) none in
      let z : false ≡ true =
      sym (ap₂ (λ (x y : Bool). eqb (stars_in L) 0 || x || y) first last ∙ ap (λ (n : ℕ). eqb n 0 || false || false) st) ∙ q.2 in
      let v : ◌≡◌ {A = ℕ} 0 1 = cc in omega arith

-- Where the first m bytes are the characters of a label template and no character goes on from there, the place is after the
-- spaces behind them.
module _ (bs : List ℕ) (m : ℕ) (l : m ≤ length bs) (some : 1 ≤ m) (p : every in_label (take m bs) ≡ true) (b : Body (take m bs) ≡ true)
    (dead : (t : List ℕ) → m < length bs → in_label (get_or bs m 0) ≡ true → space (get_or bs m 0) ≡ false → label_form (take m bs ++ (get_or bs m 0 ∷ t)) ≡ true → ⊥)
    (bad : label_form bs ≡ false) where
  abbrev gap : List ℕ
  gap = take (leading space (drop m bs)) (drop m bs)

  gap_length : length gap ≡ leading space (drop m bs)
  gap_length = length-take-le _ (drop m bs) (run_within space (drop m bs))

  body_length : length (take m bs) ≡ m
  body_length = length-take-le m bs l

  with_spaces : (ys : List ℕ) → every space ys ≡ true → label_form (take m bs ++ ys) ≡ true
  with_spaces ys q = label_of (take m bs) ys (omega (arith, body_length)) p (spaces_lead in_label space_not_label ys q) q b

  label_ends : m + leading space (drop m bs) < length bs
  label_ends =
      let n : ℕ = m + leading space (drop m bs) in
      ⊎_elim
      (λ (w : length bs - n ≡ 0).
      absurd
      (let c : true ≡ false =
      sym (ap label_form (sym (take_all n bs (omega arith)) ∙ take-add m (leading space (drop m bs)) bs) ∙ with_spaces gap (run_passes space (drop m bs))) ∙ bad in
      let v : ◌≡◌ {A = ℕ} 0 1 = cc in
      omega arith))
      (λ (w : 0 < length bs - n). omega arith) (eq-zero-or-pos (length bs - n))

  label_stops : Stops label_form bs (m + leading space (drop m bs))
  label_stops =
      let k : ℕ = leading space (drop m bs) in
      let n : ℕ = m + k in
      let j : ℕ = length bs - n in
      let c : ℕ = get_or bs n 0 in
      let within = label_ends in
      let a = length-append (take n bs) (replicate j 0x20) in
      let r = length-replicate {A = ℕ} j 0x20 in
      let f = length-take-le n bs (omega arith) in
      let d = length-drop m bs in
      let made : label_form (take n bs ++ replicate j 0x20) ≡ true =
      ap (λ (z : List ℕ). label_form (z ++ replicate j 0x20)) (take-add m k bs)
      ∙ ap label_form (append_assoc (take m bs) gap (replicate j 0x20))
      ∙ with_spaces (gap ++ replicate j 0x20) (every_joined space gap (replicate j 0x20) (run_passes space (drop m bs)) (all_spaces j)) in
      let no-space : space c ≡ false = ap space (sym (get_or-drop m bs k 0)) ∙ run_ends space (drop m bs) (omega arith) in (
        within,
        (replicate j 0x20, omega arith, made),
        λ t h.
            let same : take (suc n) bs ++ t ≡ take m bs ++ (gap ++ (c ∷ t)) =
            ap (λ (z : List ℕ). z ++ t) (take-suc bs n 0 within ∙ ap (λ (z : List ℕ). z ++ (c ∷ [])) (take-add m k bs))
            ∙ append_assoc (take m bs ++ gap) (c ∷ []) t
            ∙ append_assoc (take m bs) gap (c ∷ t) in
            let w : label_form (take m bs ++ (gap ++ (c ∷ t))) ≡ true = sym (ap label_form same) ∙ h in
            padded_not in_label space_not_label (take m bs) gap c t p (run_passes space (drop m bs)) no-space
            (λ q. go (in_label c) refl t (sym gap_length ∙ ap length q) no-space (ap (λ (g : List ℕ). label_form (take m bs ++ (g ++ (c ∷ t)))) (sym q) ∙ w))
            (label_says (take m bs ++ (gap ++ (c ∷ t))) w).0,
      )
    where
      go : (y : Bool) → in_label (get_or bs (m + leading space (drop m bs)) 0) ≡ y → (t : List ℕ) → leading space (drop m bs) ≡ 0
          → space (get_or bs (m + leading space (drop m bs)) 0) ≡ false
          → label_form (take m bs ++ (get_or bs (m + leading space (drop m bs)) 0 ∷ t)) ≡ true
          → in_label (get_or bs (m + leading space (drop m bs)) 0) ≡ false
      go false e t z s h = e
      go true e t z s h =
          let i : m + leading space (drop m bs) ≡ m = omega arith in
          let g : get_or bs (m + leading space (drop m bs)) 0 ≡ get_or bs m 0 = ap (λ (j : ℕ). get_or bs j 0) i in
          absurd (dead t (omega (arith, label_ends)) (ap in_label (sym g) ∙ e) (ap space (sym g) ∙ s) (ap (λ (x : ℕ). label_form (take m bs ++ (x ∷ t))) (sym g) ∙ h))

-- the place, by the star in front
abbrev place_from : List ℕ → ℕ → ℕ
place_from bs s =
    let n = s + leading plain_label (drop s bs) in
    let m = n + elim s as (λ f. ℕ) [ zero ↦ one_star (drop n bs) | suc f ↦ 0 ] in
    elim (eqb n 0 || digit (get_or bs 0 0)) [ true ↦ 0 | false ↦ m + leading space (drop m bs) ]

wrong : {A : Type 0} → true ≡ false → A
wrong e = absurd (let v : ◌≡◌ {A = ℕ} 0 1 = cc in omega arith)

-- A star in front.
module _ (b : ℕ) (rest : List ℕ) (sb : star b ≡ true) (bad : label_form (b ∷ rest) ≡ false) where
  abbrev bs₁ : List ℕ
  bs₁ = b ∷ rest

  abbrev a₁ : ℕ
  a₁ = leading plain_label rest

  abbrev m₁ : ℕ
  m₁ = (1 + a₁) + 0

  is : b ≡ 0x2A
  is = eqb-true b 0x2A sb

  taken₁ : take m₁ bs₁ ≡ b ∷ take a₁ rest
  taken₁ = let e : m₁ ≡ suc a₁ = omega arith in ap (λ (k : ℕ). take k bs₁) e

  chars₁ : every in_label (take m₁ bs₁) ≡ true
  chars₁ = ap (every in_label) taken₁ ∙ and_join (in_label b) _ (ap in_label is) (plain_in (take a₁ rest) (run_passes plain_label rest))

  body₁ : Body (take m₁ bs₁) ≡ true
  body₁ =
      ap Body taken₁
      ∙ ap (λ (x : ℕ). Body (x ∷ take a₁ rest)) is
      ∙ ap (λ (k : ℕ). leb (1 + k) 1 && (eqb (1 + k) 0 || true || star (get_or (0x2A ∷ take a₁ rest) (length (0x2A ∷ take a₁ rest) - 1) 0))) (plain_none (take a₁ rest) (run_passes plain_label rest))

  dead₁ : (t : List ℕ) → m₁ < length bs₁ → in_label (get_or bs₁ m₁ 0) ≡ true → space (get_or bs₁ m₁ 0) ≡ false
      → label_form (take m₁ bs₁ ++ (get_or bs₁ m₁ 0 ∷ t)) ≡ true → ⊥
  dead₁ t h e s w =
      let i : m₁ ≡ suc a₁ = omega arith in
      let g : get_or bs₁ m₁ 0 ≡ get_or rest a₁ 0 = ap (λ (j : ℕ). get_or bs₁ j 0) i in
      let no : plain_label (get_or bs₁ m₁ 0) ≡ false = ap plain_label g ∙ run_ends plain_label rest (omega arith) in
      let st : star (get_or bs₁ m₁ 0) ≡ true = sym (ap (λ (y : Bool). y || star (get_or bs₁ m₁ 0)) no) ∙ e in
      let one : how_many star (take m₁ bs₁) ≡ 1 =
      ap (how_many star) taken₁ ∙ many_star b (take a₁ rest) sb ∙ ap (λ (k : ℕ). 1 + k) (plain_none (take a₁ rest) (run_passes plain_label rest)) in
      dead_star (take m₁ bs₁) (get_or bs₁ m₁ 0) t chars₁ e one st w

  star_first : Stops label_form bs₁ (place_from bs₁ 1)
  star_first =
      let v = run_within plain_label rest in
      let no : (eqb (1 + a₁) 0 || digit b) ≡ false = ap₂ (λ (x : Bool) (y : ℕ). x || digit y) (ne_eqb (1 + a₁) 0 (λ z. omega arith)) is in
      subst (λ (y : Bool). Stops label_form bs₁ (elim y as (λ z. ℕ) [ true ↦ 0 | false ↦ m₁ + leading space (drop m₁ bs₁) ])) (sym no)
      (label_stops bs₁ m₁ (omega arith) (omega arith) chars₁ body₁ dead₁ bad)

-- The star behind, or none.
star_cases : (ys : List ℕ)
    → ((one_star ys ≡ 0) × (1 ≤ length ys → star (get_or ys 0 0) ≡ false)) ⊎ ((one_star ys ≡ 1) × (1 ≤ length ys) × (star (get_or ys 0 0) ≡ true))
star_cases [] = inl (refl, λ h. absurd (omega arith))
star_cases (y ∷ ys) = go (star y) refl
  where
    go : (z : Bool) → star y ≡ z
        → ((one_star (y ∷ ys) ≡ 0) × (1 ≤ suc (length ys) → star y ≡ false)) ⊎ ((one_star (y ∷ ys) ≡ 1) × (1 ≤ suc (length ys)) × (star y ≡ true))
    go false e = inl (ap (λ (u : Bool). elim u as (λ z. ℕ) [ true ↦ 1 | false ↦ 0 ]) e, λ h. e)
    go true e = inr (ap (λ (u : Bool). elim u as (λ z. ℕ) [ true ↦ 1 | false ↦ 0 ]) e, omega arith, e)

-- No star in front, and a character that is no digit.
module _ (bs : List ℕ) (some : 1 ≤ leading plain_label bs) (nd : digit (get_or bs 0 0) ≡ false) (ns : star (get_or bs 0 0) ≡ false) (bad : label_form bs ≡ false) where
  abbrev a₂ : ℕ
  a₂ = leading plain_label bs

  abbrev xs₂ : List ℕ
  xs₂ = take a₂ bs

  first₂ : get_or xs₂ 0 0 ≡ get_or bs 0 0
  first₂ = get_or-take a₂ bs 0 0 (omega arith)

  none₂ : how_many star xs₂ ≡ 0
  none₂ = plain_none xs₂ (run_passes plain_label bs)

  length₂ : length xs₂ ≡ a₂
  length₂ = length-take-le a₂ bs (run_within plain_label bs)

  plain_only : (m : ℕ) → m ≡ a₂ → (m < length bs → star (get_or bs m 0) ≡ false) → Stops label_form bs (m + leading space (drop m bs))
  plain_only m i q =
      let v = run_within plain_label bs in
      let same : take m bs ≡ xs₂ = ap (λ (k : ℕ). take k bs) i in
      label_stops bs m (omega arith) (omega arith) (ap (every in_label) same ∙ plain_in xs₂ (run_passes plain_label bs))
      (ap Body same
      ∙ ap₂ (λ (x : ℕ) (k : ℕ). not (digit x) && leb k 1 && (eqb k 0 || star (get_or xs₂ 0 0) || star (get_or xs₂ (length xs₂ - 1) 0))) first₂ none₂
      ∙ ap (λ (y : Bool). not y && true && true) nd)
      (λ t h e s w.
      let no : plain_label (get_or bs m 0) ≡ false = ap (λ (k : ℕ). plain_label (get_or bs k 0)) i ∙ run_ends plain_label bs (omega arith) in
      wrong (sym e ∙ ap₂ (λ (x y : Bool). x || y) no (q h))) bad

  star_last_is : (m : ℕ) → m ≡ a₂ + 1 → a₂ < length bs → star (get_or bs a₂ 0) ≡ true → Stops label_form bs (m + leading space (drop m bs))
  star_last_is m i h st =
      let c : ℕ = get_or bs a₂ 0 in
      let i' : m ≡ suc a₂ = omega arith in
      let same : take m bs ≡ xs₂ ++ (c ∷ []) = ap (λ (k : ℕ). take k bs) i' ∙ take-suc bs a₂ 0 h in
      let l = length-append xs₂ (c ∷ []) in
      let lx = length₂ in
      let one : how_many star (xs₂ ++ (c ∷ [])) ≡ 1 = omega (arith, many_joined xs₂ (c ∷ []), none₂, many_star c [] st) in
      let first : get_or (xs₂ ++ (c ∷ [])) 0 0 ≡ get_or bs 0 0 = get_or-append xs₂ (c ∷ []) 0 0 (omega arith) ∙ first₂ in
      let j : length (xs₂ ++ (c ∷ [])) - 1 ≡ length xs₂ + 0 = omega arith in
      let last : star (get_or (xs₂ ++ (c ∷ [])) (length (xs₂ ++ (c ∷ [])) - 1) 0) ≡ true =
      ap (λ (k : ℕ). star (get_or (xs₂ ++ (c ∷ [])) k 0)) j ∙ ap star (get_or-append-add xs₂ (c ∷ []) 0 0) ∙ st in
      let in_c : in_label c ≡ true = ap in_label (eqb-true c 0x2A st) in
      let chars : every in_label (take m bs) ≡ true =
      ap (every in_label) same ∙ every_joined in_label xs₂ (c ∷ []) (plain_in xs₂ (run_passes plain_label bs)) (and_join (in_label c) true in_c refl) in
      label_stops bs m (omega arith) (omega arith) chars
      (ap Body same
      ∙ ap₂ (λ (x : ℕ) (k : ℕ). not (digit x) && leb k 1 && (eqb k 0 || star x || star (get_or (xs₂ ++ (c ∷ [])) (length (xs₂ ++ (c ∷ [])) - 1) 0))) first one
      ∙ ap₂ (λ (y z : Bool). not y && true && (z || star (get_or (xs₂ ++ (c ∷ [])) (length (xs₂ ++ (c ∷ [])) - 1) 0))) nd ns
      ∙ last)
      (λ t k e s w.
      dead_plain (take m bs) (get_or bs m 0) t chars e (ap (how_many star) same ∙ one) (omega (arith, ap length same))
      (ap (λ (z : List ℕ). star (get_or z 0 0)) same ∙ ap star first ∙ ns) w) bad

-- No place for a character in front.
module _ (bs : List ℕ) (h : 1 ≤ length bs) where
  at_once : ((t : List ℕ) → label_form (take 1 bs ++ t) ≡ true → ⊥) → Stops label_form bs 0
  at_once never =
      let l = length-replicate {A = ℕ} (length bs - 1) 0x20 in (
        h,
        (
          0x41 ∷ replicate (length bs - 1) 0x20,
          omega arith,
          label_of (0x41 ∷ []) (replicate (length bs - 1) 0x20) (omega arith) refl
              (spaces_lead in_label space_not_label (replicate (length bs - 1) 0x20) (all_spaces (length bs - 1))) (all_spaces (length bs - 1)) refl,
        ),
        never,
      )

label_digit : (L : List ℕ) → label_form L ≡ true → not (digit (get_or L 0 0)) ≡ true
unfolding label_form
label_digit L h =
    let a = and_split (padded in_label L && not (digit (get_or L 0 0)) && leb (stars_in L) 1) (eqb (stars_in L) 0 || star (get_or L 0 0) || star (get_or L (leading in_label L - 1) 0)) h in
    let b = and_split (padded in_label L && not (digit (get_or L 0 0))) (leb (stars_in L) 1) a.0 in
    (and_split (padded in_label L) (not (digit (get_or L 0 0))) b.0).1

-- No star in front.
module _ (b : ℕ) (rest : List ℕ) (ns : star b ≡ false) (bad : label_form (b ∷ rest) ≡ false) where
  abbrev bs₃ : List ℕ
  bs₃ = b ∷ rest

  abbrev n₃ : ℕ
  n₃ = 0 + leading plain_label bs₃

  abbrev m₃ : ℕ
  m₃ = n₃ + one_star (drop n₃ bs₃)

  behind : 1 ≤ leading plain_label bs₃ → digit b ≡ false → Stops label_form bs₃ (m₃ + leading space (drop m₃ bs₃))
  behind some nd =
      let l = length-drop n₃ bs₃ in
      let g = get_or-drop n₃ bs₃ 0 0 in
      ⊎_elim
      (λ (w : (one_star (drop n₃ bs₃) ≡ 0) × (1 ≤ length (drop n₃ bs₃) → star (get_or (drop n₃ bs₃) 0 0) ≡ false)).
      let z = w.0 in
      plain_only bs₃ some nd ns bad m₃ (omega arith)
      (λ k.
      let i : m₃ ≡ n₃ + 0 = omega arith in
      ap (λ (j : ℕ). star (get_or bs₃ j 0)) i ∙ ap star (sym g) ∙ w.1 (omega arith)))
      (λ (w : (one_star (drop n₃ bs₃) ≡ 1) × (1 ≤ length (drop n₃ bs₃)) × (star (get_or (drop n₃ bs₃) 0 0) ≡ true)).
      let z = w.0 in
      let k = w.1 in
      let i : leading plain_label bs₃ ≡ n₃ + 0 = omega arith in
      star_last_is bs₃ some nd ns bad m₃ (omega arith) (omega arith) (ap (λ (j : ℕ). star (get_or bs₃ j 0)) i ∙ ap star (sym g) ∙ w.2))
      (star_cases (drop n₃ bs₃))

  by_chars : (y z : Bool) → eqb n₃ 0 ≡ y → digit b ≡ z
      → Stops label_form bs₃ (elim (y || z) as (λ u. ℕ) [ true ↦ 0 | false ↦ m₃ + leading space (drop m₃ bs₃) ])
  by_chars true z e d =
      let i : leading plain_label bs₃ ≡ 0 = let w = eqb-true n₃ 0 e in omega arith in
      let p : plain_label b ≡ false = ap (λ (j : ℕ). plain_label (get_or bs₃ j 0)) (sym i) ∙ run_ends plain_label bs₃ (omega arith) in
      let q : in_label b ≡ false = ap₂ (λ (u v : Bool). u || v) p ns in
      at_once bs₃ (omega arith)
      (λ t w. no_character in_label space_not_label bs₃ t (omega arith) (none_leads in_label b rest q) (label_says (b ∷ t) w).0)
  by_chars false true e d = at_once bs₃ (omega arith) (λ t w. wrong (sym (label_digit (b ∷ t) w) ∙ ap not d))
  by_chars false false e d = let w = eqb-false n₃ 0 e in behind (omega (arith, w)) d

-- What is before the place of a refused label template is the beginning of a label template of the same length; with the byte
-- at the place it is the beginning of none.
pub label_place : (bs : List ℕ) → 1 ≤ length bs → label_form bs ≡ false → Stops label_form bs (label_reach bs)
unfolding label_reach
label_place [] h bad = absurd (omega arith)
label_place (b ∷ rest) h bad = go (star b) refl
  where
    go : (y : Bool) → star b ≡ y → Stops label_form (b ∷ rest) (place_from (b ∷ rest) (elim y as (λ u. ℕ) [ true ↦ 1 | false ↦ 0 ]))
    go true e = star_first b rest e bad
    go false e = by_chars b rest e bad (eqb (0 + leading plain_label (b ∷ rest)) 0) (digit b) refl refl
