-- The fields that fit a layout, with every length and code that it states: as a type, and the same as the test `fits`.
use mathlib.Core.Path.{◌≡◌, refl}
use mathlib.Core.Bool.{Bool, true, ◌&&◌}
use mathlib.Core.List.{List, [], ◌∷◌, ◌++◌}
use Prim.Native.Nat.{ℕ, ◌^◌, ◌<◌}
use native.Mathlib.Omega.{arith}
use lib.Dec.{eqb, ltb}
use lib.ListN.{length, get_or}
use borrow.Author.Tests.{ltb-true, lt-ltb, eqb-true, eq-eqb}
use Rattle.format.specs.Layout.{Item, code, zeros, own, count, fixed, counted, Fields, fits}
use Rattle.format.specs.Parts.{Kind, public_key, rule, transport_variant, transport_rule, export_parameters}
use Rattle.format.specs.Parts.{source_rule, token_parameters, name, information, protection, dates, application_data}
use Rattle.format.specs.Parts.{layout}
use Rattle.format.proofs.Finding.{and_split, and_join, every_kind}

-- The fields fit the layout of a part of t bytes: each field has its length, and each number can be stated in its
-- width; ns are the counts so far.
abbrev pub Fits : ℕ → List ℕ → List Item → Fields → Type 0
Fits t ns [] [] = Unit {0}
Fits t ns [] (f ∷ fs) = ⊥
Fits t ns (code w v ∷ l) fs = (v < 256 ^ w) × Fits t ns l fs
Fits t ns (zeros n q ∷ l) fs = Fits t ns l fs
Fits t ns (own w ∷ l) fs = (t < 256 ^ w) × Fits t ns l fs
Fits t ns (count w k ∷ l) fs = (length (get_or fs k []) < 256 ^ w) × Fits t (ns ++ (length (get_or fs k []) ∷ [])) l fs
Fits t ns (fixed n ∷ l) [] = ⊥
Fits t ns (fixed n ∷ l) (f ∷ fs) = (length f ≡ n) × Fits t ns l fs
Fits t ns (counted s ∷ l) [] = ⊥
Fits t ns (counted s ∷ l) (f ∷ fs) = (length f ≡ get_or ns s 0) × Fits t ns l fs

-- Every code of the layout can be stated in its width.
abbrev pub codes_fit : List Item → Bool
codes_fit [] = true
codes_fit (code w v ∷ l) = ltb v (256 ^ w) && codes_fit l
codes_fit (zeros n q ∷ l) = codes_fit l
codes_fit (own w ∷ l) = codes_fit l
codes_fit (count w k ∷ l) = codes_fit l
codes_fit (fixed n ∷ l) = codes_fit l
codes_fit (counted s ∷ l) = codes_fit l

-- The length t can be stated wherever the layout states the part's own length.
abbrev OwnFits : ℕ → List Item → Type 0
OwnFits t [] = Unit {0}
OwnFits t (code w v ∷ l) = OwnFits t l
OwnFits t (zeros n q ∷ l) = OwnFits t l
OwnFits t (own w ∷ l) = (t < 256 ^ w) × OwnFits t l
OwnFits t (count w k ∷ l) = OwnFits t l
OwnFits t (fixed n ∷ l) = OwnFits t l
OwnFits t (counted s ∷ l) = OwnFits t l

-- Fields that pass the test fit, where the layout's codes and the length t can be stated.
fits_Fits :
    (l : List Item) (t : ℕ) (ns : List ℕ) (fs : Fields) → codes_fit l ≡ true → OwnFits t l → fits ns l fs ≡ true
    → Fits t ns l fs
fits_Fits [] t ns [] c s e = tt
fits_Fits [] t ns (f ∷ fs) c s e = absurd (let z : ◌≡◌ {A = ℕ} 0 1 = cc in omega arith)
fits_Fits (code w v ∷ l) t ns fs c s e =
    let p = and_split (ltb v (256 ^ w)) (codes_fit l) c in
    (ltb-true v (256 ^ w) p.0, fits_Fits l t ns fs p.1 s e)
fits_Fits (zeros n q ∷ l) t ns fs c s e = fits_Fits l t ns fs c s e
fits_Fits (own w ∷ l) t ns fs c s e = (s.0, fits_Fits l t ns fs c s.1 e)
fits_Fits (count w k ∷ l) t ns fs c s e =
    let n : ℕ = length (get_or fs k []) in
    let p = and_split (ltb n (256 ^ w)) (fits (ns ++ (n ∷ [])) l fs) e in
    (ltb-true n (256 ^ w) p.0, fits_Fits l t (ns ++ (n ∷ [])) fs c s p.1)
fits_Fits (fixed n ∷ l) t ns [] c s e = absurd (let z : ◌≡◌ {A = ℕ} 0 1 = cc in omega arith)
fits_Fits (fixed n ∷ l) t ns (f ∷ fs) c s e =
    let p = and_split (eqb (length f) n) (fits ns l fs) e in
    (eqb-true (length f) n p.0, fits_Fits l t ns fs c s p.1)
fits_Fits (counted i ∷ l) t ns [] c s e = absurd (let z : ◌≡◌ {A = ℕ} 0 1 = cc in omega arith)
fits_Fits (counted i ∷ l) t ns (f ∷ fs) c s e =
    let p = and_split (eqb (length f) (get_or ns i 0)) (fits ns l fs) e in
    (eqb-true (length f) (get_or ns i 0) p.0, fits_Fits l t ns fs c s p.1)

-- Fields that fit pass the test.
pub Fits-fits : (l : List Item) (t : ℕ) (ns : List ℕ) (fs : Fields) → Fits t ns l fs → fits ns l fs ≡ true
Fits-fits [] t ns [] h = refl
Fits-fits [] t ns (f ∷ fs) h = absurd h
Fits-fits (code w v ∷ l) t ns fs h = Fits-fits l t ns fs h.1
Fits-fits (zeros n q ∷ l) t ns fs h = Fits-fits l t ns fs h
Fits-fits (own w ∷ l) t ns fs h = Fits-fits l t ns fs h.1
Fits-fits (count w k ∷ l) t ns fs h =
    let n : ℕ = length (get_or fs k []) in
    and_join (ltb n (256 ^ w)) _ (lt-ltb n (256 ^ w) h.0) (Fits-fits l t (ns ++ (n ∷ [])) fs h.1)
Fits-fits (fixed n ∷ l) t ns [] h = absurd h
Fits-fits (fixed n ∷ l) t ns (f ∷ fs) h =
    and_join (eqb (length f) n) _ (eq-eqb (length f) n h.0) (Fits-fits l t ns fs h.1)
Fits-fits (counted s ∷ l) t ns [] h = absurd h
Fits-fits (counted s ∷ l) t ns (f ∷ fs) h =
    and_join (eqb (length f) (get_or ns s 0)) _ (eq-eqb (length f) (get_or ns s 0) h.0) (Fits-fits l t ns fs h.1)

-- The codes of every kind can be stated.
layout_codes : (k : Kind) → codes_fit (layout k) ≡ true
layout_codes k = every_kind (λ j. codes_fit (layout j)) refl k

-- Every kind states its own length in two bytes.
layout_own : (t : ℕ) → t < 256 ^ 2 → (k : Kind) → OwnFits t (layout k)
layout_own t h = elim [
  | public_key ↦ (h, tt)
  | rule ↦ (h, tt)
  | transport_variant ↦ (h, tt)
  | transport_rule ↦ (h, tt)
  | export_parameters ↦ (h, tt)
  | source_rule ↦ (h, tt)
  | token_parameters ↦ (h, tt)
  | name ↦ (h, tt)
  | information ↦ (h, tt)
  | protection ↦ (h, tt)
  | dates ↦ (h, tt)
  | application_data ↦ (h, tt)
]

-- The fields of a part of t bytes that pass the test fit its kind's layout.
pub part_fits : (k : Kind) (t : ℕ) (fs : Fields) → t < 256 ^ 2 → fits [] (layout k) fs ≡ true → Fits t [] (layout k) fs
part_fits k t fs h e = fits_Fits (layout k) t [] fs (layout_codes k) (layout_own t h k) e
