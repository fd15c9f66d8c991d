-- The owner of a row: a section's is its own row, a subsection's that of the last section before it, which covers it.
use mathlib.Core.Path.{◌≡◌, refl, sym, ap, ◌∙◌, subst}
use mathlib.Core.Bool.{Bool, true, false}
use mathlib.Core.List.{List, [], ◌∷◌}
use mathlib.Core.Option.{some}
use mathlib.Core.Logic.{◌⊎◌, inl, inr}
use Prim.Native.Nat.{ℕ, zero, suc, ◌+◌, ◌≤◌, ◌<◌}
use native.Mathlib.Omega.{arith}
use lib.ListN.{length, take, drop, get_elem?}
use Rattle.format.specs.Parts.{section_id, is_subsection, Part, size}
use Rattle.format.specs.Rules.{front_subs}
use Rattle.format.specs.Legal.{Legal}
use Rattle.format.specs.Table.{Placed, Before, after_header, owner_of, after, placed}
use Rattle.format.proofs.Finding.{section_id_pos}
use Rattle.format.proofs.Unique.{Owned, FitParts, fit_parts}
use Rattle.format.proofs.Grouping.{is_true, is_false}
use Rattle.format.proofs.Reaching.{sizes}
use Rattle.format.proofs.Elements.{there, there_lt, some_inj}
use Rattle.format.proofs.Rows.{placed_count}
use Rattle.format.proofs.Tiling.{rows_tile, row_of, subsection_length, section_length}
use Rattle.format.proofs.Stepping.{rising}
use Rattle.format.specs.Claims.{IsRow}

-- The owner of a section's row, for parts that stand after other rows.
own_from : (b : Before) (ps : List Part) (k : ℕ) (x : Placed) → get_elem? (placed b ps) k ≡ some x
    → is_subsection x.part.kind ≡ false → x.row.owner ≡ b.rows + k
own_from b [] k x e s = absurd (let z : ◌≡◌ {A = ℕ} 0 1 = cc in omega arith)
own_from b (p ∷ ps) zero x e s =
    let q = some_inj e in
    ap (λ (y : Placed). y.row.owner) (sym q)
    ∙ is_false (is_subsection p.kind) b.section b.rows (ap (λ (y : Placed). is_subsection y.part.kind) q ∙ s)
    ∙ omega arith
own_from b (p ∷ ps) (suc k) x e s = let i = own_from (after b p) ps k x e s in omega arith

-- A section's owner is its own row.
pub section_owner : (ps : List Part) (k : ℕ) (x : Placed) → get_elem? (placed after_header ps) k ≡ some x
    → is_subsection x.part.kind ≡ false → x.row.owner ≡ k
section_owner ps k x e s = own_from after_header ps k x e s ∙ omega arith

-- ---- the owner of a subsection

-- Up to row k every row stands for a subsection.
abbrev SubsTo : List Placed → ℕ → Type 0
SubsTo xs k = (j : ℕ) (z : Placed) → j ≤ k → get_elem? xs j ≡ some z → is_subsection z.part.kind ≡ true

-- Row m is the last section up to row k: it is a section, and after it up to row k every row stands for a subsection.
pub record LastSection (xs : List Placed) (m k : ℕ) : Type 0 where
  pub before : m < k
  pub section : (y : Placed) × (get_elem? xs m ≡ some y) × (is_subsection y.part.kind ≡ false)
  pub behind : (j : ℕ) (z : Placed) → m < j → j ≤ k → get_elem? xs j ≡ some z → is_subsection z.part.kind ≡ true

-- The owner of a subsection's row is the section before these rows, or the last section among them.
abbrev OwnerIs : ℕ → ℕ → List Placed → ℕ → Placed → Type 0
OwnerIs n o xs k x = ((x.row.owner ≡ o) × SubsTo xs k) ⊎ ((m : ℕ) × (x.row.owner ≡ n + m) × LastSection xs m k)

-- One row more in front.
owned_behind : (n w o : ℕ) (y : Placed) (xs : List Placed) (k : ℕ) (x : Placed) (b : Bool)
    → is_subsection y.part.kind ≡ b
    → elim b as (λ c. ℕ) [ true ↦ o | false ↦ n ] ≡ w → OwnerIs (suc n) w xs k x → OwnerIs n o (y ∷ xs) (suc k) x
owned_behind n w o y xs k x b s q (inr h) =
    inr (
      suc h.0,
      (let e = h.1 in omega arith),
      record {
        before = (let i = h.2.before in omega arith);
        section = h.2.section;
        behind = later h.0 h.2.behind;
      },
    )
  where
    later : (m : ℕ)
        → ((j : ℕ) (z : Placed) → m < j → j ≤ k → get_elem? xs j ≡ some z → is_subsection z.part.kind ≡ true)
        → (j : ℕ) (z : Placed) → suc m < j → j ≤ suc k → get_elem? (y ∷ xs) j ≡ some z
        → is_subsection z.part.kind ≡ true
    later m f zero z a c e = absurd (omega arith)
    later m f (suc j) z a c e = f j z (omega arith) (omega arith) e
owned_behind n w o y xs k x true s q (inl h) = inl (h.0 ∙ sym q, all)
  where
    all : (j : ℕ) (z : Placed) → j ≤ suc k → get_elem? (y ∷ xs) j ≡ some z → is_subsection z.part.kind ≡ true
    all zero z a e = ap (λ (v : Placed). is_subsection v.part.kind) (sym (some_inj e)) ∙ s
    all (suc j) z a e = h.1 j z (omega arith) e
owned_behind n w o y xs k x false s q (inl h) =
    inr (0, (let e = h.0 in omega arith), record { before = omega arith; section = (y, refl, s); behind = rest })
  where
    rest : (j : ℕ) (z : Placed) → 0 < j → j ≤ suc k → get_elem? (y ∷ xs) j ≡ some z → is_subsection z.part.kind ≡ true
    rest zero z a c e = absurd (omega arith)
    rest (suc j) z a c e = h.1 j z (omega arith) e

-- Where the first row stands for a subsection, so does every row up to it.
first_sub : (y : Placed) (xs : List Placed) → is_subsection y.part.kind ≡ true → SubsTo (y ∷ xs) 0
first_sub y xs s zero z a e = ap (λ (v : Placed). is_subsection v.part.kind) (sym (some_inj e)) ∙ s
first_sub y xs s (suc j) z a e = absurd (omega arith)

-- The owner of a subsection's row, for parts that stand after other rows.
owner_from : (b : Before) (ps : List Part) (k : ℕ) (x : Placed) → get_elem? (placed b ps) k ≡ some x
    → is_subsection x.part.kind ≡ true → OwnerIs b.rows b.section (placed b ps) k x
owner_from b [] k x e s = absurd (let z : ◌≡◌ {A = ℕ} 0 1 = cc in omega arith)
owner_from b (p ∷ ps) zero x e s =
    let q = some_inj e in
    let sub : is_subsection p.kind ≡ true = ap (λ (y : Placed). is_subsection y.part.kind) q ∙ s in
    inl (
      ap (λ (y : Placed). y.row.owner) (sym q) ∙ is_true (is_subsection p.kind) b.section b.rows sub,
      first_sub _ (placed (after b p) ps) sub,
    )
owner_from b (p ∷ ps) (suc k) x e s =
    owned_behind b.rows (owner_of b p) b.section _ (placed (after b p) ps) k x (is_subsection p.kind) refl refl
    (owner_from (after b p) ps k x e s)

-- A choice begins with no subsection.
opens : (k : ℕ) (ps : List Part) (x : Placed) → FitParts 0 ps → get_elem? (placed after_header ps) k ≡ some x
    → SubsTo (placed after_header ps) k → ⊥
opens k [] x f e h = let z : ◌≡◌ {A = ℕ} 0 1 = cc in omega arith
opens k (p ∷ ps) x f e h =
    let s : is_subsection p.kind ≡ true = h 0 _ (omega arith) refl in
    let i : section_id p.kind ≡ 0 = subst (λ (b : Bool). Owned b (section_id p.kind) 0) s f.0 in
    let j = section_id_pos p.kind in
    omega arith

-- A subsection's owner is the last section before it.
pub subsection_owner : (bs : List ℕ) (l : Legal bs) (k : ℕ) (x : Placed) → IsRow bs l k x
    → is_subsection x.part.kind ≡ true → LastSection (placed after_header l.parts) x.row.owner k
subsection_owner bs l k x e s = go (owner_from after_header ps k x e s)
  where
    ps : List Part
    ps = l.parts

    fit : FitParts 0 ps
    fit = let c = l.form.choice in fit_parts ps 0 c.fit c.joined l.form.parts

    go : OwnerIs 0 0 (placed after_header ps) k x → LastSection (placed after_header ps) x.row.owner k
    go (inl h) = absurd (opens k ps x fit e h.1)
    go (inr h) =
        let q : h.0 ≡ x.row.owner = (let i = h.1 in omega arith) in
        subst (λ (m : ℕ). LastSection (placed after_header ps) m k) q h.2

-- ---- a section's row covers those of its subsections

-- Subsections in front of parts reach no further than the front.
front_covers : (ps : List Part) (k : ℕ) (q : Part) → get_elem? ps k ≡ some q
    → ((j : ℕ) (r : Part) → j ≤ k → get_elem? ps j ≡ some r → is_subsection r.kind ≡ true)
    → sizes (take k ps) + size q ≤ sizes (front_subs ps)
front_covers [] k q e h = absurd (let z : ◌≡◌ {A = ℕ} 0 1 = cc in omega arith)
front_covers (p ∷ ps) zero q e h =
    let f = ap sizes (is_true (is_subsection p.kind) (p ∷ front_subs ps) [] (h 0 p (omega arith) refl)) in
    let s = ap size (some_inj e) in
    omega arith
front_covers (p ∷ ps) (suc k) q e h =
    let f = ap sizes (is_true (is_subsection p.kind) (p ∷ front_subs ps) [] (h 0 p (omega arith) refl)) in
    let i = front_covers ps k q e (λ j r a g. h (suc j) r (omega arith) g) in
    omega arith

-- A part after a section, with subsections between, ends within the section's subsections.
section_covers : (ps : List Part) (m k : ℕ) (p q : Part) → m < k → get_elem? ps m ≡ some p → get_elem? ps k ≡ some q
    → ((j : ℕ) (r : Part) → m < j → j ≤ k → get_elem? ps j ≡ some r → is_subsection r.kind ≡ true)
    → sizes (take k ps) + size q ≤ sizes (take m ps) + size p + sizes (front_subs (drop (suc m) ps))
section_covers [] m k p q l e f h = absurd (let z : ◌≡◌ {A = ℕ} 0 1 = cc in omega arith)
section_covers (v ∷ ps) m zero p q l e f h = absurd (omega arith)
section_covers (v ∷ ps) zero (suc k) p q l e f h =
    let s = ap size (some_inj e) in
    let i = front_covers ps k q f (λ j r a g. h (suc j) r (omega arith) (omega arith) g) in
    omega arith
section_covers (v ∷ ps) (suc m) (suc k) p q l e f h =
    let i = section_covers ps m k p q (omega arith) e f (λ j r a b g. h (suc j) r (omega arith) (omega arith) g) in
    omega arith

-- The row of a subsection lies in its owner's row, after the owner's own fields.
pub owner_covers : (bs : List ℕ) (l : Legal bs) (k : ℕ) (x y : Placed) → IsRow bs l k x
    → is_subsection x.part.kind ≡ true → IsRow bs l x.row.owner y
    → (y.row.offset + size y.part ≤ x.row.offset)
    × (x.row.offset + x.row.length ≤ y.row.offset + y.row.length)
owner_covers bs l k x y e s f =
    let o = subsection_owner bs l k x e s in
    let before = o.before in
    let m : ℕ = x.row.owner in
    let rx = row_of bs l k x e in
    let ry = row_of bs l m y f in
    let sec : is_subsection y.part.kind ≡ false =
    ap (λ (v : Placed). is_subsection v.part.kind) (some_inj (sym f ∙ o.section.1)) ∙ o.section.2 in
    let c = section_covers l.parts m k y.part x.part before ry.part rx.part
    (λ j r a b g.
    let n = there_lt l.parts j r g in
    let w = placed_count after_header l.parts in
    let t = there (placed after_header l.parts) j (omega arith) in
    let q : t.0.part ≡ r = some_inj (sym (row_of bs l j t.0 t.1).part ∙ g) in
    ap (λ (v : Part). is_subsection v.kind) (sym q) ∙ o.behind j t.0 a b t.1) in
    let r = rising 8 (length bs) (placed after_header l.parts) m k y x (rows_tile bs l) before f e in
    let lx = subsection_length bs l k x e s in
    let ly = section_length bs l m y f sec in
    let px = rx.place in
    let py = ry.place in
    (r, omega arith)

-- The owner of a row is its own row for a section, and for any row that of a section which covers it.
pub row_owner_is : (bs : List ℕ) (l : Legal bs) (k : ℕ) (x : Placed) → IsRow bs l k x
    → (is_subsection x.part.kind ≡ false → x.row.owner ≡ k)
    × ((y : Placed)
    × IsRow bs l x.row.owner y
    × (is_subsection y.part.kind ≡ false)
    × (y.row.offset ≤ x.row.offset)
    × (x.row.offset + x.row.length ≤ y.row.offset + y.row.length))
row_owner_is bs l k x e = (section_owner l.parts k x e, go (is_subsection x.part.kind) refl)
  where
    go : (b : Bool) → is_subsection x.part.kind ≡ b
        → (y : Placed)
        × IsRow bs l x.row.owner y
        × (is_subsection y.part.kind ≡ false)
        × (y.row.offset ≤ x.row.offset)
        × (x.row.offset + x.row.length ≤ y.row.offset + y.row.length)
    go true s =
        let y = (subsection_owner bs l k x e s).section in
        let c = owner_covers bs l k x y.0 e s y.1 in
        (y.0, y.1, y.2, (let h = c.0 in omega arith), c.1)
    go false s = (x, subst (λ (m : ℕ). IsRow bs l m x) (sym (section_owner l.parts k x e s)) e, s, omega arith, omega arith)
