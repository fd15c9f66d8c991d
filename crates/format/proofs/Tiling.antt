-- The rows tile a legal token: where each begins, the bytes that it stands for, its length and its owner.
use mathlib.Core.Path.{◌≡◌, refl, sym, ap, ap₂, ◌∙◌, subst}
use mathlib.Core.Bool.{Bool, true, false}
use mathlib.Core.List.{List, [], ◌∷◌, ◌++◌}
use mathlib.Core.Option.{some}
use Prim.Native.Nat.{ℕ, zero, suc, ◌+◌, ◌≤◌}
use native.Mathlib.Omega.{arith}
use lib.ListN.{length, take, drop, get_elem?, length-drop}
use lib.Seq.{take-append-add}
use Rattle.format.specs.Bytes.{bytes_at}
use Rattle.format.specs.Layout.{write}
use Rattle.format.specs.Parts.{section_id, is_subsection, kind_number, layout, Part, size, subsections_length, span}
use Rattle.format.specs.Parts.{write_parts}
use Rattle.format.specs.Rules.{front_subs}
use Rattle.format.specs.Legal.{Legal}
use Rattle.format.specs.Table.{Placed, Before, after_header, after, placed}
use Rattle.format.proofs.Fitting.{Fits}
use Rattle.format.proofs.Slots.{front_at}
use Rattle.format.proofs.Unique.{size_any, size_pos, written_length, FitParts, fit_parts}
use Rattle.format.proofs.Grouping.{is_true, is_false, span_sub, span_section, span_le}
use Rattle.format.proofs.Reaching.{sizes_written, sizes}
use Rattle.format.proofs.Elements.{some_inj}
use Rattle.format.specs.Claims.{Tiles, IsRow, subs_of}

-- ---- the rows lie one after another

-- The rows of parts end where the parts' bytes end.
placed_tile : (b : Before) (ps : List Part) (e : ℕ) → b.place + sizes ps ≡ e → Tiles b.place (placed b ps) e
placed_tile b [] e h = omega arith
placed_tile b (p ∷ ps) e h = (refl, placed_tile (after b p) ps e (omega arith))

-- After the header of a legal token stand its parts.
behind_eight : (bs : List ℕ) (l : Legal bs) → drop 8 bs ≡ write_parts l.parts
behind_eight bs l = ap (drop 8) (sym l.form.same)

-- A legal token is as long as its header and its parts.
token_length : (bs : List ℕ) (l : Legal bs) → length bs ≡ 8 + sizes l.parts
token_length bs l =
    let s = ap length l.form.same in
    let w = written_length l.id l.parts in
    let z = sizes_written l.parts in
    omega arith

-- The rows of a legal token tile it from byte 8 to its end.
pub rows_tile : (bs : List ℕ) (l : Legal bs) → Tiles 8 (placed after_header l.parts) (length bs)
rows_tile bs l = placed_tile after_header l.parts (length bs) (sym (token_length bs l))

-- ---- the bytes of a row

-- What is known of row number k of parts that stand from place `at` on: its part, its kind, its place and length, and
-- the bytes there.
pub record RowOf (at : ℕ) (bs : List ℕ) (ps : List Part) (k : ℕ) (x : Placed) : Type 0 where
  pub part : get_elem? ps k ≡ some x.part
  pub kind : x.row.kind ≡ kind_number x.part.kind
  pub place : x.row.offset ≡ at + sizes (take k ps)
  pub long : x.row.length ≡ span x.part (drop (suc k) ps)
  pub fits : Fits x.row.length [] (layout x.part.kind) x.part.fields
  pub bytes : drop x.row.offset bs
      ≡ write x.row.length (layout x.part.kind) x.part.fields ++ write_parts (drop (suc k) ps)

-- The rows of parts whose bytes stand from place `at` on.
row_from : (b : Before) (i : ℕ) (bs : List ℕ) (ps : List Part) (k : ℕ) (x : Placed) → FitParts i ps
    → drop b.place bs ≡ write_parts ps → get_elem? (placed b ps) k ≡ some x → RowOf b.place bs ps k x
row_from b i bs [] k x f e g = absurd (let z : ◌≡◌ {A = ℕ} 0 1 = cc in omega arith)
row_from b i bs (p ∷ ps) zero x f e g =
    subst (RowOf b.place bs (p ∷ ps) zero) (some_inj g)
    (record { part = refl; kind = refl; place = omega arith; long = refl; fits = f.1; bytes = e })
row_from b i bs (p ∷ ps) (suc k) x f e g =
    let a = write (span p ps) (layout p.kind) p.fields in
    let c = front_at bs b.place (size p) a (write_parts ps) (size_any (layout p.kind) (span p ps) 0 p.fields) e in
    let r = row_from (after b p) (section_id p.kind) bs ps k x f.2 c.1 g in
    let q = r.place in
    record { part = r.part; kind = r.kind; place = omega arith; long = r.long; fits = r.fits; bytes = r.bytes }

-- Every row of a legal token stands for its part, with the bytes that lie there.
pub row_of : (bs : List ℕ) (l : Legal bs) (k : ℕ) (x : Placed) → IsRow bs l k x → RowOf 8 bs l.parts k x
row_of bs l k x e =
    let c = l.form.choice in
    let f = fit_parts l.parts 0 c.fit c.joined l.form.parts in
    row_from after_header 0 bs l.parts k x f (behind_eight bs l) e

-- The subsections in front have the length that a section adds to its own.
front_sizes : (ps : List Part) → subsections_length ps ≡ sizes (front_subs ps)
front_sizes [] = refl
front_sizes (p ∷ ps) = go (is_subsection p.kind) (front_sizes ps)
  where
    go : (b : Bool) → subsections_length ps ≡ sizes (front_subs ps)
        → elim b as (λ c. ℕ) [ true ↦ size p + subsections_length ps | false ↦ 0 ]
        ≡ sizes (elim b as (λ c. List Part) [ true ↦ p ∷ front_subs ps | false ↦ [] ])
    go true i = omega arith
    go false i = refl

-- The subsections of the subsections in front are those in front.
front_twice : (ps : List Part) → subsections_length (front_subs ps) ≡ subsections_length ps
front_twice [] = refl
front_twice (p ∷ ps) = go (is_subsection p.kind) refl (front_twice ps)
  where
    go : (b : Bool) → is_subsection p.kind ≡ b → subsections_length (front_subs ps) ≡ subsections_length ps
        → subsections_length (elim b as (λ c. List Part) [ true ↦ p ∷ front_subs ps | false ↦ [] ])
        ≡ elim b as (λ c. ℕ) [ true ↦ size p + subsections_length ps | false ↦ 0 ]
    go true e i =
        is_true (is_subsection p.kind) (size p + subsections_length (front_subs ps)) 0 e ∙ ap (λ (n : ℕ). size p + n) i
    go false e i = refl

-- The bytes of the subsections in front begin the bytes of all parts.
front_bytes : (ps : List Part) → take (subsections_length ps) (write_parts ps) ≡ write_parts (front_subs ps)
front_bytes [] = refl
front_bytes (p ∷ ps) = go (is_subsection p.kind) refl (front_bytes ps)
  where
    go : (b : Bool) → is_subsection p.kind ≡ b
        → take (subsections_length ps) (write_parts ps) ≡ write_parts (front_subs ps)
        → take (elim b as (λ c. ℕ) [ true ↦ size p + subsections_length ps | false ↦ 0 ]) (write_parts (p ∷ ps))
        ≡ write_parts (elim b as (λ c. List Part) [ true ↦ p ∷ front_subs ps | false ↦ [] ])
    go false e i = refl
    go true e i =
        let a : List ℕ = write (span p ps) (layout p.kind) p.fields in
        let la : length a ≡ size p = size_any (layout p.kind) (span p ps) 0 p.fields in
        let s : span p ps ≡ span p (front_subs ps) = span_sub p ps e ∙ sym (span_sub p (front_subs ps) e) in
        ap (λ (n : ℕ). take (n + subsections_length ps) (a ++ write_parts ps)) (sym la)
        ∙ take-append-add a (write_parts ps) (subsections_length ps)
        ∙ ap₂ (λ (n : ℕ) (y : List ℕ). write n (layout p.kind) p.fields ++ y) s i

-- The bytes of a row: of a part and of its subsections, for a part that stands before other parts.
span_bytes : (p : Part) (ps : List Part) → take (span p ps) (write_parts (p ∷ ps)) ≡ write_parts (p ∷ subs_of p ps)
span_bytes p ps = go (is_subsection p.kind) refl
  where
    a : List ℕ
    a = write (span p ps) (layout p.kind) p.fields

    la : length a ≡ size p
    la = size_any (layout p.kind) (span p ps) 0 p.fields

    front : (n : ℕ) (us : List Part) → span p ps ≡ size p + n → take n (write_parts ps) ≡ write_parts us
        → span p ps ≡ span p us → take (span p ps) (write_parts (p ∷ ps)) ≡ write_parts (p ∷ us)
    front n us s w t =
        let m : span p ps ≡ length a + n = omega (arith, la) in
        ap (λ (j : ℕ). take j (a ++ write_parts ps)) m
        ∙ take-append-add a (write_parts ps) n
        ∙ ap₂ (λ (j : ℕ) (y : List ℕ). write j (layout p.kind) p.fields ++ y) t w

    go : (b : Bool) → is_subsection p.kind ≡ b → take (span p ps) (write_parts (p ∷ ps)) ≡ write_parts (p ∷ subs_of p ps)
    go true e =
        let s = span_sub p ps e in
        let u : subs_of p ps ≡ [] = is_true (is_subsection p.kind) [] (front_subs ps) e in
        front 0 [] (omega arith) refl (s ∙ sym (span_sub p [] e)) ∙ ap (λ (us : List Part). write_parts (p ∷ us)) (sym u)
    go false e =
        let u : subs_of p ps ≡ front_subs ps = is_false (is_subsection p.kind) [] (front_subs ps) e in
        let t = front_twice ps in
        let s = span_section p ps e in
        let v = span_section p (front_subs ps) e in
        front (subsections_length ps) (front_subs ps) s (front_bytes ps) (omega arith)
        ∙ ap (λ (us : List Part). write_parts (p ∷ us)) (sym u)

-- The bytes of a row in the token are the written form of its part and of that part's subsections.
pub row_bytes : (bs : List ℕ) (l : Legal bs) (k : ℕ) (x : Placed) → IsRow bs l k x
    → bytes_at bs x.row.offset x.row.length ≡ write_parts (x.part ∷ subs_of x.part (drop (suc k) l.parts))
unfolding bytes_at
row_bytes bs l k x e =
    let r = row_of bs l k x e in
    let ps : List Part = drop (suc k) l.parts in
    ap (take x.row.length) r.bytes
    ∙ ap (λ (n : ℕ). take n (write n (layout x.part.kind) x.part.fields ++ write_parts ps)) r.long
    ∙ span_bytes x.part ps

-- ---- the length of a row

-- The length of a subsection's row is its part's.
pub subsection_length : (bs : List ℕ) (l : Legal bs) (k : ℕ) (x : Placed) → IsRow bs l k x
    → is_subsection x.part.kind ≡ true → x.row.length ≡ size x.part
subsection_length bs l k x e s = (row_of bs l k x e).long ∙ span_sub x.part (drop (suc k) l.parts) s

-- The length of a section's row is its part's and its subsections'.
pub section_length : (bs : List ℕ) (l : Legal bs) (k : ℕ) (x : Placed) → IsRow bs l k x
    → is_subsection x.part.kind ≡ false
    → x.row.length ≡ size x.part + sizes (front_subs (drop (suc k) l.parts))
section_length bs l k x e s =
    (row_of bs l k x e).long
    ∙ span_section x.part (drop (suc k) l.parts) s
    ∙ ap (λ (n : ℕ). size x.part + n) (front_sizes (drop (suc k) l.parts))

-- Every row lies after the header and ends within the token; it has bytes of its own, four at least.
pub row_inside : (bs : List ℕ) (l : Legal bs) (k : ℕ) (x : Placed) → IsRow bs l k x
    → (8 ≤ x.row.offset) × (4 ≤ size x.part) × (size x.part ≤ x.row.length)
    × (x.row.offset + x.row.length ≤ length bs)
row_inside bs l k x e =
    let r = row_of bs l k x e in
    let p : Part = x.part in
    let ps : List Part = drop (suc k) l.parts in
    let at = r.place in
    let n = r.long in
    let four = size_pos p in
    let d = length-drop x.row.offset bs in
    let w : drop x.row.offset bs ≡ write_parts (p ∷ ps) =
    r.bytes ∙ ap (λ (m : ℕ). write m (layout p.kind) p.fields ++ write_parts ps) n in
    let v = ap length w in
    let m = span_le p ps in
    (omega arith, four, omega arith, omega arith)
