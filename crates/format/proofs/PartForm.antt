-- A part in bytes: what its tests say is that it is written so, and a written part passes them.
use mathlib.Core.Path.{◌≡◌, refl, sym, ap, ◌∙◌, subst}
use mathlib.Core.Bool.{Bool, true, false}
use mathlib.Core.List.{List, [], ◌∷◌, ◌++◌}
use Prim.Native.Nat.{ℕ, ◌+◌, ◌≤◌}
use native.Mathlib.Omega.{arith}
use lib.ListN.{length, get_or, drop}
use Rattle.format.specs.Bytes.{Bytes, number, bytes_at, all_zero}
use Rattle.format.specs.Layout.{Item, code, zeros, own, count, fixed, counted, Fields, write}
use Rattle.format.specs.Slots.{slots, fields_in, end_of}
use Rattle.format.specs.Parts.{Kind, section_id, tag, body, is_subsection, frame, layout, Part, size}
use Rattle.format.specs.Reading.{frame_length, id_of, stated, body_slots, made_length, part_in, zero_checks}
use Rattle.format.proofs.Finding.{every_kind}
use Rattle.format.proofs.Fitting.{Fits}
use Rattle.format.proofs.Slots.{Laid, sound, laid_written, written_laid}
use Rattle.format.proofs.Tests.{Hold}
use Rattle.format.proofs.Unique.{size_any}

-- A layout after the frame: no code and no own length in it.
abbrev pub plain : List Item → Bool
plain [] = true
plain (code w v ∷ l) = false
plain (zeros n q ∷ l) = plain l
plain (own w ∷ l) = false
plain (count w k ∷ l) = plain l
plain (fixed n ∷ l) = plain l
plain (counted s ∷ l) = plain l

-- The tests of what is always 0 say that the slots hold what they must.
zeros_laid : (l : List Item) (t : ℕ) (ns r : List ℕ) (o : ℕ) → plain l ≡ true → Hold (zero_checks r (slots ns l r o))
    → Laid t r (slots ns l r o)
zeros_laid [] t ns r o p h = tt
zeros_laid (code w v ∷ l) t ns r o p h = absurd (let z : ◌≡◌ {A = ℕ} 0 1 = cc in omega arith)
zeros_laid (zeros n q ∷ l) t ns r o p h = (h.0, zeros_laid l t ns r (o + n) p h.1)
zeros_laid (own w ∷ l) t ns r o p h = absurd (let z : ◌≡◌ {A = ℕ} 0 1 = cc in omega arith)
zeros_laid (count w k ∷ l) t ns r o p h = (tt, zeros_laid l t _ r (o + w) p h)
zeros_laid (fixed n ∷ l) t ns r o p h = (tt, zeros_laid l t ns r (o + n) p h)
zeros_laid (counted s ∷ l) t ns r o p h = (tt, zeros_laid l t ns r (o + get_or ns s 0) p h)

-- Slots that hold what they must pass these tests.
laid_zeros : (l : List Item) (t : ℕ) (ns r : List ℕ) (o : ℕ) → Laid t r (slots ns l r o) → Hold (zero_checks r (slots ns l r o))
laid_zeros [] t ns r o d = tt
laid_zeros (code w v ∷ l) t ns r o d = laid_zeros l t ns r (o + w) d.1
laid_zeros (zeros n q ∷ l) t ns r o d = (d.0, laid_zeros l t ns r (o + n) d.1)
laid_zeros (own w ∷ l) t ns r o d = laid_zeros l t ns r (o + w) d.1
laid_zeros (count w k ∷ l) t ns r o d = laid_zeros l t _ r (o + w) d.1
laid_zeros (fixed n ∷ l) t ns r o d = laid_zeros l t ns r (o + n) d.1
laid_zeros (counted s ∷ l) t ns r o d = laid_zeros l t ns r (o + get_or ns s 0) d.1

-- Every kind's layout is sound, and its body plain.
layout_sound : (k : Kind) → sound 0 (layout k) ≡ true
layout_sound k = every_kind (λ j. sound 0 (layout j)) refl k

pub body_plain : (k : Kind) → plain (body k) ≡ true
body_plain k = every_kind (λ j. plain (body j)) refl k

-- ---- the frame

-- What a part's frame says: id or tag, version 0, and the length t.
abbrev pub Framed : Bool → ℕ → ℕ → ℕ → List ℕ → Type 0
Framed false i g t r = (id_of r ≡ i) × (all_zero (bytes_at r 1 1) ≡ true) × (stated r ≡ t)
Framed true i g t r = (number (bytes_at r 0 2) ≡ g) × (all_zero (bytes_at r 4 1) ≡ true) × (stated r ≡ t)

abbrev frame_long : Bool → ℕ
frame_long b = elim b as (λ x. ℕ) [ false ↦ 4 | true ↦ 5 ]

frame_laid : (b : Bool) (i g t : ℕ) (l : List Item) (r : List ℕ) → Framed b i g t r → Laid t r (slots [] l r (frame_long b))
    → Laid t r (slots [] (frame b i g ++ l) r 0)
frame_laid false i g t l r f d = (f.0, (f.1, (f.2, d)))
frame_laid true i g t l r f d = (f.0, (f.2, (f.1, d)))

laid_frame : (b : Bool) (i g t : ℕ) (l : List Item) (r : List ℕ) → Laid t r (slots [] (frame b i g ++ l) r 0)
    → Framed b i g t r × Laid t r (slots [] l r (frame_long b))
laid_frame false i g t l r d = ((d.0, d.1.0, d.1.1.0), d.1.1.1)
laid_frame true i g t l r d = ((d.0, d.1.1.0, d.1.0), d.1.1.1)

pub frame_fields : (b : Bool) (i g : ℕ) (l : List Item) (r : List ℕ)
    → (fields_in r (slots [] (frame b i g ++ l) r 0) ≡ fields_in r (slots [] l r (frame_long b)))
    × (end_of 0 (slots [] (frame b i g ++ l) r 0) ≡ end_of (frame_long b) (slots [] l r (frame_long b)))
frame_fields false i g l r = (refl, refl)
frame_fields true i g l r = (refl, refl)

-- ---- the whole part

-- Bytes that pass the tests of a part of t bytes are its written form, and what follows; the fields fit.
pub part_written : (k : Kind) (t : ℕ) (r : List ℕ) → Bytes r → Framed (is_subsection k) (section_id k) (tag k) t r
    → Hold (zero_checks r (body_slots k r)) → made_length k r ≤ length r
    → Fits t [] (layout k) (part_in k r).fields
    × (write t (layout k) (part_in k r).fields ++ drop (made_length k r) r ≡ r)
part_written k t r b f h e =
    let g = frame_fields (is_subsection k) (section_id k) (tag k) (body k) r in
    let z = zeros_laid (body k) t [] r (frame_length k) (body_plain k) h in
    let d = frame_laid (is_subsection k) (section_id k) (tag k) t (body k) r f z in
    let w = laid_written (layout k) t [] r 0 (layout_sound k) b (rw g.1 e) d in
    subst
    (λ (fs : Fields). Fits t [] (layout k) fs × (write t (layout k) fs ++ drop (made_length k r) r ≡ r))
    g.0
    (w.0, rw g.1 at w.1)

-- What is written as a part of t bytes reads back: its frame, its fields, its length.
pub part_read : (p : Part) (t : ℕ) (r z : List ℕ) → Fits t [] (layout p.kind) p.fields
    → r ≡ write t (layout p.kind) p.fields ++ z
    → Framed (is_subsection p.kind) (section_id p.kind) (tag p.kind) t r
    × Hold (zero_checks r (body_slots p.kind r))
    × (part_in p.kind r ≡ p)
    × (made_length p.kind r ≡ size p)
part_read p t r z f e =
    let k : Kind = p.kind in
    let g = frame_fields (is_subsection k) (section_id k) (tag k) (body k) r in
    let i = written_laid (layout k) t [] p.fields r 0 z f e in
    let l = laid_frame (is_subsection k) (section_id k) (tag k) t (body k) r i.0 in
    let n : 0 + length (write t (layout k) p.fields) ≡ length (write t (layout k) p.fields) = omega arith in (
      l.0,
      laid_zeros (body k) t [] r (frame_length k) l.1,
      ap {B = Part} (λ (fs : Fields). record { kind = k; fields = fs }) (sym g.0 ∙ i.1),
      sym g.1 ∙ i.2 ∙ n ∙ size_any (layout k) t 0 p.fields,
    )
