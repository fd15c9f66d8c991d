-- A part that is read is as long as its counts make it, and parts in a row as their sizes add up to; where 18 points.
use mathlib.Core.Bool.{Bool, true, false}
use mathlib.Core.List.{List, [], ◌∷◌, ◌++◌}
use mathlib.Core.Path.{◌≡◌, refl, sym, ap, ◌∙◌}
use mathlib.Core.Logic.{◌⊎◌, inl, inr, ⊎_elim}
use Prim.Native.Nat.{ℕ, ◌+◌, ◌≤◌, ◌<◌}
use native.Mathlib.Nat.{add-zero}
use native.Mathlib.Omega.{arith}
use lib.Dec.{leb}
use lib.ListN.{length, get_or, drop, length-append, length-replicate}
use borrow.Author.Tests.{leb-true}
use Rattle.format.specs.Bytes.{number, bytes_at}
use Rattle.format.specs.Layout.{Fields, Item, code, zeros, own, count, fixed, counted, write}
use Rattle.format.specs.Slots.{least, slots, fields_in, end_of}
use Rattle.format.proofs.Unique.{size_any}
use Rattle.format.proofs.Slots.{length_at, end_le}
use Rattle.format.specs.Parts.{public_key, rule, transport_variant, transport_rule, export_parameters, source_rule, name, information, protection, dates, application_data}
use Rattle.format.specs.Parts.{Kind, token_parameters, section_id, tag, body, is_subsection, layout, same_kind, Part, size, span, write_parts}
use Rattle.format.specs.Rules.{of_kind, mask_covers}
use Rattle.format.specs.Reading.{stated, made_length, part_in, place_of, mask_offset}
use Rattle.format.proofs.Numbers.{big_endian_length}
use Rattle.format.proofs.Finding.{every_kind}
use Rattle.format.proofs.PartForm.{frame_fields}

-- The written form of the fields in slots is as long as the slots reach, where their bytes are there.
reaches : (l : List Item) (t : ℕ) (ns r : List ℕ) (o : ℕ) → end_of o (slots ns l r o) ≤ length r
    → o + length (write t l (fields_in r (slots ns l r o))) ≡ end_of o (slots ns l r o)
reaches [] t ns r o h = omega arith
reaches (code w v ∷ l) t ns r o h = let i = reaches l t ns r (o + w) h in simp (length-append, big_endian_length) (omega arith)
reaches (zeros n q ∷ l) t ns r o h =
    let i = reaches l t ns r (o + n) h in let m = length-replicate {A = ℕ} n 0 in simp length-append (omega arith)
reaches (own w ∷ l) t ns r o h = let i = reaches l t ns r (o + w) h in simp (length-append, big_endian_length) (omega arith)
reaches (count w k ∷ l) t ns r o h =
    let i = reaches l t (ns ++ (number (bytes_at r o w) ∷ [])) r (o + w) h in
    simp (length-append, big_endian_length) (omega arith)
reaches (fixed n ∷ l) t ns r o h =
    let i = reaches l t ns r (o + n) h in
    let b = end_le l ns r (o + n) in
    let m = length_at r o n (omega arith) in
    simp length-append (omega arith)
reaches (counted c ∷ l) t ns r o h =
    let n : ℕ = get_or ns c 0 in
    let i = reaches l t ns r (o + n) h in
    let b = end_le l ns r (o + n) in
    let m = length_at r o n (omega arith) in
    simp length-append (omega arith)

-- A part that is read is as long as its counts make it.
pub part_size : (k : Kind) (r : List ℕ) → made_length k r ≤ length r → size (part_in k r) ≡ made_length k r
part_size k r h =
    let g = frame_fields (is_subsection k) (section_id k) (tag k) (body k) r in
    let i = reaches (layout k) 0 [] r 0 (rw g.1 h) in
    let j = rw (g.0, g.1) at i in
    omega arith

-- The bytes of parts, each without its subsections.
abbrev pub sizes : List Part → ℕ
sizes [] = 0
sizes (p ∷ ps) = size p + sizes ps

-- The bytes of parts in a row are as many as their sizes add up to.
pub sizes_written : (ps : List Part) → length (write_parts ps) ≡ sizes ps
sizes_written [] = refl
sizes_written (p ∷ ps) =
    let i = sizes_written ps in
    let n = size_any (layout p.kind) (span p ps) 0 p.fields in
    let l = length-append (write (span p ps) (layout p.kind) p.fields) (write_parts ps) in
    omega arith

-- One part more makes the bytes longer by its size.
pub sizes_last : (ps : List Part) (p : Part) → sizes (ps ++ p ∷ []) ≡ sizes ps + size p
sizes_last [] p = omega arith
sizes_last (q ∷ ps) p = let i = sizes_last ps p in omega arith

-- Without a 0005 no mask is asked.
pub mask_none : (us : List Part) → of_kind token_parameters us ≡ [] → mask_covers us ≡ true
mask_none us e = rw e

-- ---- where 18 points

wrong : {A : Type 0} → false ≡ true → A
wrong e = absurd (let v : ◌≡◌ {A = ℕ} 0 1 = cc in omega arith)

-- A 0005 has its m.
size_mask : (k : Kind) (fs : Fields) → same_kind token_parameters k ≡ true → mask_offset < size (record { kind = k; fields = fs })
size_mask token_parameters fs e = omega arith
size_mask public_key fs e = wrong e
size_mask rule fs e = wrong e
size_mask transport_variant fs e = wrong e
size_mask transport_rule fs e = wrong e
size_mask export_parameters fs e = wrong e
size_mask source_rule fs e = wrong e
size_mask name fs e = wrong e
size_mask information fs e = wrong e
size_mask protection fs e = wrong e
size_mask dates fs e = wrong e
size_mask application_data fs e = wrong e

-- Each of the parts, the first at a place of z, is as long as it states there.
abbrev pub States : List ℕ → ℕ → List Part → Type 0
States z at [] = Unit {0}
States z at (p ∷ ps) = (size p ≡ stated (drop at z)) × States z (at + size p) ps

pub states_last : (z : List ℕ) (at : ℕ) (ps : List Part) (p : Part) → States z at ps → size p ≡ stated (drop (at + sizes ps) z) → States z at (ps ++ p ∷ [])
states_last z at [] p s e = (e ∙ ap (λ (n : ℕ). stated (drop n z)) (add-zero at), tt)
states_last z at (q ∷ ps) p s e =
    let n : at + (size q + sizes ps) ≡ at + size q + sizes ps = omega arith in
    (s.0, states_last z (at + size q) ps p s.1 (e ∙ ap (λ (n : ℕ). stated (drop n z)) n))

-- The m of the first 0005 lies in it, and before the end of the parts.
abbrev MaskThere : List ℕ → ℕ → ℕ → Type 0
MaskThere z at e = (mask_offset < stated (drop at z)) × (at + mask_offset < e)

mask_place : (z : List ℕ) (at : ℕ) (ps : List Part) → States z at ps
    → MaskThere z (place_of token_parameters at ps) (at + sizes ps) ⊎ (of_kind token_parameters ps ≡ [])
mask_place z at [] s = inr refl
mask_place z at (p ∷ ps) s = go (same_kind token_parameters p.kind) refl (mask_place z (at + size p) ps s.1)
  where
    go : (b : Bool) → same_kind token_parameters p.kind ≡ b
        → MaskThere z (place_of token_parameters (at + size p) ps) (at + size p + sizes ps) ⊎ (of_kind token_parameters ps ≡ [])
        → MaskThere z (elim b as (λ c. ℕ) [ true ↦ at | false ↦ place_of token_parameters (at + size p) ps ]) (at + (size p + sizes ps))
        ⊎ (◌≡◌ {A = List Part} (elim b as (λ c. List Part) [ true ↦ p ∷ of_kind token_parameters ps | false ↦ of_kind token_parameters ps ]) [])
    go true e i = let m = size_mask p.kind p.fields e in let l = s.0 in inl (omega arith, omega arith)
    go false e i = ⊎_elim (λ h. let m = h.1 in inl (h.0, omega arith)) (λ h. inr h) i

pub mask_there : (z : List ℕ) (at : ℕ) (us : List Part) → States z at us → mask_covers us ≡ false
    → MaskThere z (place_of token_parameters at us) (at + sizes us)
mask_there z at us s e = ⊎_elim (λ h. h) (λ h. wrong (sym e ∙ mask_none us h)) (mask_place z at us s)

-- Every kind has bytes of its own.
pub least_pos : (k : Kind) → 1 ≤ least (layout k)
least_pos k = leb-true 1 (least (layout k)) (every_kind (λ j. leb 1 (least (layout j))) refl k)
