-- The beginnings of a choice: written forms as they grow, and that the rules but those of refusal 20 hold of every
-- beginning of a list of parts that keeps them.
use mathlib.Core.Path.{◌≡◌, refl, ap, subst}
use mathlib.Core.Bool.{Bool, true, false, not, ◌||◌}
use mathlib.Core.List.{List, [], ◌∷◌, ◌++◌, map}
use Prim.Native.Nat.{ℕ, ◌+◌, ◌≤◌, ◌<◌}
use native.Mathlib.Omega.{arith}
use lib.Dec.{eqb, leb}
use lib.ListN.{length, get_or, drop, replicate}
use Rattle.format.specs.Bytes.{All, every, Bytes, big_endian, number}
use Rattle.format.specs.Layout.{Item, code, zeros, own, count, fixed, counted, Fields, write, fits}
use Rattle.format.specs.Parts.{Kind, export_parameters, token_parameters, section_id, same_kind, is_subsection, layout, header, Part, size, span, write_parts, written, joins, Choice}
use Rattle.format.specs.Rules.{checks, Section, front_subs, sections_of, of_kind, may_both_stand, other_kind, mask_covers}
use Rattle.format.specs.Parts.{external}
use Rattle.format.specs.Legal.{Pairwise, Lawful}
use Rattle.format.proofs.Numbers.{bytes_append, bytes_big_endian, bytes_zeros}
use Rattle.format.proofs.Finding.{and_split, and_join, or_map}
use Rattle.format.proofs.Tests.{Kept}
use Rattle.format.proofs.Unique.{written_length}
use Rattle.format.proofs.Reaching.{sizes, sizes_written}
use Rattle.format.proofs.Grouping.{all_split}

-- ---- bytes and lengths

-- The first field of bytes, and those after it.
first_bytes : (fs : Fields) → All Bytes fs → Bytes (get_or fs 0 []) × All Bytes (drop 1 fs)
first_bytes [] h = (tt, tt)
first_bytes (f ∷ fs) h = (h.0, h.1)

-- What is written from bytes is bytes.
write_bytes : (l : List Item) (t : ℕ) (fs : Fields) → All Bytes fs → Bytes (write t l fs)
write_bytes [] t fs h = tt
write_bytes (code w v ∷ l) t fs h = bytes_append (big_endian w v) (write t l fs) (bytes_big_endian w v) (write_bytes l t fs h)
write_bytes (zeros n q ∷ l) t fs h = bytes_append (replicate n 0) (write t l fs) (bytes_zeros n) (write_bytes l t fs h)
write_bytes (own w ∷ l) t fs h = bytes_append (big_endian w t) (write t l fs) (bytes_big_endian w t) (write_bytes l t fs h)
write_bytes (count w k ∷ l) t fs h =
    let n : ℕ = length (get_or fs k []) in
    bytes_append (big_endian w n) (write t l fs) (bytes_big_endian w n) (write_bytes l t fs h)
write_bytes (fixed n ∷ l) t fs h =
    let f = first_bytes fs h in
    bytes_append (get_or fs 0 []) (write t l (drop 1 fs)) f.0 (write_bytes l t (drop 1 fs) f.1)
write_bytes (counted c ∷ l) t fs h =
    let f = first_bytes fs h in
    bytes_append (get_or fs 0 []) (write t l (drop 1 fs)) f.0 (write_bytes l t (drop 1 fs) f.1)

parts_bytes : (ps : List Part) → All (λ (p : Part). All Bytes p.fields) ps → Bytes (write_parts ps)
parts_bytes [] h = tt
parts_bytes (p ∷ ps) h =
    bytes_append (write (span p ps) (layout p.kind) p.fields) (write_parts ps)
    (write_bytes (layout p.kind) (span p ps) p.fields h.0) (parts_bytes ps h.1)

pub written_bytes : (i : ℕ) (ps : List Part) → i < 256 → All (λ (p : Part). All Bytes p.fields) ps → Bytes (written i ps)
written_bytes i ps h b =
    bytes_append (write (8 + length (write_parts ps)) header ((i ∷ []) ∷ [])) (write_parts ps)
    (write_bytes header (8 + length (write_parts ps)) ((i ∷ []) ∷ []) ((h, tt), tt)) (parts_bytes ps b)

-- Sizes of two lists.
sizes_join : (ps qs : List Part) → sizes (ps ++ qs) ≡ sizes ps + sizes qs
sizes_join [] qs = omega arith
sizes_join (p ∷ ps) qs = let i = sizes_join ps qs in omega arith

-- One part more makes the written form longer by its size.
pub written_more : (i : ℕ) (ps : List Part) (p : Part) → length (written i (ps ++ p ∷ [])) ≡ length (written i ps) + size p
written_more i ps p =
    let a = written_length i (ps ++ p ∷ []) in
    let b = written_length i ps in
    let c = sizes_written (ps ++ p ∷ []) in
    let d = sizes_written ps in
    let e = sizes_join ps (p ∷ []) in
    omega arith

-- A beginning is no longer than the whole.
pub beginning_le : (i : ℕ) (ps qs : List Part) → length (written i ps) ≤ length (written i (ps ++ qs))
beginning_le i ps qs =
    let a = written_length i (ps ++ qs) in
    let b = written_length i ps in
    let c = sizes_written (ps ++ qs) in
    let d = sizes_written ps in
    let e = sizes_join ps qs in
    omega arith

-- ---- rules of beginnings

-- A beginning joins as the whole does.
joins_front : (o : ℕ) (ps qs : List Part) → joins o (ps ++ qs) ≡ true → joins o ps ≡ true
joins_front o [] qs e = refl
joins_front o (p ∷ ps) qs e =
    let s = and_split (not (is_subsection p.kind) || eqb (section_id p.kind) o) (joins (section_id p.kind) (ps ++ qs)) e in
    and_join _ _ s.0 (joins_front (section_id p.kind) ps qs s.1)

pub choice_front : (i : ℕ) (ps qs : List Part) → Choice i (ps ++ qs) → Choice i ps
choice_front i ps qs c = record {
  identifier = c.identifier;
  bytes = (all_split (λ (p : Part). All Bytes p.fields) ps qs c.bytes).0;
  fit = (all_split (λ (p : Part). fits [] (layout p.kind) p.fields ≡ true) ps qs c.fit).0;
  joined = joins_front 0 ps qs c.joined;
}

-- The front of a list in which any two pass a test.
pairwise_front : {A : Type 0} (f : A → A → Bool) (xs ys : List A) → Pairwise f (xs ++ ys) → Pairwise f xs
pairwise_front f [] ys h = tt
pairwise_front f (x ∷ xs) ys h = ((all_split (λ y. f x y ≡ true) xs ys h.0).0, pairwise_front f xs ys h.1)

-- A choice between two lists of parts.
abbrev pick : Bool → List Part → List Part → List Part
pick b us vs = elim b [ true ↦ us | false ↦ vs ]

-- The subsections in front of a beginning begin those in front of the whole.
front_cons : (b : Bool) (p : Part) (us ws vs : List Part) → ws ≡ us ++ vs → pick b (p ∷ ws) [] ≡ pick b (p ∷ us) [] ++ pick b vs []
front_cons true p us ws vs e = ap (λ (y : List Part). p ∷ y) e
front_cons false p us ws vs e = refl

fronts : (ps qs : List Part) → (vs : List Part) × (front_subs (ps ++ qs) ≡ front_subs ps ++ vs)
fronts [] qs = (front_subs qs, refl)
fronts (p ∷ ps) qs =
    let i = fronts ps qs in
    (pick (is_subsection p.kind) i.0 [], front_cons (is_subsection p.kind) p (front_subs ps) (front_subs (ps ++ qs)) i.0 i.1)

-- What holds of a section's subsections, and of every beginning of them, holds of the sections of a beginning.
module _ (P : List Part → Type 0) (front : (us vs : List Part) → P (us ++ vs) → P us) where
  sections_cons : (p : Part) (ps qs : List Part) (b : Bool)
      → (All (λ (s : Section). P s.subs) (sections_of (ps ++ qs)) → All (λ (s : Section). P s.subs) (sections_of ps))
      → All (λ (s : Section). P s.subs)
      (elim b as (λ c. List Section) [ true ↦ sections_of (ps ++ qs) | false ↦ record { head = p; subs = front_subs (ps ++ qs) } ∷ sections_of (ps ++ qs) ])
      → All (λ (s : Section). P s.subs)
      (elim b as (λ c. List Section) [ true ↦ sections_of ps | false ↦ record { head = p; subs = front_subs ps } ∷ sections_of ps ])
  sections_cons p ps qs true ih h = ih h
  sections_cons p ps qs false ih h =
      let f = fronts ps qs in
      (front (front_subs ps) f.0 (subst P f.1 h.0), ih h.1)

  sections_front : (ps qs : List Part) → All (λ (s : Section). P s.subs) (sections_of (ps ++ qs))
      → All (λ (s : Section). P s.subs) (sections_of ps)
  sections_front [] qs h = tt
  sections_front (p ∷ ps) qs h = sections_cons p ps qs (is_subsection p.kind) (λ k. sections_front ps qs k) h

-- Of two sections only the heads matter.
abbrev heads : List Section → List Part
heads ss = map (λ s. s.head) ss

abbrev may_heads : Part → Part → Bool
may_heads p q = may_both_stand (record { head = p; subs = [] }) (record { head = q; subs = [] })

may_heads_is : (s : Section) (ss : List Section) → All (λ t. may_both_stand s t ≡ true) ss → All (λ q. may_heads s.head q ≡ true) (heads ss)
may_heads_is s [] h = tt
may_heads_is s (t ∷ ss) h = (h.0, may_heads_is s ss h.1)

heads_may : (s : Section) (ss : List Section) → All (λ q. may_heads s.head q ≡ true) (heads ss) → All (λ t. may_both_stand s t ≡ true) ss
heads_may s [] h = tt
heads_may s (t ∷ ss) h = (h.0, heads_may s ss h.1)

to_heads : (ss : List Section) → Pairwise may_both_stand ss → Pairwise may_heads (heads ss)
to_heads [] h = tt
to_heads (s ∷ ss) h = (may_heads_is s ss h.0, to_heads ss h.1)

from_heads : (ss : List Section) → Pairwise may_heads (heads ss) → Pairwise may_both_stand ss
from_heads [] h = tt
from_heads (s ∷ ss) h = (heads_may s ss h.0, from_heads ss h.1)

heads_join : (ps qs : List Part) → heads (sections_of (ps ++ qs)) ≡ heads (sections_of ps) ++ heads (sections_of qs)
heads_join [] qs = refl
heads_join (p ∷ ps) qs = go (is_subsection p.kind) (heads_join ps qs)
  where
    go : (b : Bool) → heads (sections_of (ps ++ qs)) ≡ heads (sections_of ps) ++ heads (sections_of qs)
        → heads (elim b as (λ c. List Section) [ true ↦ sections_of (ps ++ qs) | false ↦ record { head = p; subs = front_subs (ps ++ qs) } ∷ sections_of (ps ++ qs) ])
        ≡ heads (elim b as (λ c. List Section) [ true ↦ sections_of ps | false ↦ record { head = p; subs = front_subs ps } ∷ sections_of ps ]) ++ heads (sections_of qs)
    go true e = e
    go false e = ap (λ (y : List Part). p ∷ y) e

-- Fewer subsections stand in fewer relations.
every_front : (f : Part → Bool) (us vs : List Part) → every f (us ++ vs) ≡ true → every f us ≡ true
every_front f [] vs e = refl
every_front f (u ∷ us) vs e = let s = and_split (f u) (every f (us ++ vs)) e in and_join _ _ s.0 (every_front f us vs s.1)

-- The parts of a kind in two lists, one after the other.
pub kind_join : (k : Kind) (us vs : List Part) → of_kind k (us ++ vs) ≡ of_kind k us ++ of_kind k vs
kind_join k [] vs = refl
kind_join k (u ∷ us) vs = go (same_kind k u.kind) (kind_join k us vs)
  where
    go : (b : Bool) → of_kind k (us ++ vs) ≡ of_kind k us ++ of_kind k vs
        → elim b as (λ c. List Part) [ true ↦ u ∷ of_kind k (us ++ vs) | false ↦ of_kind k (us ++ vs) ]
        ≡ elim b as (λ c. List Part) [ true ↦ u ∷ of_kind k us | false ↦ of_kind k us ] ++ of_kind k vs
    go true e = ap (λ (y : List Part). u ∷ y) e
    go false e = e

every_map : (f g : Part → Bool) → ((p : Part) → f p ≡ true → g p ≡ true) → (us : List Part) → every f us ≡ true → every g us ≡ true
every_map f g h [] e = refl
every_map f g h (u ∷ us) e = let s = and_split (f u) (every f us) e in and_join _ _ (h u s.0) (every_map f g h us s.1)

mask_front : (us vs : List Part) → mask_covers (us ++ vs) ≡ true → mask_covers us ≡ true
mask_front us vs e =
    let covers : List Part → Part → Part → Bool = λ ws p q. leb (number (get_or q.fields 0 [])) (length (get_or p.fields 0 [])) in
    let a = rw (kind_join token_parameters us vs) at e in
    every_map _ _
    (λ p h. or_map (eqb (length (get_or p.fields 0 [])) 0) _ _
    (λ k. every_front (covers us p) (of_kind export_parameters us) (of_kind export_parameters vs) (rw (kind_join export_parameters us vs) at k)) h)
    (of_kind token_parameters us) (every_front _ (of_kind token_parameters us) (of_kind token_parameters vs) a)

-- A beginning of parts that keep the rules but those of refusal 20 keeps them.
pub lawful_front : (i : ℕ) (ps qs : List Part) → Lawful i (ps ++ qs) → Lawful i ps
lawful_front i ps qs l = record {
  identifier = l.identifier;
  fields = (all_split (λ (p : Part). Kept (checks (external i) p.kind p.fields)) ps qs l.fields).0;
  sections = from_heads (sections_of ps)
      (pairwise_front may_heads (heads (sections_of ps)) (heads (sections_of qs)) (rw (heads_join ps qs) at (to_heads (sections_of (ps ++ qs)) l.sections)));
  tags = sections_front (λ us. Pairwise other_kind us) (λ us vs h. pairwise_front other_kind us vs h) ps qs l.tags;
  masks = sections_front (λ us. mask_covers us ≡ true) (λ us vs h. mask_front us vs h) ps qs l.masks;
}
