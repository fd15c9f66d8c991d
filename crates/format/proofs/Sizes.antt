-- The bytes that parts take at the least.
use mathlib.Core.Path.{◌≡◌, refl, sym, ap, ◌∙◌}
use mathlib.Core.Bool.{Bool, true, false, not, ◌&&◌, ◌||◌}
use mathlib.Core.List.{List, [], ◌∷◌, ◌++◌}
use Prim.Native.Nat.{ℕ, ◌+◌, ◌≤◌}
use native.Mathlib.Omega.{arith}
use lib.Dec.{eqb, lit<}
use lib.ListN.{length, get_or, length-append}
use Rattle.format.specs.Bytes.{All, number}
use Rattle.format.specs.Layout.{fits, write}
use Rattle.format.specs.Slots.{least}
use Rattle.format.specs.Parts.{Kind, rule, export_parameters, information, protection, same_kind, layout, Part, size, span, write_parts}
use Rattle.format.specs.Rules.{Section, has, has_required}
use Rattle.format.specs.Reading.{kind_before, parts_of}
use Rattle.format.proofs.Finding.{and_split, or_right, or_map, same_kind_eq}
use Rattle.format.proofs.Fitting.{part_fits}
use Rattle.format.proofs.Unique.{size_any}
use Rattle.format.proofs.Complete.{least_le}
use Rattle.format.proofs.Flat.{has_later}

-- Every part fits its layout.
abbrev AllFit : List Part → Type 0
AllFit ps = All (λ (p : Part). fits [] (layout p.kind) p.fields ≡ true) ps

-- A part that fits takes at least its plain number of bytes.
size_least : (p : Part) → fits [] (layout p.kind) p.fields ≡ true → least (layout p.kind) ≤ size p
size_least p f = least_le (layout p.kind) 0 [] p.fields (part_fits p.kind 0 p.fields (lit< tt) f)

-- The plain numbers of parts, added up.
abbrev pub least_of : List Part → ℕ
least_of [] = 0
least_of (p ∷ ps) = least (layout p.kind) + least_of ps

-- Parts take at least as many bytes.
pub parts_least : (ps : List Part) → AllFit ps → least_of ps ≤ length (write_parts ps)
parts_least [] f = omega arith
parts_least (p ∷ ps) f =
    let i = parts_least ps f.1 in
    let s = size_least p f.0 in
    let n = size_any (layout p.kind) (span p ps) 0 p.fields in
    let l = length-append (write (span p ps) (layout p.kind) p.fields) (write_parts ps) in
    omega arith

-- A kind that is among the parts is counted with its plain number.
one_kind : (k : Kind) (ps : List Part) → has k ps ≡ true → least (layout k) ≤ least_of ps
one_kind k [] e = absurd (let z : ◌≡◌ {A = ℕ} 0 1 = cc in omega arith)
one_kind k (p ∷ ps) e = go (same_kind k p.kind) refl (λ h. one_kind k ps h)
  where
    go : (b : Bool) → same_kind k p.kind ≡ b → (has k ps ≡ true → least (layout k) ≤ least_of ps) → least (layout k) ≤ least_of (p ∷ ps)
    go true q ih = let s : least (layout k) ≡ least (layout p.kind) = ap (λ (j : Kind). least (layout j)) (same_kind_eq k p.kind q) in omega arith
    go false q ih = let i = ih (sym (ap (λ (v : Bool). v || has k ps) q) ∙ e) in omega arith

-- Two kinds that are among the parts are counted with both numbers.
two_kinds : (j k : Kind) (ps : List Part) → same_kind j k ≡ false → same_kind k j ≡ false → has j ps ≡ true → has k ps ≡ true
    → least (layout j) + least (layout k) ≤ least_of ps
two_kinds j k [] d d' e f = absurd (let z : ◌≡◌ {A = ℕ} 0 1 = cc in omega arith)
two_kinds j k (p ∷ ps) d d' e f = go (same_kind j p.kind) (same_kind k p.kind) refl refl (λ a b. two_kinds j k ps d d' a b)
  where
    size_is : (i : Kind) → same_kind i p.kind ≡ true → least (layout i) ≡ least (layout p.kind)
    size_is i q = ap (λ (y : Kind). least (layout y)) (same_kind_eq i p.kind q)

    later : (i : Kind) → same_kind i p.kind ≡ false → has i (p ∷ ps) ≡ true → has i ps ≡ true
    later i q h = sym (ap (λ (v : Bool). v || has i ps) q) ∙ h

    go : (b c : Bool) → same_kind j p.kind ≡ b → same_kind k p.kind ≡ c
        → (has j ps ≡ true → has k ps ≡ true → least (layout j) + least (layout k) ≤ least_of ps)
        → least (layout j) + least (layout k) ≤ least_of (p ∷ ps)
    go true true q r ih =
        absurd (let z : true ≡ false = sym q ∙ ap (same_kind j) (sym (same_kind_eq k p.kind r)) ∙ d in let y : ◌≡◌ {A = ℕ} 0 1 = cc in omega arith)
    go true false q r ih = let s = size_is j q in let i = one_kind k ps (later k r f) in omega arith
    go false true q r ih = let s = size_is k r in let i = one_kind j ps (later j q e) in omega arith
    go false false q r ih = let i = ih (later j q e) (later k r f) in omega arith

-- ---- the required parts

has_front : (k : Kind) (us ps : List Part) → has k us ≡ true → has k (us ++ ps) ≡ true
has_front k [] ps e = absurd (let z : ◌≡◌ {A = ℕ} 0 1 = cc in omega arith)
has_front k (u ∷ us) ps e = or_map (same_kind k u.kind) _ _ (λ h. has_front k us ps h) e

-- What is required of a section, for section 14.
required : (s : Section) → has_required s ≡ true → (not (same_kind information s.head.kind) || has protection s.subs) ≡ true
required s e =
    (and_split
    (not (same_kind rule s.head.kind && eqb (number (get_or s.head.fields 1 [])) 1) || has export_parameters s.subs)
    (not (same_kind information s.head.kind) || has protection s.subs)
    e).1

-- Sections with section 14, in which what is required is there, have its 0001.
pub has_protection : (ss : List Section) → All (λ (s : Section). has_required s ≡ true) ss → kind_before information ss ≡ true
    → has protection (parts_of ss) ≡ true
has_protection [] r e = absurd (let z : ◌≡◌ {A = ℕ} 0 1 = cc in omega arith)
has_protection (s ∷ ss) r e = go (same_kind information s.head.kind) refl (λ h. has_protection ss r.1 h)
  where
    go : (b : Bool) → same_kind information s.head.kind ≡ b
        → (kind_before information ss ≡ true → has protection (parts_of ss) ≡ true) → has protection (parts_of (s ∷ ss)) ≡ true
    go true q ih =
        let p : has protection s.subs ≡ true = sym (ap (λ (v : Bool). not v || has protection s.subs) q) ∙ required s r.0 in
        or_right (same_kind protection s.head.kind) _ (has_front protection s.subs (parts_of ss) p)
    go false q ih =
        or_right (same_kind protection s.head.kind) _
        (has_later protection s.subs (parts_of ss) (ih (sym (ap (λ (v : Bool). v || kind_before information ss) q) ∙ e)))

-- So a token has at least 72 bytes after its header.
pub required_long : (ps : List Part) → AllFit ps → has information ps ≡ true → has protection ps ≡ true → 72 ≤ length (write_parts ps)
required_long ps f i p =
    let t = two_kinds information protection ps refl refl i p in
    let l = parts_least ps f in
    omega arith
