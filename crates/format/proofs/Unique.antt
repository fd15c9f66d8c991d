-- Bytes are the written form of one choice: of one identifier and one list of parts.
use mathlib.Core.Path.{◌≡◌, refl, sym, ap, ap₂, ◌∙◌, subst}
use mathlib.Core.Bool.{Bool, true, false, not, ◌||◌}
use mathlib.Core.List.{List, [], ◌∷◌, ◌++◌, append_assoc, head-eq_of_cons-eq, tail-eq_of_cons-eq}
use Prim.Native.Nat.{ℕ, ◌+◌, ◌^◌, ◌≤◌, ◌<◌}
use native.Mathlib.Omega.{arith}
use lib.Dec.{eqb}
use lib.ListN.{length, get_or, drop, replicate, length-append}
use borrow.Author.Tests.{eqb-true}
use Rattle.format.specs.Bytes.{All, big_endian}
use Rattle.format.specs.Layout.{Item, code, zeros, own, count, fixed, counted, Fields, write, fits}
use Rattle.format.specs.Parts.{Kind, section_id, tag, body, is_subsection, frame, layout, header, Part, size}
use Rattle.format.specs.Parts.{subsections_length, span, write_parts, written, joins, Stateable, WrittenForm}
use Rattle.format.proofs.Numbers.{big_endian_length, big_endian_inj, append_inj}
use Rattle.format.proofs.Fitting.{Fits, part_fits}
use Rattle.format.proofs.Finding.{and_split, kind_told, no_tag, section_id_pos}

-- ---- the length of what is written

-- The length of what is written does not turn on the length that it states.
pub size_any : (l : List Item) (t u : ℕ) (fs : Fields) → length (write t l fs) ≡ length (write u l fs)
size_any [] t u fs = refl
size_any (code w v ∷ l) t u fs = simp (length-append, size_any l t u fs)
size_any (zeros n q ∷ l) t u fs = simp (length-append, size_any l t u fs)
size_any (own w ∷ l) t u fs = simp (length-append, big_endian_length, size_any l t u fs)
size_any (count w k ∷ l) t u fs = simp (length-append, size_any l t u fs)
size_any (fixed n ∷ l) t u fs = simp (length-append, size_any l t u (drop 1 fs))
size_any (counted s ∷ l) t u fs = simp (length-append, size_any l t u (drop 1 fs))

-- A section and a subsection begin with four bytes at least.
framed : (b : Bool) (i g t : ℕ) (l : List Item) (fs : Fields) → 4 ≤ length (write t (frame b i g ++ l) fs)
framed false i g t l fs = omega arith
framed true i g t l fs = omega arith

-- A part has four bytes at least.
pub size_pos : (p : Part) → 4 ≤ size p
size_pos p = let k = p.kind in framed (is_subsection k) (section_id k) (tag k) 0 (body k) p.fields

-- The written form is as long as its header and its parts.
pub written_length : (i : ℕ) (ps : List Part) → length (written i ps) ≡ 8 + length (write_parts ps)
written_length i ps = omega arith

-- ---- what is written tells the fields

-- The layout states the part's own length.
abbrev states : List Item → Bool
states [] = false
states (code w v ∷ l) = states l
states (zeros n q ∷ l) = states l
states (own w ∷ l) = true
states (count w k ∷ l) = states l
states (fixed n ∷ l) = states l
states (counted s ∷ l) = states l

-- Equal joins whose fronts are equally long have equal fronts and equal rests.
cut : (a b x y r s : List ℕ) → length a ≡ length b → (a ++ x) ++ r ≡ (b ++ y) ++ s → (a ≡ b) × (x ++ r ≡ y ++ s)
cut a b x y r s h e = append_inj a b h (sym (append_assoc a x r) ∙ e ∙ append_assoc b y s)

-- What a part's bytes tell, whatever follows them: the fields, what follows, and the length that they state.
abbrev Told : List Item → ℕ → ℕ → Fields → Fields → List ℕ → List ℕ → Type 0
Told l t u fs gs r s = (fs ≡ gs) × (r ≡ s) × (states l ≡ true → t ≡ u)

-- Fields that fit a layout are told by what is written.
write_inj :
    (l : List Item) (t u : ℕ) (ns : List ℕ) (fs gs : Fields) (r s : List ℕ) → Fits t ns l fs → Fits u ns l gs
    → write t l fs ++ r ≡ write u l gs ++ s → Told l t u fs gs r s
write_inj [] t u ns [] [] r s h k e = (refl, e, λ x. absurd (let z : ◌≡◌ {A = ℕ} 0 1 = cc in omega arith))
write_inj [] t u ns [] (g ∷ gs) r s h k e = absurd k
write_inj [] t u ns (f ∷ fs) gs r s h k e = absurd h
write_inj (code w v ∷ l) t u ns fs gs r s h k e =
    write_inj l t u ns fs gs r s h.1 k.1 (cut (big_endian w v) (big_endian w v) _ _ r s refl e).1
write_inj (zeros n q ∷ l) t u ns fs gs r s h k e =
    write_inj l t u ns fs gs r s h k (cut (replicate n 0) (replicate n 0) _ _ r s refl e).1
write_inj (own w ∷ l) t u ns fs gs r s h k e =
    let c = cut (big_endian w t) (big_endian w u) _ _ r s (big_endian_length w t ∙ sym (big_endian_length w u)) e in
    let i = write_inj l t u ns fs gs r s h.1 k.1 c.1 in
    (i.0, i.1, λ x. big_endian_inj w t u h.0 k.0 c.0)
write_inj (count w j ∷ l) t u ns fs gs r s h k e =
    let n = length (get_or fs j []) in
    let m = length (get_or gs j []) in
    let c = cut (big_endian w n) (big_endian w m) _ _ r s (big_endian_length w n ∙ sym (big_endian_length w m)) e in
    let q : n ≡ m = big_endian_inj w n m h.0 k.0 c.0 in
    write_inj l t u (ns ++ (n ∷ [])) fs gs r s h.1
    (subst (λ (z : ℕ). Fits u (ns ++ (z ∷ [])) l gs) (sym q) k.1) c.1
write_inj (fixed n ∷ l) t u ns [] gs r s h k e = absurd h
write_inj (fixed n ∷ l) t u ns (f ∷ fs) [] r s h k e = absurd k
write_inj (fixed n ∷ l) t u ns (f ∷ fs) (g ∷ gs) r s h k e =
    let c = cut f g _ _ r s (h.0 ∙ sym k.0) e in
    let i = write_inj l t u ns fs gs r s h.1 k.1 c.1 in
    (ap₂ (λ a b. a ∷ b) c.0 i.0, i.1, i.2)
write_inj (counted n ∷ l) t u ns [] gs r s h k e = absurd h
write_inj (counted n ∷ l) t u ns (f ∷ fs) [] r s h k e = absurd k
write_inj (counted n ∷ l) t u ns (f ∷ fs) (g ∷ gs) r s h k e =
    let c = cut f g _ _ r s (h.0 ∙ sym k.0) e in
    let i = write_inj l t u ns fs gs r s h.1 k.1 c.1 in
    (ap₂ (λ a b. a ∷ b) c.0 i.0, i.1, i.2)

-- ---- what is written tells the kind

-- A section and a subsection state their own length.
framed_states : (b : Bool) (i g : ℕ) (l : List Item) → states (frame b i g ++ l) ≡ true
framed_states false i g l = refl
framed_states true i g l = refl

-- Two sections have the same id, or two subsections the same tag.
abbrev SameCode : Bool → ℕ → ℕ → ℕ → ℕ → Type 0
SameCode false i g j h = i ≡ j
SameCode true i g j h = g ≡ h

-- A section's id, and a subsection's tag, are told by what is written.
code_told :
    (b : Bool) (i g j h t u : ℕ) (l m : List Item) (fs gs : Fields) (r s : List ℕ)
    → Fits t [] (frame b i g ++ l) fs → Fits u [] (frame b j h ++ m) gs
    → write t (frame b i g ++ l) fs ++ r ≡ write u (frame b j h ++ m) gs ++ s → SameCode b i g j h
code_told false i g j h t u l m fs gs r s p q e = let a = head-eq_of_cons-eq e in omega arith
code_told true i g j h t u l m fs gs r s p q e =
    let a = head-eq_of_cons-eq e in
    let b = head-eq_of_cons-eq (tail-eq_of_cons-eq e) in
    omega arith

-- A part that is a subsection stands in the section with the id o.
abbrev pub Owned : Bool → ℕ → ℕ → Type 0
Owned true i o = i ≡ o
Owned false i o = Unit {0}

-- Two sections with the same id, or two subsections of one section with the same tag, have the same kind.
code_kind :
    (b : Bool) (k j : Kind) (o : ℕ) → is_subsection k ≡ b → is_subsection j ≡ b → Owned b (section_id k) o
    → Owned b (section_id j) o → SameCode b (section_id k) (tag k) (section_id j) (tag j) → k ≡ j
code_kind false k j o p q a c s = kind_told k j s (no_tag k p ∙ sym (no_tag j q))
code_kind true k j o p q a c s = kind_told k j (a ∙ sym c) s

-- Of two parts that are both sections, or both subsections of one section, what is written tells the kind.
kind_written :
    (k j : Kind) (o t u : ℕ) (fs gs : Fields) (r s : List ℕ) → is_subsection k ≡ is_subsection j
    → Owned (is_subsection k) (section_id k) o → Owned (is_subsection j) (section_id j) o → Fits t [] (layout k) fs
    → Fits u [] (layout j) gs → write t (layout k) fs ++ r ≡ write u (layout j) gs ++ s → k ≡ j
kind_written k j o t u fs gs r s d a c f g e =
    code_kind (is_subsection k) k j o refl (sym d) a (rw (← d) at c)
    (code_told (is_subsection k) (section_id k) (tag k) (section_id j) (tag j) t u (body k) (body j) fs gs r s f
    (rw (← d) at g) (rw (← d) at e))

-- Parts with the same kind and fields are the same.
part_path : {p q : Part} → p.kind ≡ q.kind → p.fields ≡ q.fields → p ≡ q
part_path {p} {q} a b = ap₂ {C = Part} (λ (k : Kind) (f : Fields). record { kind = k; fields = f }) a b

-- Of two parts that are both sections, or both subsections of one section, what is written tells which part it is,
-- what follows it, and the length that it states.
part_told :
    (p q : Part) (o t u : ℕ) (r s : List ℕ) → is_subsection p.kind ≡ is_subsection q.kind
    → Owned (is_subsection p.kind) (section_id p.kind) o → Owned (is_subsection q.kind) (section_id q.kind) o
    → Fits t [] (layout p.kind) p.fields → Fits u [] (layout q.kind) q.fields
    → write t (layout p.kind) p.fields ++ r ≡ write u (layout q.kind) q.fields ++ s
    → (p ≡ q) × (r ≡ s) × (t ≡ u)
part_told p q o t u r s d a c f g e =
    let k = p.kind in
    let x : k ≡ q.kind = kind_written k q.kind o t u p.fields q.fields r s d a c f g e in
    let i = write_inj (layout k) t u [] p.fields q.fields r s f (rw (← x) at g) (rw (← x) at e) in
    (part_path x i.0, i.1, i.2 (framed_states (is_subsection k) (section_id k) (tag k) (body k)))

-- ---- parts that fit

-- The parts fit and can be stated, each subsection in its section; o is the id of the section before, or 0.
abbrev pub FitParts : ℕ → List Part → Type 0
FitParts o [] = Unit {0}
FitParts o (p ∷ ps) =
    Owned (is_subsection p.kind) (section_id p.kind) o
    × Fits (span p ps) [] (layout p.kind) p.fields
    × FitParts (section_id p.kind) ps

-- Where the test of what may follow passes, a part that is a subsection stands in the section with the id o.
owned : (b : Bool) (i o : ℕ) → (not b || eqb i o) ≡ true → Owned b i o
owned true i o e = eqb-true i o e
owned false i o e = tt

-- Parts that pass the tests and whose lengths can be stated fit.
pub fit_parts :
    (ps : List Part) (o : ℕ) → All (λ (p : Part). fits [] (layout p.kind) p.fields ≡ true) ps
    → joins o ps ≡ true → Stateable ps → FitParts o ps
fit_parts [] o f j s = tt
fit_parts (p ∷ ps) o f j s =
    let k = p.kind in
    let q = and_split (not (is_subsection k) || eqb (section_id k) o) (joins (section_id k) ps) j in (
      owned (is_subsection k) (section_id k) o q.0,
      part_fits k (span p ps) p.fields s.0 f.0,
      fit_parts ps (section_id k) f.1 q.1 s.1,
    )

-- ---- what is written tells the parts

-- The first number where the test passes, else the second.
abbrev pick : Bool → ℕ → ℕ → ℕ
pick b m n = elim b as (λ x. ℕ) [ true ↦ m | false ↦ n ]

-- Whether the first part is a subsection is told by the bytes of the subsections in front.
sides : (b c : Bool) (m n x y : ℕ) → 4 ≤ m → 4 ≤ x → pick b (m + n) 0 ≡ pick c (x + y) 0 → b ≡ c
sides false false m n x y p q e = refl
sides true true m n x y p q e = refl
sides false true m n x y p q e = absurd (omega arith)
sides true false m n x y p q e = absurd (omega arith)

-- The bytes of the subsections after the first part are told by those in front and by the length that it states.
tails : (b : Bool) (m n y : ℕ) → pick b (m + n) 0 ≡ pick b (m + y) 0 → m + pick b 0 n ≡ m + pick b 0 y → n ≡ y
tails false m n y p q = omega arith
tails true m n y p q = omega arith

-- The same of the parts themselves.
span_tells : (p : Part) (ps qs : List Part) → subsections_length (p ∷ ps) ≡ subsections_length (p ∷ qs) → span p ps ≡ span p qs
    → subsections_length ps ≡ subsections_length qs
span_tells p ps qs l e = tails (is_subsection p.kind) (size p) (subsections_length ps) (subsections_length qs) l e

-- Parts are written in bytes, four at least for the first.
some_bytes : (p : Part) (ps : List Part) → 4 ≤ length (write_parts (p ∷ ps))
some_bytes p ps =
    let z = size_pos p in
    let y = size_any (layout p.kind) (span p ps) 0 p.fields in
    simp length-append (omega arith)

-- Parts that fit are told by what is written.
parts_inj :
    (ps qs : List Part) (o : ℕ) → FitParts o ps → FitParts o qs → subsections_length ps ≡ subsections_length qs
    → write_parts ps ≡ write_parts qs → ps ≡ qs
parts_inj [] [] o h k l e = refl
parts_inj [] (q ∷ qs) o h k l e = let z = some_bytes q qs in let w = ap length e in absurd (omega arith)
parts_inj (p ∷ ps) [] o h k l e = let z = some_bytes p ps in let w = ap length e in absurd (omega arith)
parts_inj (p ∷ ps) (q ∷ qs) o h k l e =
    let n = subsections_length ps in
    let m = subsections_length qs in
    let b = is_subsection p.kind in
    let d = sides b (is_subsection q.kind) (size p) n (size q) m (size_pos p) (size_pos q) l in
    let i = part_told p q o (span p ps) (span q qs) (write_parts ps) (write_parts qs) d h.0 k.0 h.1 k.1 e in
    let g : p ≡ q = i.0 in
    let x : n ≡ m = span_tells p ps qs (rw (← g) at l) (rw (← g) at i.2) in
    ap₂ (λ y z. y ∷ z) g (parts_inj ps qs (section_id p.kind) h.2 (rw (← g) at k.2) x i.1)

-- A part before which no section stands is no subsection.
unowned : (b : Bool) (i n : ℕ) → 0 < i → Owned b i 0 → pick b n 0 ≡ 0
unowned true i n h o = absurd (omega arith)
unowned false i n h o = refl

-- A choice of parts begins with no subsection.
subsections_none : (ps : List Part) → FitParts 0 ps → subsections_length ps ≡ 0
subsections_none [] h = refl
subsections_none (p ∷ ps) h =
    let k = p.kind in
    unowned (is_subsection k) (section_id k) (size p + subsections_length ps) (section_id_pos k) h.0

-- The identifier fits the header, where the length of the written form can be stated.
header_fits :
    (i : ℕ) (ps : List Part) → length (written i ps) < 256 ^ 2
    → Fits (8 + length (write_parts ps)) [] header ((i ∷ []) ∷ [])
header_fits i ps h = (refl, (omega arith, tt))

-- Bytes are the written form of one choice.
pub one_choice :
    (i j : ℕ) (ps qs : List Part) (bs : List ℕ) → WrittenForm i ps bs → WrittenForm j qs bs → (i ≡ j) × (ps ≡ qs)
one_choice i j ps qs bs h k =
    let n = 8 + length (write_parts ps) in
    let m = 8 + length (write_parts qs) in
    let a = header_fits i ps (let w = h.whole in omega arith) in
    let b = header_fits j qs (let w = k.whole in omega arith) in
    let e = h.same ∙ sym k.same in
    let c = write_inj header n m [] ((i ∷ []) ∷ []) ((j ∷ []) ∷ []) (write_parts ps) (write_parts qs) a b e in
    let f = fit_parts ps 0 h.choice.fit h.choice.joined h.parts in
    let g = fit_parts qs 0 k.choice.fit k.choice.joined k.parts in
    let x = subsections_none ps f ∙ sym (subsections_none qs g) in
    (head-eq_of_cons-eq (head-eq_of_cons-eq c.0), parts_inj ps qs 0 f g x c.1)
