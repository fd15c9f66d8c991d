-- The bytes that an addition changes: the added ones, the header's length and, for a subsection, its section's length.
use mathlib.Core.Path.{◌≡◌, refl, sym, ap, ap₂, ◌∙◌}
use mathlib.Core.Bool.{Bool, true, false}
use mathlib.Core.List.{List, [], ◌∷◌, ◌++◌, append_assoc, append-nil}
use Prim.Native.Nat.{ℕ, ◌+◌, ◌/◌, ◌%◌}
use native.Mathlib.Nat.{suc-add, zero-add}
use native.Mathlib.Omega.{arith}
use lib.ListN.{length, get_or, drop, set, replicate}
use Rattle.format.specs.Layout.{Item, code, zeros, own, count, fixed, counted, Fields, write}
use Rattle.format.specs.Parts.{Kind, section_id, tag, body, is_subsection, frame, layout, header, Part, size, subsections_length, span, write_parts, written}
use Rattle.format.specs.Rules.{Section}
use Rattle.format.specs.Reading.{parts_of}
use Rattle.format.specs.Bytes.{big_endian}
use Rattle.format.proofs.Unique.{size_any, written_length}
use Rattle.format.proofs.PartForm.{plain, body_plain}
use Rattle.format.proofs.Grouping.{Subs, parts_then_section, span_sub, span_section, subs_then_parts, subs_long, parts_last, all_join}
use Rattle.format.proofs.Beginnings.{written_more}
pub use Rattle.format.specs.Claims.{restate, sections_end}

-- A byte set after a front.
set_behind : (a b : List ℕ) (j v : ℕ) → set (a ++ b) (length a + j) v ≡ a ++ set b j v
set_behind [] b j v = ap (λ (n : ℕ). set b n v) (zero-add j)
set_behind (x ∷ a) b j v = ap (λ (n : ℕ). set (x ∷ a ++ b) n v) (suc-add (length a) j) ∙ ap (λ (y : List ℕ). x ∷ y) (set_behind a b j v)

-- A length restated after a front.
pub restate_behind : (a b : List ℕ) (n : ℕ) → restate (length a) n (a ++ b) ≡ a ++ restate 0 n b
restate_behind a b n =
    ap (λ (y : List ℕ). set y (length a + 3) (n % 256)) (set_behind a b 2 (n / 256 % 256))
    ∙ set_behind a (set b 2 (n / 256 % 256)) 3 (n % 256)

-- What is written after the frame does not turn on the part's length.
unstated : (l : List Item) (t u : ℕ) (fs : Fields) → plain l ≡ true → write t l fs ≡ write u l fs
unstated [] t u fs p = refl
unstated (code w v ∷ l) t u fs p = absurd (let z : ◌≡◌ {A = ℕ} 0 1 = cc in omega arith)
unstated (zeros n q ∷ l) t u fs p = ap (λ (y : List ℕ). replicate n 0 ++ y) (unstated l t u fs p)
unstated (own w ∷ l) t u fs p = absurd (let z : ◌≡◌ {A = ℕ} 0 1 = cc in omega arith)
unstated (count w k ∷ l) t u fs p = ap (λ (y : List ℕ). big_endian w (length (get_or fs k [])) ++ y) (unstated l t u fs p)
unstated (fixed n ∷ l) t u fs p = ap (λ (y : List ℕ). get_or fs 0 [] ++ y) (unstated l t u (drop 1 fs) p)
unstated (counted c ∷ l) t u fs p = ap (λ (y : List ℕ). get_or fs 0 [] ++ y) (unstated l t u (drop 1 fs) p)

framed : (b : Bool) (i g t u : ℕ) (l : List Item) (fs : Fields) (z : List ℕ) → plain l ≡ true
    → write u (frame b i g ++ l) fs ++ z ≡ restate 0 u (write t (frame b i g ++ l) fs ++ z)
framed false i g t u l fs z p =
    ap (λ (y : List ℕ). i % 256 ∷ 0 ∷ u / 256 % 256 ∷ u % 256 ∷ y ++ z) (unstated l u t fs p)
framed true i g t u l fs z p =
    ap (λ (y : List ℕ). g / 256 % 256 ∷ g % 256 ∷ u / 256 % 256 ∷ u % 256 ∷ 0 ∷ y ++ z) (unstated l u t fs p)

-- Another length in a part changes its bytes 2 and 3.
pub relength : (k : Kind) (t u : ℕ) (fs : Fields) (z : List ℕ) → write u (layout k) fs ++ z ≡ restate 0 u (write t (layout k) fs ++ z)
relength k t u fs z = framed (is_subsection k) (section_id k) (tag k) t u (body k) fs z (body_plain k)

-- The written form with other parts' bytes after the same header but for its length.
header_length : (i : ℕ) (ps : List Part) (n : ℕ) (z : List ℕ)
    → write n header ((i ∷ []) ∷ []) ++ (write_parts ps ++ z) ≡ restate 0 n (written i ps) ++ z
header_length i ps n z = refl

-- A section added: the header's length, and its bytes after the others.
pub section_added_is : (i : ℕ) (ps : List Part) (p : Part) → is_subsection p.kind ≡ false
    → written i (ps ++ p ∷ []) ≡ restate 0 (length (written i ps) + size p) (written i ps) ++ write (size p) (layout p.kind) p.fields
section_added_is i ps p f =
    let w : List ℕ = write (size p) (layout p.kind) p.fields in
    let one : write_parts (p ∷ []) ≡ w =
    append-nil _ ∙ ap (λ (t : ℕ). write t (layout p.kind) p.fields) (span_section p [] f ∙ omega arith) in
    let n : 8 + length (write_parts (ps ++ p ∷ [])) ≡ length (written i ps) + size p = sym (written_length i (ps ++ p ∷ [])) ∙ written_more i ps p in
    ap₂ (λ (m : ℕ) (y : List ℕ). write m header ((i ∷ []) ∷ []) ++ y) n
    (parts_then_section ps p [] f ∙ ap (λ (y : List ℕ). write_parts ps ++ y) one)
    ∙ header_length i ps (length (written i ps) + size p) w

-- A subsection's bytes after those of its section, whose length grows.
sub_bytes_is : (s : Section) (p : Part) → is_subsection s.head.kind ≡ false → Subs s.subs → is_subsection p.kind ≡ true
    → write_parts (s.head ∷ s.subs ++ p ∷ [])
    ≡ restate 0 (span s.head s.subs + size p) (write_parts (s.head ∷ s.subs)) ++ write (size p) (layout p.kind) p.fields
sub_bytes_is s p f g e =
    let h : Part = s.head in
    let us : List Part = s.subs in
    let w : List ℕ = write (size p) (layout p.kind) p.fields in
    let one : write_parts (p ∷ []) ≡ w =
    append-nil _ ∙ ap (λ (t : ℕ). write t (layout p.kind) p.fields) (span_sub p [] e) in
    let subs : write_parts (us ++ p ∷ []) ≡ write_parts us ++ w = subs_then_parts us (p ∷ []) g ∙ ap (λ (y : List ℕ). write_parts us ++ y) one in
    let ls : subsections_length (us ++ p ∷ []) ≡ subsections_length us + size p =
    (let a = subs_long (us ++ p ∷ []) (all_join (λ (q : Part). is_subsection q.kind ≡ true) us (p ∷ []) g (e, tt)) in
    let b = subs_long us g in
    let c = ap length subs in
    let d = lib.ListN.length-append (write_parts us) w in
    let n = size_any (layout p.kind) (size p) 0 p.fields in
    omega arith) in
    let sp : span h (us ++ p ∷ []) ≡ span h us + size p =
    (let a = span_section h (us ++ p ∷ []) f in let b = span_section h us f in omega arith) in
    ap₂ (λ (t : ℕ) (y : List ℕ). write t (layout h.kind) h.fields ++ y) sp subs
    ∙ sym (append_assoc (write (span h us + size p) (layout h.kind) h.fields) (write_parts us) w)
    ∙ ap (λ (y : List ℕ). y ++ w) (relength h.kind (span h us) (span h us + size p) h.fields (write_parts us))

-- A subsection added to the last section: its length and the header's, and the bytes of the subsection after the others.
pub sub_added : (i : ℕ) (ss : List Section) (s : Section) (p : Part) → is_subsection s.head.kind ≡ false → Subs s.subs
    → is_subsection p.kind ≡ true
    → written i (parts_of (ss ++ s ∷ []) ++ p ∷ [])
    ≡ restate (sections_end ss) (span s.head s.subs + size p)
    (restate 0 (length (written i (parts_of (ss ++ s ∷ []))) + size p) (written i (parts_of (ss ++ s ∷ []))))
    ++ write (size p) (layout p.kind) p.fields
sub_added i ss s p f g e =
    let P : List Part = parts_of (ss ++ s ∷ []) in
    let A : List ℕ = write_parts (parts_of ss) in
    let B : List ℕ = write_parts (s.head ∷ s.subs) in
    let w : List ℕ = write (size p) (layout p.kind) p.fields in
    let n : ℕ = length (written i P) + size p in
    let m : ℕ = span s.head s.subs + size p in
    let H : List ℕ = write n header ((i ∷ []) ∷ []) in
    let ln : 8 + length (write_parts (P ++ p ∷ [])) ≡ n = sym (written_length i (P ++ p ∷ [])) ∙ written_more i P p in
    let flat : P ++ p ∷ [] ≡ parts_of ss ++ (s.head ∷ (s.subs ++ p ∷ [])) =
    ap (λ (y : List Part). y ++ p ∷ []) (parts_last ss s) ∙ append_assoc (parts_of ss) (s.head ∷ s.subs) (p ∷ []) in
    let old : write_parts P ≡ A ++ B = ap write_parts (parts_last ss s) ∙ parts_then_section (parts_of ss) s.head s.subs f in
    let new : write_parts (P ++ p ∷ []) ≡ A ++ (restate 0 m B ++ w) =
    ap write_parts flat ∙ parts_then_section (parts_of ss) s.head (s.subs ++ p ∷ []) f
    ∙ ap (λ (y : List ℕ). A ++ y) (sub_bytes_is s p f g e) in
    let place : length (H ++ A) ≡ sections_end ss = omega arith in
    let grown : restate (sections_end ss) m (H ++ write_parts P) ≡ (H ++ A) ++ restate 0 m B =
    ap₂ (λ (q : ℕ) (y : List ℕ). restate q m y) (sym place) (ap (λ (y : List ℕ). H ++ y) old ∙ sym (append_assoc H A B))
    ∙ restate_behind (H ++ A) B m in
    ap₂ (λ (q : ℕ) (y : List ℕ). write q header ((i ∷ []) ∷ []) ++ y) ln new
    ∙ sym (append_assoc H A (restate 0 m B ++ w))
    ∙ sym (append_assoc (H ++ A) (restate 0 m B) w)
    ∙ ap (λ (y : List ℕ). y ++ w) (sym grown)
