-- What an accepted addition makes of any lent draft: the added bytes, the header's length and, for a subsection, its
-- section's length; every other byte stays.
use mathlib.Core.Path.{◌≡◌, refl, sym, ap, ap₂, ◌∙◌}
use mathlib.Core.Bool.{true, false}
use mathlib.Core.List.{List, [], ◌∷◌, ◌++◌, append_assoc}
use Prim.Native.Nat.{ℕ, ◌+◌}
use native.Mathlib.Omega.{arith}
use lib.ListN.{length, take, drop, length-append, take-append-drop}
use lib.Seq.{drop_at}
use Rattle.format.specs.Bytes.{Bytes}
use Rattle.format.specs.Layout.{fits, write}
use Rattle.format.specs.Parts.{is_subsection, layout, Part, size, span, write_parts, written, joins, header, external}
use Rattle.format.specs.Rules.{Section}
use Rattle.format.specs.Reading.{found, id_of, stated, reading, parts_of}
use Rattle.format.specs.Writer.{addition}
use Rattle.format.proofs.Finding.{section_id_pos}
use Rattle.format.proofs.Unique.{written_length}
use Rattle.format.proofs.Refusing.{addition_read, addition_passed}
use Rattle.format.proofs.Grouping.{all_split, joins_first, parts_last, parts_then_section, span_le}
use Rattle.format.proofs.Sound.{GoodSection, subs_of_is}
use Rattle.format.proofs.Complete.{part_stated}
use Rattle.format.proofs.Accepted.{reading_sound, good_choice, good_lawful}
use Rattle.format.proofs.Writing.{Draft, draft_of, draft_front, draft_header}
use Rattle.format.proofs.Changes.{section_added_is, sub_added}
use Rattle.format.specs.Claims.{restate, sections_end}

-- Any bytes that read as a draft are the draft of the parts found.
pub any_draft : (d : List ℕ) (ss : List Section) → Bytes d → reading false d ≡ found ss → Draft (id_of d) (parts_of ss) d
any_draft d ss b e =
    let r = reading_sound false d ss b e in
    let i : ℕ = id_of d in
    let n : ℕ = stated d in
    let ends = r.ends in
    let most = r.most in
    let form : d ≡ written i (parts_of ss) ++ drop n d =
    sym (take-append-drop n d) ∙ ap (λ (y : List ℕ). y ++ drop n d) (sym r.form) in
    let l = ap length r.form ∙ lib.Seq.length-take-le n d ends in
    draft_of i (parts_of ss) d (drop n d) (good_choice false i ss r.byte r.good) (good_lawful false i ss r.known r.good) (omega arith) form

-- A section added changes the header's length and puts its bytes after the draft's.
pub section_changes : (d : List ℕ) (p : Part) (bs : List ℕ) → Bytes d → is_subsection p.kind ≡ false
    → addition p.kind p.fields d ≡ found bs
    → bs ≡ restate 0 (stated d + size p) (take (stated d) d) ++ write (size p) (layout p.kind) p.fields
section_changes d p bs b f e =
    let r = addition_read d p bs e in
    let a = addition_passed d p r.0 bs r.1 e in
    let ps : List Part = parts_of r.0 in
    let w = any_draft d r.0 b r.1 in
    let st = (draft_header (id_of d) ps d w).1 in
    let front = draft_front (id_of d) ps d w in
    sym a.form
    ∙ section_added_is (id_of d) ps p f
    ∙ ap₂ (λ (n : ℕ) (y : List ℕ). restate 0 (n + size p) y ++ write (size p) (layout p.kind) p.fields) (sym st) (sym front)

-- A list that is not empty has a last element.
last_of : (s : Section) (ss : List Section) → (ts : List Section) × (t : Section) × (s ∷ ss ≡ ts ++ t ∷ [])
last_of s [] = ([], s, refl)
last_of s (q ∷ ss) = let i = last_of q ss in (s ∷ i.0, i.1, ap (λ (y : List Section). s ∷ y) i.2)

-- A subsection joins some section.
joined : (p : Part) (ss : List Section) → is_subsection p.kind ≡ true → joins 0 (parts_of ss ++ p ∷ []) ≡ true
    → (ts : List Section) × (t : Section) × (ss ≡ ts ++ t ∷ [])
joined p [] f j = absurd (let c = joins_first 0 p [] j f in let z = section_id_pos p.kind in omega arith)
joined p (s ∷ ss) f j = last_of s ss

-- The last section of a draft stands after the others, and states its length there.
last_stated : (i : ℕ) (ts : List Section) (t : Section) (d : List ℕ) → Draft i (parts_of (ts ++ t ∷ [])) d
    → is_subsection t.head.kind ≡ false → fits [] (layout t.head.kind) t.head.fields ≡ true
    → stated (drop (sections_end ts) d) ≡ span t.head t.subs
last_stated i ts t d w f fit =
    let ps : List Part = parts_of (ts ++ t ∷ []) in
    let A : List ℕ = write_parts (parts_of ts) in
    let B : List ℕ = write_parts (t.head ∷ t.subs) in
    let H : List ℕ = write (8 + length (write_parts ps)) header ((i ∷ []) ∷ []) in
    let S : List ℕ = write (span t.head t.subs) (layout t.head.kind) t.head.fields in
    let parts : write_parts ps ≡ A ++ B = ap write_parts (parts_last ts t) ∙ parts_then_section (parts_of ts) t.head t.subs f in
    let lp = ap length parts in
    let lab = length-append A B in
    let lw = written_length i ps in
    let small = w.small in
    let sp = span_le t.head t.subs in
    let place : length (H ++ A) ≡ sections_end ts = omega arith in
    let form : d ≡ (H ++ A) ++ (B ++ w.rest) =
    w.form
    ∙ ap (λ (y : List ℕ). (H ++ y) ++ w.rest) parts
    ∙ ap (λ (y : List ℕ). y ++ w.rest) (sym (append_assoc H A B))
    ∙ append_assoc (H ++ A) B w.rest in
    let rest : drop (sections_end ts) d ≡ S ++ (write_parts t.subs ++ w.rest) =
    ap (drop (sections_end ts)) form ∙ drop_at (H ++ A) (B ++ w.rest) (sections_end ts) place ∙ append_assoc S (write_parts t.subs) w.rest in
    part_stated t.head (span t.head t.subs) (drop (sections_end ts) d) (write_parts t.subs ++ w.rest) (omega arith) fit rest

-- A subsection added changes the header's length and that of the last section, and puts its bytes after the draft's.
pub sub_changes : (d : List ℕ) (p : Part) (bs : List ℕ) → Bytes d → is_subsection p.kind ≡ true
    → addition p.kind p.fields d ≡ found bs
    → (ts : List Section)
    × (t : Section)
    × (reading false d ≡ found (ts ++ t ∷ []))
    × (bs
    ≡ restate (sections_end ts) (stated (drop (sections_end ts) d) + size p) (restate 0 (stated d + size p) (take (stated d) d))
    ++ write (size p) (layout p.kind) p.fields)
sub_changes d p bs b f e =
    let q = addition_read d p bs e in
    let a = addition_passed d p q.0 bs q.1 e in
    let j = joined p q.0 f a.joins in
    let ts : List Section = j.0 in
    let t : Section = j.1 in
    let read : reading false d ≡ found (ts ++ t ∷ []) = q.1 ∙ ap found j.2 in
    let r = reading_sound false d (ts ++ t ∷ []) b read in
    let g = (all_split (GoodSection false (external (id_of d))) ts (t ∷ []) r.good.each).1.0 in
    let i : ℕ = id_of d in
    let ps : List Part = parts_of (ts ++ t ∷ []) in
    let w = any_draft d (ts ++ t ∷ []) b read in
    let st = (draft_header i ps d w).1 in
    let front = draft_front i ps d w in
    let last = last_stated i ts t d w g.head g.part.fit in
    let form : written i (ps ++ p ∷ []) ≡ bs = ap (λ (ss : List Section). written i (parts_of ss ++ p ∷ [])) (sym j.2) ∙ a.form in (
      ts,
      t,
      read,
      sym form
          ∙ sub_added i ts t p g.head (subs_of_is (external i) t.head.kind t.subs g.subs) f
          ∙ ap₂ (λ (n : ℕ) (y : List ℕ). restate (sections_end ts) (span t.head t.subs + size p) (restate 0 (n + size p) y) ++ write (size p) (layout p.kind) p.fields) (sym st) (sym front)
          ∙ ap (λ (n : ℕ). restate (sections_end ts) (n + size p) (restate 0 (stated d + size p) (take (stated d) d)) ++ write (size p) (layout p.kind) p.fields) (sym last),
    )
