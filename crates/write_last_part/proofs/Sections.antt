-- Where the sections of a draft stand, and what they state there.
use mathlib.Core.Path.{◌≡◌, refl, sym, ap, ◌∙◌}
use mathlib.Core.Bool.{Bool, true, false}
use mathlib.Core.List.{List, [], ◌∷◌, ◌++◌, append_assoc, append-nil}
use Prim.Native.Nat.{ℕ, ◌+◌, ◌≤◌, ◌<◌}
use native.Mathlib.Omega.{arith}
use lib.Dec.{ltb}
use lib.ListN.{length, drop, length-append}
use lib.Seq.{drop_at}
use borrow.Author.Tests.{ltb-true}
use Rattle.format.specs.Bytes.{All, Bytes, number, bytes_at}
use Rattle.format.specs.Layout.{Item, Fields, write}
use Rattle.format.specs.Parts.{Kind, section_id, tag, body, is_subsection, frame, layout, header, Part, span, write_parts, external}
use Rattle.format.specs.Rules.{Section}
use Rattle.format.specs.Reading.{found, id_of, stated, reading, parts_of}
use Rattle.format.proofs.Finding.{every_kind}
use Rattle.format.proofs.Unique.{size_any, size_pos, written_length}
use Rattle.format.proofs.Grouping.{Grouped, all_split, parts_then_section, span_section, subs_long}
use Rattle.format.proofs.Sound.{GoodSection}
use Rattle.format.proofs.Complete.{part_stated}
use Rattle.format.proofs.Flat.{grouped}
use Rattle.format.proofs.Accepted.{reading_sound}
use Rattle.format.proofs.Writing.{draft_header}
use Rattle.format.proofs.Changes.{sections_end}
use Rattle.format.proofs.Additions.{any_draft}

-- ---- the bytes of sections in a row

-- The parts of sections in a row.
pub parts_join : (ts us : List Section) → parts_of (ts ++ us) ≡ parts_of ts ++ parts_of us
parts_join [] us = refl
parts_join (t ∷ ts) us =
    ap (λ (x : List Part). t.head ∷ t.subs ++ x) (parts_join ts us)
    ∙ ap (λ (x : List Part). t.head ∷ x) (sym (append_assoc t.subs (parts_of ts) (parts_of us)))

-- Their bytes, cut before one of them.
sections_cut : (ts us : List Section) → All Grouped us → write_parts (parts_of (ts ++ us)) ≡ write_parts (parts_of ts) ++ write_parts (parts_of us)
sections_cut ts [] h = ap (λ (x : List Section). write_parts (parts_of x)) (append-nil ts) ∙ sym (append-nil (write_parts (parts_of ts)))
sections_cut ts (u ∷ us) h =
    ap write_parts (parts_join ts (u ∷ us)) ∙ parts_then_section (parts_of ts) u.head (u.subs ++ parts_of us) h.0.0

-- The bytes of a section, and those after it.
pub section_then : (t : Section) (us : List Section) → All Grouped us
    → write_parts (parts_of (t ∷ us)) ≡ write_parts (t.head ∷ t.subs) ++ write_parts (parts_of us)
section_then t [] h =
    ap (λ (x : List Part). write_parts (t.head ∷ x)) (append-nil t.subs) ∙ sym (append-nil (write_parts (t.head ∷ t.subs)))
section_then t (u ∷ us) h = parts_then_section (t.head ∷ t.subs) u.head (u.subs ++ parts_of us) h.0.0

-- A section is as long as it states.
pub section_long : (t : Section) → Grouped t → length (write_parts (t.head ∷ t.subs)) ≡ span t.head t.subs
section_long t g =
    let n : ℕ = span t.head t.subs in
    let a = length-append (write n (layout t.head.kind) t.head.fields) (write_parts t.subs) in
    let b = size_any (layout t.head.kind) n 0 t.head.fields in
    let c = subs_long t.subs g.1 in
    let e = span_section t.head t.subs g.0 in
    omega arith

-- ---- places

-- The place after one section more.
pub place_more : (ts : List Section) (t : Section) → Grouped t → sections_end (ts ++ t ∷ []) ≡ sections_end ts + span t.head t.subs
place_more ts t g =
    let a = ap length (sections_cut ts (t ∷ []) (g, tt)) in
    let b = length-append (write_parts (parts_of ts)) (write_parts (parts_of (t ∷ []))) in
    let c = ap length (section_then t [] tt) in
    let e = section_long t g in
    let f = ap length (append-nil (write_parts (t.head ∷ t.subs))) in
    omega arith

-- A section id is a byte, and below the ids of tokens.
pub id_small : (k : Kind) → section_id k < 0x1E
id_small k = ltb-true (section_id k) 0x1E (every_kind (λ j. ltb (section_id j) 0x1E) refl k)

-- A written section begins with its id.
pub id_framed : (b : Bool) (i g t : ℕ) (l : List Item) (fs : Fields) (z : List ℕ) → b ≡ false → i < 256
    → id_of (write t (frame b i g ++ l) fs ++ z) ≡ i
unfolding number bytes_at
id_framed true i g t l fs z e h = absurd (let q : ◌≡◌ {A = ℕ} 0 1 = cc in omega arith)
id_framed false i g t l fs z e h = omega arith

-- After the sections ts stands the section t: what the bytes there state is its length and its id.
pub record StandsAt (d : List ℕ) (ts : List Section) (t : Section) : Type 0 where
  pub length_there : stated (drop (sections_end ts) d) ≡ span t.head t.subs
  pub id_there : id_of (drop (sections_end ts) d) ≡ section_id t.head.kind
  pub ends : sections_end ts + span t.head t.subs ≤ stated d
  pub four : 4 ≤ span t.head t.subs

pub stands_at : (d : List ℕ) (ts : List Section) (t : Section) (us : List Section) → Bytes d → reading false d ≡ found (ts ++ t ∷ us)
    → StandsAt d ts t
stands_at d ts t us b read =
    let r = reading_sound false d (ts ++ t ∷ us) b read in
    let goods = (all_split (GoodSection false (external (id_of d))) ts (t ∷ us) r.good.each).1 in
    let good = goods.0 in
    let gs = grouped false (external (id_of d)) (t ∷ us) goods in
    let i : ℕ = id_of d in
    let ps : List Part = parts_of (ts ++ t ∷ us) in
    let w = any_draft d (ts ++ t ∷ us) b read in
    let k : Kind = t.head.kind in
    let n : ℕ = span t.head t.subs in
    let A : List ℕ = write_parts (parts_of ts) in
    let S : List ℕ = write n (layout k) t.head.fields in
    let B : List ℕ = write_parts t.subs in
    let C : List ℕ = write_parts (parts_of us) in
    let H : List ℕ = write (8 + length (write_parts ps)) header ((i ∷ []) ∷ []) in
    let parts : write_parts ps ≡ A ++ ((S ++ B) ++ C) =
    sections_cut ts (t ∷ us) gs ∙ ap (λ (y : List ℕ). A ++ y) (section_then t us gs.1) in
    let place : length (H ++ A) ≡ sections_end ts = omega arith in
    let form : d ≡ (H ++ A) ++ (((S ++ B) ++ C) ++ w.rest) =
    w.form
    ∙ ap (λ (y : List ℕ). (H ++ y) ++ w.rest) parts
    ∙ ap (λ (y : List ℕ). y ++ w.rest) (sym (append_assoc H A ((S ++ B) ++ C)))
    ∙ append_assoc (H ++ A) ((S ++ B) ++ C) w.rest in
    let Z : List ℕ = B ++ (C ++ w.rest) in
    let there : drop (sections_end ts) d ≡ S ++ Z =
    ap (drop (sections_end ts)) form
    ∙ drop_at (H ++ A) (((S ++ B) ++ C) ++ w.rest) (sections_end ts) place
    ∙ append_assoc (S ++ B) C w.rest
    ∙ append_assoc S B (C ++ w.rest) in
    let st = (draft_header i ps d w).1 in
    let lw = written_length i ps in
    let lp = ap length parts in
    let la = length-append A ((S ++ B) ++ C) in
    let lb = length-append (S ++ B) C in
    let ls = section_long t gs.0 in
    let sp = span_section t.head t.subs good.head in
    let pos = size_pos t.head in
    let small = w.small in
    let ends : sections_end ts + n ≤ stated d = omega arith in
    record {
      length_there = part_stated t.head n (drop (sections_end ts) d) Z (omega arith) good.part.fit there;
      id_there =
          ap id_of there
          ∙ (let q = id_small k in
          id_framed (is_subsection k) (section_id k) (tag k) n (body k) t.head.fields Z good.head (omega arith));
      ends = ends;
      four = omega arith;
    }

-- The sections end where the draft does.
pub sections_end_is : (d : List ℕ) (ss : List Section) → Bytes d → reading false d ≡ found ss → sections_end ss ≡ stated d
sections_end_is d ss b read =
    let w = any_draft d ss b read in
    sym (written_length (id_of d) (parts_of ss)) ∙ sym (draft_header (id_of d) (parts_of ss) d w).1
