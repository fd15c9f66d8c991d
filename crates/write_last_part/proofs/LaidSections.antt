-- The sections of a draft as bytes laid one after another, and the last of them. Assumes nothing.
use mathlib.Core.Path.{◌≡◌, refl, sym, ap, ◌∙◌, subst}
use mathlib.Core.Bool.{Bool, false}
use mathlib.Core.List.{List, [], ◌∷◌, ◌++◌, append-nil}
use Prim.Native.Nat.{ℕ, ◌^◌, ◌<◌}
use native.Mathlib.Omega.{arith}
use lib.ListN.{length, take, drop, length-append, length-drop}
use lib.Seq.{length-take-le}
use Rattle.format.specs.Bytes.{All, Bytes}
use Rattle.format.specs.Layout.{write}
use Rattle.format.specs.Parts.{layout, Part, size, span, write_parts, external, Kind, section_id, is_subsection, tag, body}
use Rattle.format.specs.Rules.{Section}
use Rattle.format.specs.Reading.{found, id_of, stated, reading, parts_of}
use Rattle.format.proofs.Unique.{size_any, size_pos}
use Rattle.format.proofs.Grouping.{Grouped, Subs, span_section, span_sub, all_split}
use Rattle.format.proofs.Sound.{GoodPart, GoodSection, subs_of_is}
use Rattle.format.proofs.Flat.{grouped}
use Rattle.format.proofs.Accepted.{reading_sound}
use Rattle.format.proofs.Changes.{sections_end}
use Rattle.format.proofs.Complete.{part_stated}
use Rattle.format.proofs.Header.{behind_header}
use Rattle.write_last_part.specs.Tiling.{Tiled, LastAt}
use Rattle.write_last_part.proofs.Sections.{section_then, section_long, id_small, id_framed}
use Rattle.write_last_part.proofs.Tiling.{States, laid, laid_tiled, passed, passed_then, cut_at, only_one}

-- ---- sections

-- the bytes of a section with its subsections
abbrev pub section_bytes : Section → List ℕ
section_bytes s = write_parts (s.head ∷ s.subs)

pub sections_laid : (ss : List Section) → All Grouped ss → write_parts (parts_of ss) ≡ laid section_bytes ss
sections_laid [] h = refl
sections_laid (t ∷ us) h = section_then t us h.1 ∙ ap (λ (y : List ℕ). section_bytes t ++ y) (sections_laid us h.1)

section_states : (full x : Bool) (t : Section) → GoodSection full x t → length (section_bytes t) < 256 ^ 2 → States (section_bytes t)
section_states full x t g h =
    let l = section_long t (g.head, subs_of_is x t.head.kind t.subs g.subs) in
    let s = span_section t.head t.subs g.head in
    let n = size_pos t.head in
    record {
      four = omega arith;
      says = part_stated t.head (span t.head t.subs) (section_bytes t) (write_parts t.subs) (omega arith) g.part.fit refl ∙ sym l;
    }

sections_state : (full x : Bool) (ss : List Section) → All (GoodSection full x) ss → length (laid section_bytes ss) < 256 ^ 2
    → All (λ t. States (section_bytes t)) ss
sections_state full x [] g h = tt
sections_state full x (t ∷ us) g h =
    let l = length-append (section_bytes t) (laid section_bytes us) in
    (section_states full x t g.0 (omega arith), sections_state full x us g.1 (omega arith))

-- ---- subsections

-- the bytes of a subsection
abbrev pub sub_bytes : Part → List ℕ
sub_bytes u = write (size u) (layout u.kind) u.fields

pub subs_laid : (us : List Part) → Subs us → write_parts us ≡ laid sub_bytes us
subs_laid [] h = refl
subs_laid (u ∷ us) h =
    ap (λ (n : ℕ). write n (layout u.kind) u.fields ++ write_parts us) (span_sub u us h.0)
    ∙ ap (λ (y : List ℕ). sub_bytes u ++ y) (subs_laid us h.1)

sub_states : (u : Part) (x : Bool) → GoodPart x u → length (sub_bytes u) < 256 ^ 2 → States (sub_bytes u)
sub_states u x g h =
    let l : length (sub_bytes u) ≡ size u = size_any (layout u.kind) (size u) 0 u.fields in
    let n = size_pos u in
    record {
      four = omega arith;
      says = part_stated u (size u) (sub_bytes u) [] (omega arith) g.fit (sym (append-nil (sub_bytes u))) ∙ sym l;
    }

pub subs_state : (x : Bool) (us : List Part) → All (GoodPart x) us → length (laid sub_bytes us) < 256 ^ 2 → All (λ u. States (sub_bytes u)) us
subs_state x [] g h = tt
subs_state x (u ∷ us) g h =
    let l = length-append (sub_bytes u) (laid sub_bytes us) in
    (sub_states u x g.0 (omega arith), subs_state x us g.1 (omega arith))

-- ---- a draft that reads

-- After its header stand its sections.
pub record Laid (d : List ℕ) (ss : List Section) : Type 0 where
  pub bytes : drop 8 (take (stated d) d) ≡ laid section_bytes ss
  pub states : All (λ t. States (section_bytes t)) ss

pub draft_laid : (d : List ℕ) (ss : List Section) → Bytes d → reading false d ≡ found ss → Laid d ss
draft_laid d ss b e =
    let r = reading_sound false d ss b e in
    let x : Bool = external (id_of d) in
    let g = r.good.each in
    let form : drop 8 (take (stated d) d) ≡ laid section_bytes ss =
    sym (ap (drop 8) r.form) ∙ behind_header (id_of d) (parts_of ss) ∙ sections_laid ss (grouped false x ss g) in
    let m = r.most in
    let n = length-take-le (stated d) d r.ends in
    let l = length-drop 8 (take (stated d) d) in
    let k = ap length form in
    record { bytes = form; states = sections_state false x ss g (omega arith) }

-- Its sections end where it does.
pub reads_tiled : (d : List ℕ) (ss : List Section) → Bytes d → reading false d ≡ found ss → Tiled (drop 8 (take (stated d) d))
reads_tiled d ss b e = let w = draft_laid d ss b e in laid_tiled section_bytes ss _ w.states w.bytes

-- The last of its sections is the one that stepping by lengths finds.
pub record LastRead (d : List ℕ) (ss : List Section) (o : ℕ) : Type 0 where
  pub before : List Section
  pub last : Section
  pub whole : ss ≡ before ++ last ∷ []
  pub place : sections_end before ≡ o
  pub bytes : drop o (take (stated d) d) ≡ section_bytes last

pub last_read : (d : List ℕ) (ss : List Section) (o : ℕ) → Bytes d → reading false d ≡ found ss → LastAt (take (stated d) d) 8 o
    → LastRead d ss o
last_read d ss o b e w =
    let D : List ℕ = take (stated d) d in
    let x : Bool = external (id_of d) in
    let v = draft_laid d ss b e in
    let t = w.tiled in
    let c = cut_at section_bytes t ss (drop o D) v.states (sym (passed_then t) ∙ v.bytes) in
    let states = lasts c.front c.back (subst (λ (y : List Section). All (λ u. States (section_bytes u)) y) c.whole v.states) in
    let ld = length-drop o D in
    let ends = w.ends in
    let head = w.head in
    let one = only_one section_bytes c.back (drop o D) states c.backs (omega arith) (omega arith) in
    let r = reading_sound false d ss b e in
    let gs = grouped false x ss r.good.each in
    let gf = fronts c.front c.back (subst (All Grouped) c.whole gs) in
    let lf = ap length (sections_laid c.front gf) in
    let lp = ap length c.fronts in
    let lt = ap length (passed_then t) in
    let la = length-append (passed t) (drop o D) in
    let l8 = length-drop 8 D in
    let front = w.front in
    record {
      before = c.front;
      last = one.0;
      whole = c.whole ∙ ap (λ (y : List Section). c.front ++ y) one.1;
      place = omega arith;
      bytes = one.2;
    }
  where
    lasts : (xs ys : List Section) → All (λ u. States (section_bytes u)) (xs ++ ys) → All (λ u. States (section_bytes u)) ys
    lasts xs ys h = (Rattle.format.proofs.Grouping.all_split (λ u. States (section_bytes u)) xs ys h).1

    fronts : (xs ys : List Section) → All Grouped (xs ++ ys) → All Grouped xs
    fronts xs ys h = (Rattle.format.proofs.Grouping.all_split Grouped xs ys h).0

-- The id of a section is its first byte.
pub section_id_is : (x : Bool) (l : Section) → GoodSection false x l → id_of (section_bytes l) ≡ section_id l.head.kind
section_id_is x l g =
    let k : Kind = l.head.kind in
    let small = id_small k in
    id_framed (is_subsection k) (section_id k) (tag k) (span l.head l.subs) (body k) l.head.fields (write_parts l.subs) g.head (omega arith)
