-- Where the draft with a subsection after it reads, and the draft's sections and the subsections of its last one end where it
-- does, the draft reads. Assumes nothing.
use mathlib.Core.Path.{◌≡◌, sym, ap, ap₂, ◌∙◌, subst}
use mathlib.Core.Bool.{Bool, true, false}
use mathlib.Core.List.{List, [], ◌∷◌, ◌++◌, append_assoc, append-nil}
use mathlib.Core.Logic.{inr}
use Prim.Native.Nat.{ℕ, ◌+◌, ◌-◌, ◌≤◌, ◌<◌}
use native.Mathlib.Omega.{arith}
use lib.ListN.{length, take, drop, length-append, length-drop, take-append-drop}
use lib.Seq.{take_at, drop_at, take-append-le, drop-append-le, drop-drop, length-take-le}
use Rattle.format.specs.Bytes.{All, Bytes}
use Rattle.format.specs.Layout.{write}
use Rattle.format.specs.Parts.{Kind, section_id, is_subsection, layout, Part, size, span, write_parts, Choice, external}
use Rattle.format.specs.Rules.{longest, Section}
use Rattle.format.specs.Reading.{found, id_of, stated, header_checks, reading, parts_of}
use Rattle.format.specs.Legal.{Lawful}
use Rattle.format.proofs.Tests.{Hold}
use Rattle.format.proofs.Unique.{size_any}
use Rattle.format.proofs.Grouping.{Subs, all_split, all_map, parts_then_section, span_section, subs_long, parts_last}
use Rattle.format.proofs.Sound.{GoodPart, GoodSub, GoodSection, subs_of_is}
use Rattle.format.proofs.Flat.{grouped}
use Rattle.format.proofs.Changes.{restate, restate_behind, relength}
use Rattle.format.proofs.Numbers.{bytes_take, bytes_drop}
use Rattle.read_token.proofs.Headers.{lengths}
use Rattle.write_last_part.specs.Tiling.{Reads, TiledTo, Tiled, LastAt}
use Rattle.write_last_part.proofs.Tiling.{States, laid, passed, passed_then, cut_at, only_one}
use Rattle.format.proofs.Numbering.{stated_front}
use Rattle.write_last_part.proofs.LaidSections.{section_bytes, sub_bytes, sections_laid, subs_laid, subs_state, section_id_is}
use Rattle.write_appended_part.specs.Appended.{grown, Standing}
use Rattle.write_appended_part.proofs.Longer.{restate_long, restate_front, grown_long}
use Rattle.write_appended_part.proofs.Restating.{behind_restated, restate_id, restate_stated, restate_back, id_front, id_taken}
use Rattle.write_subsection.specs.LastSection.{holds_subsections, fixed_fields}
use Rattle.write_subsection.proofs.FixedFields.{fixed_size, head_fixed}
use Rattle.write_subsection.proofs.Fronts.{front_reads, longer_read, grown_bytes}

-- ---- the last section

-- The bytes z of a section that has w after it and a longer length: it is the section with the first of the subsections.
pub record Shorter (t : Section) (z : List ℕ) : Type 0 where
  pub front : List Part
  pub back : List Part
  pub subs : t.subs ≡ front ++ back
  pub bytes : z ≡ write_parts (t.head ∷ front)

shorter : (x : Bool) (i : ℕ) (t : Section) (z w : List ℕ) (m : ℕ) → GoodSection false x t → section_id t.head.kind ≡ i → holds_subsections i ≡ true
    → Bytes z → stated z ≡ length z → fixed_fields i ≤ length z → length z + length w < 65536 → Tiled (drop (fixed_fields i) z)
    → restate 0 m z ++ w ≡ section_bytes t → Shorter t z
shorter x i t z w m g e h b s fits_in small u q =
    let k : Kind = t.head.kind in
    let f : ℕ = fixed_fields i in
    let S : List ℕ = write (span t.head t.subs) (layout k) t.head.fields in
    let four = (fixed_size i).0 in
    let hs : size t.head ≡ f = head_fixed t.head i g.head g.part.fit e h in
    let ls : length S ≡ f = size_any (layout k) (span t.head t.subs) 0 t.head.fields ∙ hs in
    let lr = restate_long 0 m z in
    let lq = ap length q in
    let lw = length-append (restate 0 m z) w in
    let lt = length-append S (write_parts t.subs) in
    let first : take f (restate 0 m z) ≡ S =
    sym (take-append-le f (restate 0 m z) w (omega arith)) ∙ ap (take f) q ∙ take_at S (write_parts t.subs) f ls in
    let rest : drop f z ++ w ≡ write_parts t.subs =
    ap (λ (y : List ℕ). y ++ w) (sym (behind_restated f m z four))
    ∙ sym (drop-append-le f (restate 0 m z) w (omega arith)) ∙ ap (drop f) q ∙ drop_at S (write_parts t.subs) f ls in
    let subs = subs_of_is x k t.subs g.subs in
    let all : drop f z ≡ passed u = passed_then u ∙ append-nil (passed u) in
    let ll = ap length (subs_laid t.subs subs) in
    let states = subs_state x t.subs (all_map (GoodSub x k) (GoodPart x) (λ p v. v.part) t.subs g.subs) (omega arith) in
    let c = cut_at sub_bytes u t.subs w states (ap (λ (y : List ℕ). y ++ w) (sym all) ∙ rest ∙ subs_laid t.subs subs) in
    let us : List Part = c.front in
    let sf : Subs us = (all_split (λ (p : Part). is_subsection p.kind ≡ true) us c.back (subst Subs c.whole subs)).0 in
    let behind : drop f z ≡ write_parts us = all ∙ c.fronts ∙ sym (subs_laid us sf) in
    let lz = length-drop f z in
    let lb = ap length behind in
    let sp = span_section t.head us g.head in
    let sl = subs_long us sf in
    let long : length z ≡ span t.head us = omega arith in
    record {
      front = us;
      back = c.back;
      subs = c.whole;
      bytes =
          sym (restate_back m (length z) z b (omega arith) s)
          ∙ ap (restate 0 (length z)) (sym (take-append-drop f (restate 0 m z))
          ∙ ap₂ (λ (y v : List ℕ). y ++ v) first (behind_restated f m z four ∙ behind))
          ∙ sym (relength k (span t.head t.subs) (length z) t.head.fields (write_parts us))
          ∙ ap (λ (n : ℕ). write n (layout k) t.head.fields ++ write_parts us) long;
    }

-- ---- a subsection added

-- The bytes of the longer draft: those before the last section with the header's new length, and the section with its own.
pub grown_cut : (d w : List ℕ) (o : ℕ) → 8 ≤ o → o + 4 ≤ stated d → stated d ≤ length d
    → (grown d o w ≡ restate 0 (stated d + length w) (take o (take (stated d) d))
    ++ (restate 0 (stated (drop o d) + length w) (drop o (take (stated d) d)) ++ w))
grown_cut d w o h k l =
    let D : List ℕ = take (stated d) d in
    let n : ℕ = stated d + length w in
    let m : ℕ = stated (drop o d) + length w in
    let a : List ℕ = take o D in
    let z : List ℕ = drop o D in
    let ld = length-take-le (stated d) d l in
    let la = length-take-le o D (omega arith) in
    let A : List ℕ = restate 0 n a in
    let lA : length A ≡ o = restate_long 0 n a ∙ la in
    let front : restate 0 n D ≡ A ++ z = ap (restate 0 n) (sym (take-append-drop o D)) ∙ restate_front 0 n a z (omega arith) in
    let mid : restate o m (A ++ z) ≡ A ++ restate 0 m z =
    ap (λ (j : ℕ). restate j m (A ++ z)) (sym lA) ∙ restate_behind A z m in
    ap (λ (y : List ℕ). restate o m y ++ w) front
    ∙ ap (λ (y : List ℕ). y ++ w) mid
    ∙ append_assoc A (restate 0 m z) w

-- What stands between the header and the last section.
pub before_last : (D : List ℕ) (o : ℕ) (p : List ℕ) → 8 ≤ o → o ≤ length D → drop 8 D ≡ p ++ drop o D → drop 8 (take o D) ≡ p
before_last D o p q v e =
    let l₁ = length-take-le o D v in
    let l₂ = length-drop 8 D in
    let l₃ = length-drop o D in
    let l₄ = ap length e ∙ length-append p (drop o D) in
    let l₅ = length-drop 8 (take o D) in
    let split : drop 8 (take o D) ++ drop o D ≡ p ++ drop o D =
    sym (drop-append-le 8 (take o D) (drop o D) (omega arith)) ∙ ap (drop 8) (take-append-drop o D) ∙ e in
    sym (take_at (drop 8 (take o D)) (drop o D) (o - 8) (omega arith)) ∙ ap (take (o - 8)) split ∙ take_at p (drop o D) (o - 8) (omega arith)

-- Sections whose bytes are p and then y, all of which is one section.
record LastCut (x : Bool) (ts : List Section) (p y : List ℕ) : Type 0 where
  before : List Section
  last : Section
  whole : ts ≡ before ++ last ∷ []
  front : p ≡ write_parts (parts_of before)
  good : GoodSection false x last
  bytes : y ≡ section_bytes last

last_cut : {z r : List ℕ} (x : Bool) (t : TiledTo z r) (ts : List Section) (y : List ℕ) → All (λ s. States (section_bytes s)) ts
    → All (GoodSection false x) ts → passed t ++ y ≡ laid section_bytes ts → 0 < length y → stated y ≡ length y → LastCut x ts (passed t) y
last_cut x t ts y states each e h s =
    let v = cut_at section_bytes t ts y states e in
    let q = all_split (λ (u : Section). States (section_bytes u)) v.front v.back (subst (All (λ (u : Section). States (section_bytes u))) v.whole states) in
    let g = all_split (GoodSection false x) v.front v.back (subst (All (GoodSection false x)) v.whole each) in
    let one = only_one section_bytes v.back y q.1 v.backs h s in
    record {
      before = v.front;
      last = one.0;
      whole = v.whole ∙ ap (λ (u : List Section). v.front ++ u) one.1;
      front = v.fronts ∙ sym (sections_laid v.front (grouped false x v.front g.0));
      good = (subst (All (GoodSection false x)) one.1 g.1).0;
      bytes = one.2;
    }

-- The draft reads as the sections before the last one, and the last one with the first of its subsections.
shorter_reads : (d : List ℕ) (ts us : List Section) (l : Section) (p z : List ℕ) → Bytes d → Hold (header_checks false d)
    → Choice (id_of d) (parts_of ts) → Lawful (id_of d) (parts_of ts) → ts ≡ us ++ l ∷ [] → is_subsection l.head.kind ≡ false
    → p ≡ write_parts (parts_of us) → Shorter l z → drop 8 (take (stated d) d) ≡ p ++ z → Reads d
shorter_reads d ts us l p z b h choice lawful whole head front sh e =
    let parts : parts_of ts ≡ (parts_of us ++ l.head ∷ sh.front) ++ sh.back =
    ap parts_of whole ∙ parts_last us l ∙ ap (λ (y : List Part). parts_of us ++ l.head ∷ y) sh.subs
    ∙ sym (append_assoc (parts_of us) (l.head ∷ sh.front) sh.back) in
    front_reads d (parts_of us ++ l.head ∷ sh.front) sh.back b h
    (subst (Choice (id_of d)) parts choice) (subst (Lawful (id_of d)) parts lawful)
    (parts_then_section (parts_of us) l.head sh.front head ∙ sym (ap₂ (λ (y v : List ℕ). y ++ v) front sh.bytes) ∙ sym e)

-- From the last section of the longer draft to the draft.
last_front : (d w : List ℕ) (ts : List Section) (i m : ℕ) (z p : List ℕ) → Bytes d → Hold (header_checks false d)
    → Choice (id_of d) (parts_of ts) → Lawful (id_of d) (parts_of ts) → drop 8 (take (stated d) d) ≡ p ++ z
    → LastCut (external (id_of d)) ts p (restate 0 m z ++ w) → id_of z ≡ i → holds_subsections i ≡ true
    → Bytes z → stated z ≡ length z → fixed_fields i ≤ length z → length z + length w < 65536 → Tiled (drop (fixed_fields i) z) → Reads d
last_front d w ts i m z p b h choice lawful e c id hs bz s fx small u =
    let four = (fixed_size i).0 in
    let same : section_id c.last.head.kind ≡ i =
    sym (section_id_is (external (id_of d)) c.last c.good) ∙ sym (ap id_of c.bytes) ∙ restate_id m z w (omega arith) ∙ id in
    shorter_reads d ts c.before c.last p z b h choice lawful c.whole c.good.head c.front
    (shorter (external (id_of d)) i c.last z w m c.good same hs bz s fx small u c.bytes) e

-- The bytes of the last section of the draft.
pub record LastBytes (d : List ℕ) (o : ℕ) : Type 0 where
  pub states : stated (drop o (take (stated d) d)) ≡ length (drop o (take (stated d) d))
  pub same : stated (drop o d) ≡ stated (drop o (take (stated d) d))
  pub id : id_of (drop o (take (stated d) d)) ≡ id_of (drop o d)
  pub long : o + length (drop o (take (stated d) d)) ≡ stated d
  pub four : 4 ≤ length (drop o (take (stated d) d))

pub last_bytes : (d : List ℕ) (o : ℕ) → stated d ≤ length d → LastAt (take (stated d) d) 8 o → LastBytes d o
last_bytes d o within la =
    let D : List ℕ = take (stated d) d in
    let z : List ℕ = drop o D in
    let head = la.head in
    let ends = la.ends in
    let ld = length-take-le (stated d) d within in
    let lz = length-drop o D in
    let whole : drop o d ≡ z ++ drop (stated d) d =
    ap (drop o) (sym (take-append-drop (stated d) d)) ∙ drop-append-le o D (drop (stated d) d) (omega arith) in
    record {
      states = omega arith;
      same = ap stated whole ∙ stated_front z (drop (stated d) d) (omega arith);
      id = sym (ap id_of whole ∙ id_front z (drop (stated d) d) (omega arith));
      long = omega arith;
      four = omega arith;
    }

pub sub_front : (d w : List ℕ) (ts : List Section) (o i : ℕ) → Bytes d → Bytes w → Hold (header_checks false d) → stated d + length w ≤ longest
    → LastAt (take (stated d) d) 8 o → id_of (drop o d) ≡ i → holds_subsections i ≡ true → o + fixed_fields i ≤ stated d
    → Tiled (drop (o + fixed_fields i) (take (stated d) d)) → reading false (grown d o w) ≡ found ts → Reads d
sub_front d w ts o i b c h most la id hs fx u e =
    let D : List ℕ = take (stated d) d in
    let z : List ℕ = drop o D in
    let m : ℕ = stated (drop o d) + length w in
    let k = lengths false d h in
    let within = k.within in
    let front = la.front in
    let v = last_bytes d o within la in
    let long = v.long in
    let four = v.four in
    let states = v.states in
    let same = v.same in
    let ld = length-take-le (stated d) d within in
    let lo = length-take-le o D (omega arith) in
    let standing : Standing d o = record { least = k.least; most = k.most; there = within; head = omega arith; ends = omega arith; apart = inr front } in
    let r = longer_read (id_of d) (stated d + length w) (grown d o w) (take o D) (restate 0 m z ++ w) ts
    (grown_cut d w o front (omega arith) within) (omega arith)
    (id_taken D o (omega arith) ∙ id_taken d (stated d) (omega arith)) (grown_long d o w standing) most (grown_bytes d o w b c) e in
    let t = la.tiled in
    let before = before_last D o (passed t) front (omega arith) (passed_then t) in
    let lr = restate_long 0 m z in
    let lw = length-append (restate 0 m z) w in
    let sm = restate_stated m z w four (omega arith) in
    let cut = last_cut (external (id_of d)) t ts (restate 0 m z ++ w) r.states r.each
    (ap (λ (y : List ℕ). y ++ (restate 0 m z ++ w)) (sym before) ∙ r.body) (omega arith) (omega arith) in
    last_front d w ts i m z (passed t) b h r.choice r.lawful (passed_then t) cut (v.id ∙ id) hs
    (bytes_drop o D (bytes_take (stated d) d b)) states (omega arith) (omega arith) (subst Tiled (sym (drop-drop (fixed_fields i) o D)) u)
