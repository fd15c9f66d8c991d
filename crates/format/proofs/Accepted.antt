-- The reading accepts exactly the written forms that keep the rules: a token's and a draft's by one argument.
use mathlib.Core.Path.{◌≡◌, refl, sym, ap, ap₂, ◌∙◌}
use mathlib.Core.Bool.{Bool, true, false, not, ◌&&◌, ◌||◌}
use mathlib.Core.List.{List, [], ◌∷◌, ◌++◌, append-nil}
use Prim.Native.Nat.{ℕ, suc, ◌+◌, ◌^◌, ◌≤◌, ◌<◌}
use native.Mathlib.Omega.{arith}
use lib.Dec.{eqb, leb}
use lib.ListN.{length, take, drop, length-append}
use lib.Seq.{take_at, take_all}
use borrow.Author.Tests.{eq-eqb, eqb-true, le-leb, leb-true}
use Rattle.format.specs.Bytes.{All, Bytes}
use Rattle.format.specs.Layout.{fits}
use Rattle.format.specs.Parts.{information, protection, layout, Part, write_parts, written, Choice, WrittenForm, external, known_id}
use Rattle.format.specs.Rules.{longest, checks, Section, sections_of, has, other_kind, mask_covers, has_required}
use Rattle.format.specs.Legal.{Pairwise, Lawful, Complete, Legal}
use Rattle.format.specs.Reading.{found, id_of, stated, kind_before, sections, length_allowed, header_checks, reading, parts_of}
use Rattle.format.proofs.Numbers.{bytes_take, bytes_drop}
use Rattle.format.proofs.Finding.{and_split, and_join}
use Rattle.format.proofs.Unique.{written_length}
use Rattle.format.proofs.Tests.{Hold, Kept, tests_passed, tests_lead}
use Rattle.format.proofs.Grouping.{all_map, stateable, group_flat}
use Rattle.format.proofs.Sound.{GoodPart, GoodSection, GoodSections, sections_read}
use Rattle.format.proofs.Complete.{sections_found}
use Rattle.format.proofs.Header.{header_written, header_read, behind_header, written_front}
use Rattle.format.proofs.Sizes.{has_protection, required_long}
use Rattle.format.proofs.Flat.{flat_good, grouped, flat_joins, flat_has, choice_flat, choice_good, has_section}

-- ---- what is read is written so

-- What an accepted reading says: the first bytes, as many as the header states, are the written form of the identifier
-- and of the parts found, and these keep the rules.
pub record ReadAs (full : Bool) (bs : List ℕ) (ss : List Section) : Type 0 where
  pub eight : 8 ≤ stated bs
  pub ends : stated bs ≤ length bs
  pub most : stated bs ≤ longest
  pub known : known_id (id_of bs) ≡ true
  pub byte : id_of bs < 256
  pub form : written (id_of bs) (parts_of ss) ≡ take (stated bs) bs
  pub good : GoodSections full (external (id_of bs)) ss
  pub informed : (not full || kind_before information ss) ≡ true

-- The header's length is allowed: at least 8, at most 3,500 and the buffer, and a token's is the buffer's.
pub record Allowed (full : Bool) (bs : List ℕ) : Type 0 where
  pub eight : 8 ≤ stated bs
  pub ends : stated bs ≤ length bs
  pub most : stated bs ≤ longest

pub allowed : (full : Bool) (bs : List ℕ) → 8 ≤ length bs → length_allowed full bs ≡ true → Allowed full bs
allowed true bs h e =
    let s = and_split (leb (length bs) longest) (eqb (stated bs) (length bs)) e in
    let m = leb-true (length bs) longest s.0 in
    let q = eqb-true (stated bs) (length bs) s.1 in
    record { eight = omega arith; ends = omega arith; most = omega arith }
allowed false bs h e =
    let s = and_split (leb 8 (stated bs) && leb (stated bs) longest) (leb (stated bs) (length bs)) e in
    let t = and_split (leb 8 (stated bs)) (leb (stated bs) longest) s.0 in
    record { eight = leb-true _ _ t.0; ends = leb-true _ _ s.1; most = leb-true _ _ t.1 }

pub reading_sound : (full : Bool) (bs : List ℕ) (ss : List Section) → Bytes bs → reading full bs ≡ found ss → ReadAs full bs ss
unfolding reading
reading_sound full bs ss b e =
    let t = tests_passed 0 (header_checks full bs) _ ss e in
    let c = t.0 in
    let n : ℕ = stated bs in
    let h : 8 ≤ length bs = leb-true 8 (length bs) c.0 in
    let a = allowed full bs h c.1.1.1.0 in
    let w = header_written bs b h c.1.1.0 c.1.1.1.1.0 in
    let r = sections_read (suc n) full (external (id_of bs)) [] 8 (drop 8 (take n bs)) ss (bytes_drop 8 (take n bs) (bytes_take n bs b))
    (record { each = tt; pairs = tt }) t.1 in
    record {
      eight = a.eight;
      ends = a.ends;
      most = a.most;
      known = c.1.0;
      byte = w.1;
      form = written_front (id_of bs) (parts_of ss) bs n a.eight a.ends w.0 r.1;
      good = r.0;
      informed = r.2;
    }

-- A token's header states the length of its buffer.
pub whole_token : (bs : List ℕ) (ss : List Section) → reading true bs ≡ found ss → stated bs ≡ length bs
unfolding reading
whole_token bs ss e =
    let c = (tests_passed 0 (header_checks true bs) _ ss e).0 in
    eqb-true (stated bs) (length bs) (and_split (leb (length bs) longest) (eqb (stated bs) (length bs)) c.1.1.1.0).1

-- ---- what is written so is read

-- Bytes that begin with the written form of a good choice, and whose length is allowed, are read as that choice.
pub reading_complete : (full : Bool) (i : ℕ) (ps : List Part) (bs z : List ℕ) → bs ≡ written i ps ++ z → known_id i ≡ true
    → length_allowed full bs ≡ true → length (written i ps) < 256 ^ 2 → GoodSections full (external i) (sections_of ps)
    → parts_of (sections_of ps) ≡ ps → (not full || kind_before information (sections_of ps)) ≡ true → reading full bs ≡ found (sections_of ps)
unfolding reading
reading_complete full i ps bs z e k a small g flat info =
    let r = header_read i ps bs z small e in
    let lw = written_length i ps in
    let lb : length bs ≡ length (written i ps) + length z = ap length e ∙ length-append (written i ps) z in
    let front : take (stated bs) bs ≡ written i ps =
    ap₂ (λ (n : ℕ) (y : List ℕ). take n y) r.2 e ∙ take_at (written i ps) z (length (written i ps)) refl in
    let body : drop 8 (take (stated bs) bs) ≡ write_parts (parts_of (sections_of ps)) =
    ap (drop 8) front ∙ behind_header i ps ∙ ap write_parts (sym flat) in
    let lf : length (write_parts (parts_of (sections_of ps))) ≡ length (write_parts ps) = ap (λ (y : List Part). length (write_parts y)) flat in
    let st = r.2 in
    let hold : Hold (header_checks full bs) =
    (le-leb 8 (length bs) (omega arith), (ap known_id r.0 ∙ k, (r.1, (a, (r.3, tt))))) in
    tests_lead 0 (header_checks full bs) _ hold
    ∙ ap₂ (λ (x : Bool) (y : List ℕ). sections (suc (stated bs)) full x [] 8 y) (ap external r.0) body
    ∙ sections_found (suc (stated bs)) full (external i) [] 8 (sections_of ps) (omega arith) (omega arith) g.each g.pairs info

-- ---- the rules of the sections and those of the flat choice

-- Good sections laid flat are a choice that keeps the rules.
pub good_choice : (full : Bool) (i : ℕ) (ss : List Section) → i < 256 → GoodSections full (external i) ss → Choice i (parts_of ss)
good_choice full i ss h g =
    let f = flat_good full (external i) ss g.each in
    record {
      identifier = h;
      bytes = all_map (GoodPart (external i)) (λ (p : Part). All Bytes p.fields) (λ p q. q.bytes) (parts_of ss) f;
      fit = all_map (GoodPart (external i)) (λ (p : Part). fits [] (layout p.kind) p.fields ≡ true) (λ p q. q.fit) (parts_of ss) f;
      joined = flat_joins full (external i) ss g.each 0;
    }

pub good_lawful : (full : Bool) (i : ℕ) (ss : List Section) → known_id i ≡ true → GoodSections full (external i) ss → Lawful i (parts_of ss)
good_lawful full i ss k g =
    let x : Bool = external i in
    let back : sections_of (parts_of ss) ≡ ss = group_flat ss (grouped full x ss g.each) in
    record {
      identifier = k;
      fields = all_map (GoodPart x) (λ (p : Part). Kept (checks x p.kind p.fields)) (λ p q. q.kept) (parts_of ss)
          (flat_good full x ss g.each);
      sections = rw back g.pairs;
      tags = rw back (all_map (GoodSection full x) (λ (s : Section). Pairwise other_kind s.subs) (λ s q. q.tags) ss g.each);
      masks = rw back (all_map (GoodSection full x) (λ (s : Section). mask_covers s.subs ≡ true) (λ s q. q.masks) ss g.each);
    }

good_complete : (x : Bool) (ss : List Section) → GoodSections true x ss → kind_before information ss ≡ true → Complete (parts_of ss)
good_complete x ss g k =
    let back : sections_of (parts_of ss) ≡ ss = group_flat ss (grouped true x ss g.each) in
    record {
      section14 = flat_has information ss k;
      within = rw back (all_map (GoodSection true x) (λ (s : Section). has_required s ≡ true) (λ s q. q.required) ss g.each);
    }

-- Each part of a choice that keeps the rules is good.
pub choice_parts : (x : Bool) (ps : List Part) → All (λ (p : Part). All Bytes p.fields) ps
    → All (λ (p : Part). fits [] (layout p.kind) p.fields ≡ true) ps → All (λ (p : Part). Kept (checks x p.kind p.fields)) ps
    → All (GoodPart x) ps
choice_parts x [] a b c = tt
choice_parts x (p ∷ ps) a b c = (record { fit = b.0; bytes = a.0; kept = c.0 }, choice_parts x ps a.1 b.1 c.1)

-- The sections of a choice that keeps the rules are good.
pub lawful_good : (full : Bool) (i : ℕ) (ps : List Part) → Choice i ps → Lawful i ps
    → All (λ (s : Section). (not full || has_required s) ≡ true) (sections_of ps) → GoodSections full (external i) (sections_of ps)
lawful_good full i ps c l r = record {
  each = choice_good full (external i) ps (choice_parts (external i) ps c.bytes c.fit l.fields) c.joined l.tags l.masks r;
  pairs = l.sections;
}

-- ---- accepted exactly when legal

-- What the reading of a token accepts is legal; its parts are those found.
pub read_legal : (bs : List ℕ) (ss : List Section) → Bytes bs → reading true bs ≡ found ss → Legal bs
read_legal bs ss b e =
    let r = reading_sound true bs ss b e in
    let i : ℕ = id_of bs in
    let ps : List Part = parts_of ss in
    let n = whole_token bs ss e in
    let lw = written_length i ps in
    let same : written i ps ≡ bs = r.form ∙ take_all (stated bs) bs (omega arith) in
    let ls = ap length same in
    let eight = r.eight in
    let most = r.most in
    let choice = good_choice true i ss r.byte r.good in
    let complete = good_complete (external i) ss r.good r.informed in
    let protected = has_protection ss
    (all_map (GoodSection true (external i)) (λ (s : Section). has_required s ≡ true) (λ s q. q.required) ss r.good.each) r.informed in
    let long = required_long ps choice.fit complete.section14 protected in
    record {
      id = i;
      parts = ps;
      form = record { choice = choice; parts = stateable ps (omega arith); whole = omega arith; same = same };
      at_least = omega arith;
      at_most = omega arith;
      lawful = good_lawful true i ss r.known r.good;
      complete = complete;
    }

-- What is written from a choice that keeps the rules, and is short enough, is legal: that it has 80 bytes follows.
pub written_legal : (i : ℕ) (ps : List Part) (bs : List ℕ) → WrittenForm i ps bs → length bs ≤ longest → Lawful i ps → Complete ps → Legal bs
written_legal i ps bs w h l c =
    let x : Bool = external i in
    let parts = choice_parts x ps w.choice.bytes w.choice.fit l.fields in
    let flat = choice_flat x ps parts w.choice.joined in
    let informed = has_section information ps refl c.section14 in
    let protected : has protection ps ≡ true = rw flat at (has_protection (sections_of ps) c.within informed) in
    let long = required_long ps w.choice.fit c.section14 protected in
    let lw = written_length i ps in
    let ls = ap length w.same in
    record { id = i; parts = ps; form = w; at_least = omega arith; at_most = h; lawful = l; complete = c }

-- Every legal token is accepted, as the sections of its parts.
pub legal_read : (bs : List ℕ) (l : Legal bs) → reading true bs ≡ found (sections_of l.parts)
legal_read bs l =
    let i : ℕ = l.id in
    let ps : List Part = l.parts in
    let c = l.form.choice in
    let e : bs ≡ written i ps ++ [] = sym l.form.same ∙ sym (append-nil (written i ps)) in
    let lb : length bs ≡ length (written i ps) = ap length (sym l.form.same) in
    let small = l.form.whole in
    let most = l.at_most in
    let st = (header_read i ps bs [] small e).2 in
    let parts = choice_parts (external i) ps c.bytes c.fit l.lawful.fields in
    reading_complete true i ps bs [] e l.lawful.identifier
    (and_join _ _ (le-leb (length bs) longest most) (eq-eqb (stated bs) (length bs) (st ∙ sym lb)))
    small
    (lawful_good true i ps c l.lawful l.complete.within)
    (choice_flat (external i) ps parts c.joined)
    (has_section information ps refl l.complete.section14)
