-- A rule's subsection by its tag, and a turn of the loop over the subsections. Assumes nothing.
use Rattle.std.specs.Prelude.{⊤, Ok, Some, None}
use mathlib.Core.Path.{◌≡◌, refl, sym, ap, ◌∙◌}
use mathlib.Core.Bool.{Bool, true, false}
use mathlib.Core.List.{List, [], ◌∷◌, ◌++◌}
use mathlib.Core.Logic.{⊎_elim}
use mathlib.Core.Option.{Option, none, some}
use Prim.Native.Nat.{ℕ, zero, suc, ◌+◌, ◌-◌, ◌<◌, ◌≤◌}
use native.Mathlib.Omega.{arith}
use lib.Dec.{ltb, leb}
use lib.ListN.{length, get_or, set, drop, length-drop, length-set, replicate, length-replicate, get_or-replicate}
use lib.Seq.{get_or-set_same, get_or-set_other}
use borrow.Author.Tests.{eqb-true, ltb-true, not-true}
use Rattle.format.specs.Bytes.{number, bytes_at}
use Rattle.format.specs.Parts.{Kind, rule, tag, is_subsection, same_kind, Part, size}
use Rattle.format.specs.Reading.{subsection_kind, Outcome, refused, found, fault, tested, stated, made_length, part_in, subsection_checks, subsection}
use Rattle.format.specs.Rules.{has}
use Rattle.format.proofs.Elements.{some_inj}
use Rattle.format.proofs.Finding.{every_kind, same_kind_eq, subsection_kind_sound}
use Rattle.format.proofs.Tests.{needed, tests_passed}
use Rattle.format.proofs.Turns.{subsections_from}
use Rattle.read_rule_ids.proofs.Laws.{same_or}
use Rattle.read_sections.specs.Refusals.{whether}
use Rattle.read_sections.proofs.Laws.{at_drop}
use Rattle.read_sections.proofs.Subs.{FoundAs, sub_finds, at_here, loop_room, loop_on, length_last}
use Rattle.read_rules.specs.Loops.{Place, OfRule, Once, RuleRead}
use Rattle.format.proofs.Reaching.{part_size}
use Rattle.read_rules.proofs.Places.{once_none, once_other, once_here}

-- ---- tags

-- Every tag is below 0006.
pub tag_below : (k : Kind) → tag k < 0x0006
tag_below k = ltb-true (tag k) 0x0006 (every_kind (λ j. ltb (tag j) 0x0006) refl k)

-- A subsection's tag is not 0.
tag_some : (k : Kind) → is_subsection k ≡ true → tag k ≡ 0 → ⊥
tag_some k e z = go (tag k) e z
  where
    go : (n : ℕ) → elim n as (λ x. Bool) [ zero ↦ false | suc m ↦ true ] ≡ true → n ≡ 0 → ⊥
    go zero e z = cc
    go (suc n) e z = omega arith

-- A tag that is none of a rule's tells no kind.
pub tag_unknown : (t : ℕ) → (t ≡ 0x0001 → ⊥) → (t ≡ 0x0002 → ⊥) → (t ≡ 0x0003 → ⊥) → (t ≡ 0x0004 → ⊥) → (t ≡ 0x0005 → ⊥) → subsection_kind rule t ≡ none
tag_unknown t a b c d e = go (subsection_kind rule t) refl
  where
    go : (m : Option Kind) → subsection_kind rule t ≡ m → m ≡ none
    go none f = refl
    go (some k) f =
        let s = subsection_kind_sound rule t k f in
        let below = tag_below k in
        absurd (tag_some k s.0 (let same = s.2 in omega arith))

-- Kinds with different tags are different.
other_tag : (j k : Kind) → (tag j ≡ tag k → ⊥) → same_kind j k ≡ false
other_tag j k d = go (same_kind j k) refl
  where
    go : (b : Bool) → same_kind j k ≡ b → b ≡ false
    go true e = absurd (d (ap tag (same_kind_eq j k e)))
    go false e = refl

-- ---- a turn of the loop

-- What an accepted subsection says: its tag does not stand before, and its counts make its length.
sub_new : (x : Bool) (o k : Kind) (before : List Part) (at n : ℕ) (r : List ℕ) → subsection_kind o (number (bytes_at r 0 2)) ≡ some k
    → subsection x o before at n r ≡ found (part_in k r) → (has k before ≡ false) × (made_length k r ≡ stated r)
unfolding subsection
sub_new x o k before at n r e f =
    let a = (needed (leb 4 n) _ _ (part_in k r) f).1 in
    let b = sym (ap (λ (m : Option Kind). elim m as (λ y. Outcome Part) [ none ↦ refused (fault 13 at at) | some j ↦ tested at (subsection_checks x j (has j before) n r) (found (part_in j r)) ]) e) ∙ a in
    let c = (tests_passed at (subsection_checks x k (has k before) n r) (found (part_in k r)) (part_in k r) b).0 in
    (not-true (has k before) c.1.0, eqb-true (made_length k r) (stated r) c.1.1.1.0)

-- Before the first subsection no tag stands.
unfoldable pub rule_start : (r : List ℕ) (at e : ℕ) → 20 ≤ e → RuleRead r at e 20 1 (replicate 0x0006 None)
rule_start r at e h =
    record {
      done = [];
      six = length-replicate {A = Place} 6 None;
      once = λ k o. rw (get_or-replicate {A = Place} 0x0006 (tag k) None None (tag_below k)) (once_none r at k);
      rows = refl;
      few = omega arith;
      ends = h;
      same = λ x. refl;
    }

module _ {r : List ℕ} {at e q n : ℕ} {places : List Place} (w : RuleRead r at e q n places) (h : q < e) (inside : e ≤ length r) {u : ⊤} {t g : ℕ}
    (f : (x : Bool) → Ok u ≡ whether (subsection x rule w.done (at + q) (e - q) (drop q r))) (l : t ≡ number (bytes_at r (q + 2) 2))
    (l₂ : g ≡ number (bytes_at r q 2)) where
  -- The kind that the tag tells, in a reading of an internal token as in one of an external token.
  read : FoundAs false rule w.done (at + q) (e - q) (drop q r)
  read = sub_finds false rule w.done (at + q) (e - q) (drop q r) (f false)

  -- The tag tells it.
  told : subsection_kind rule g ≡ some read.kind
  told = ap (subsection_kind rule) (l₂ ∙ sym (at_here r q 2)) ∙ read.told

  -- Its tag is the tag that was read.
  tag_told : tag read.kind ≡ g
  tag_told = (subsection_kind_sound rule g read.kind told).2

  -- A tag that was read has its place among the six.
  pub tag_six : g < 0x0006
  tag_six = let b = tag_below read.kind in omega (arith, tag_told)

  -- The part ends within the section, and is as long as it states.
  room : (4 ≤ t) × (t ≤ e - q)
  room = let m = loop_room r at false rule w.done q e h (f false) in (omega (arith, m.0), omega (arith, m.1))

  -- It is the first of its kind, and its counts make the bytes that it states.
  new : (has read.kind w.done ≡ false) × (made_length read.kind (drop q r) ≡ t)
  new =
      let a = sub_new false rule read.kind w.done (at + q) (e - q) (drop q r) read.told read.same in
      (a.0, a.1 ∙ ap number (at_drop r q 2 2) ∙ sym l)

  -- So it is as long.
  long : size (part_in read.kind (drop q r)) ≡ t
  long =
      let d = length-drop q r in
      let m = room.1 in
      part_size read.kind (drop q r) (omega (arith, new.1)) ∙ new.1

  -- Each kind still stands at most once, the one that was read at q.
  once_more : (j : Kind) → OfRule j
      → Once r at (q + t) (w.done ++ part_in read.kind (drop q r) ∷ []) j (get_or (set places g (Some q)) (tag j) None)
  once_more j o =
      let k : Kind = read.kind in
      let u : Part = part_in k (drop q r) in
      let few = w.few in
      let m = room.1 in
      ⊎_elim
      (λ d.
      let same : j ≡ k = some_inj (sym o ∙ ap (subsection_kind rule) d ∙ told) in
      let here : get_or (set places g (Some q)) (tag j) None ≡ Some q = ap (λ (i : ℕ). get_or (set places g (Some q)) i None) d ∙ get_or-set_same places g (Some q) None (omega (arith, w.six, tag_six)) in
      rw (here, same) (once_here t (w.once k (ap (subsection_kind rule) tag_told ∙ told)) new.0 (omega (arith, new.1))))
      (λ d. rw (get_or-set_other places g (tag j) (Some q) None d) (once_other u (w.once j o) (other_tag j k (λ y. d (y ∙ tag_told))) long))
      (same_or (tag j) g)

  -- What is read after the part is what is read from the first one on.
  same_more : (x : Bool) → subsections_from x rule (w.done ++ part_in read.kind (drop q r) ∷ []) (at + (q + t)) (e - (q + t)) (drop (q + t) r)
      ≡ subsections_from x rule [] (at + 20) (e - 20) (drop 20 r)
  same_more x =
      let o = loop_on r at x rule w.done q e h (f x) l in
      let k : o.kind ≡ read.kind = some_inj (sym o.told ∙ ap (subsection_kind rule) (sym l₂) ∙ told) in
      ap (λ (y : Kind). subsections_from x rule (w.done ++ part_in y (drop q r) ∷ []) (at + (q + t)) (e - (q + t)) (drop (q + t) r)) (sym k)
      ∙ o.same
      ∙ w.same x

  -- The loop goes on after the part.
  pub turn_on : RuleRead r at e (q + t) (n + 1) (set places g (Some q))
  turn_on =
      let u : Part = part_in read.kind (drop q r) in
      let lo = room.0 in
      let hi = room.1 in
      let few = w.few in
      let rows = w.rows in
      let last = length_last w.done u in
      record {
        done = w.done ++ u ∷ [];
        six = length-set places g (Some q) ∙ w.six;
        once = once_more;
        rows = omega arith;
        few = omega arith;
        ends = omega arith;
        same = same_more;
      }
