-- One subsection, by what its check answers: the outcome that the definition gives.
use Rattle.std.specs.Prelude.{⊤, Result, Ok, Err}
use mathlib.Core.Path.{◌≡◌, refl, sym, ap, ap₂, ◌∙◌}
use mathlib.Core.Bool.{Bool, true, false, ◌||◌, or-false, or_assoc}
use mathlib.Core.List.{List, [], ◌∷◌, ◌++◌, append-nil}
use mathlib.Core.Option.{Option, none, some}
use Prim.Native.Nat.{ℕ, suc, ◌+◌, ◌-◌, ◌<◌, ◌≤◌}
use native.Mathlib.Nat.{add-zero}
use native.Mathlib.Omega.{arith}
use lib.Dec.{leb}
use lib.ListN.{length, drop, length-append}
use lib.Seq.{drop-drop}
use borrow.Author.Tests.{le-leb, lt-leb}
use Rattle.format.specs.Bytes.{number, bytes_at}
use Rattle.format.specs.Parts.{Kind, same_kind, Part}
use Rattle.format.specs.Reading.{subsection_kind, Fault, fault, Test, Outcome, refused, found, need, and_then, tested, as_answer, stated, part_in, subsection_checks, subsection}
use Rattle.format.specs.Rules.{has, of_kind}
use Rattle.format.specs.declared.Refusal.{Refusal}
use Rattle.format.proofs.Beginnings.{kind_join}
use Rattle.format.proofs.Tests.{need_passed, then_found, tests_lead}
use Rattle.format.proofs.Turns.{subsections_from, subs_more, sub_step}
use Rattle.read_sections.specs.Refusals.{whether, first_refusal}
use Rattle.read_sections.proofs.Laws.{all_hold, at_drop, either, test_passes, test_fails}

-- ---- lists of tests

-- A refusal that is told as r.
pub record RefusedAs {A : Type 0} (o : Outcome A) (r : Refusal) : Type 0 where
  pub why : Fault
  pub same : o ≡ refused why
  pub told : r ≡ record { number = why.number; place = why.place }

-- It is told as such, whatever would be counted, and it goes straight out.
pub refused_told : {A : Type 0} {o : Outcome A} {r : Refusal} (f : A → ℕ) → RefusedAs o r → Err r ≡ as_answer f o
unfolding as_answer
refused_told f w = ap (λ (r : Refusal). Err r) w.told ∙ sym (ap (as_answer f) w.same)

pub refused_then : {A B : Type 0} {o : Outcome A} {r : Refusal} (next : A → Outcome B) → RefusedAs o r → RefusedAs (and_then o next) r
unfolding and_then
refused_then next w = record { why = w.why; same = ap (λ y. and_then y next) w.same; told = w.told }

pub refused_same : {A : Type 0} {o p : Outcome A} {r : Refusal} → o ≡ p → RefusedAs p r → RefusedAs o r
refused_same e w = record { why = w.why; same = e ∙ w.same; told = w.told }

-- What a check answers with a refusal is refused with it.
pub refused_by : {A : Type 0} {r : Refusal} (o : Outcome A) → Err r ≡ whether o → RefusedAs o r
unfolding whether
refused_by (refused f) e = record { why = f; same = refl; told = cc }
refused_by (found a) e = absurd (let o : ◌≡◌ {A = ℕ} 0 1 = cc in omega arith)

-- The tests of a list stop at the first that fails.
pub stops : {A : Type 0} {r : Refusal} (p : ℕ) (cs : List Test) (rest : Outcome A) → Err r ≡ first_refusal p cs → RefusedAs (tested p cs rest) r
unfolding tested first_refusal whether need
stops p [] rest e = absurd (let o : ◌≡◌ {A = ℕ} 0 1 = cc in omega arith)
stops p (c ∷ cs) rest e =
    either c.holds
    (λ h. refused_same (need_passed c.holds _ (tested p cs rest) h) (stops p cs rest (e ∙ test_passes p c cs h)))
    (λ h. record { why = fault c.refusal p (p + c.offset); same = rw h; told = let q = e ∙ test_fails p c cs h in cc })

-- Where none fails they lead to the rest.
pub leads : {A : Type 0} {u : ⊤} (p : ℕ) (cs : List Test) (rest : Outcome A) → Ok u ≡ first_refusal p cs → tested p cs rest ≡ rest
leads p cs rest e = tests_lead p cs rest (all_hold p cs e)

-- What is found after the tests does not matter to whether one refuses.
checked : {A : Type 0} (p : ℕ) (cs : List Test) (a : A) → whether (tested p cs (found a)) ≡ first_refusal p cs
unfolding tested first_refusal whether need
checked p [] a = refl
checked p (c ∷ cs) a =
    either c.holds
    (λ h. ap whether (need_passed c.holds _ (tested p cs (found a)) h) ∙ checked p cs a ∙ sym (test_passes p c cs h))
    (λ h. rw h)

-- The offset 0 of a part is its place.
pub at_start : {w : Refusal} {n p : ℕ} → w ≡ record { number = n; place = p + 0 } → w ≡ record { number = n; place = p }
at_start {n = n} e = e ∙ ap (λ (i : ℕ). record { number = n; place = i }) (omega arith)

-- ---- a subsection, by its tag

module _ (x : Bool) (o : Kind) (before : List Part) (at n : ℕ) (r : List ℕ) where
  -- The subsection's outcome by the kind that its tag tells.
  abbrev by_kind : Option Kind → Outcome Part
  by_kind m = elim m [ none ↦ refused (fault 13 at at) | some k ↦ tested at (subsection_checks x k (has k before) n r) (found (part_in k r)) ]

  told_by : {b : Bool} {m : Option Kind} → leb 4 n ≡ b → subsection_kind o (number (bytes_at r 0 2)) ≡ m
      → whether (subsection x o before at n r) ≡ whether (need b (fault 12 at at) (by_kind m))
  unfolding subsection
  told_by h e = ap₂ (λ (b : Bool) (y : Option Kind). whether (need b (fault 12 at at) (by_kind y))) h e

  -- Under four bytes.
  pub sub_short : {w : Refusal} → w ≡ record { number = 12; place = at } → n < 4 → Err w ≡ whether (subsection x o before at n r)
  unfolding whether need
  sub_short e h = ap (λ (v : Refusal). Err v) e ∙ sym (told_by (lt-leb 4 n h) refl)

  -- A tag that is unknown here.
  pub sub_unknown : {w : Refusal} → w ≡ record { number = 13; place = at } → 4 ≤ n → subsection_kind o (number (bytes_at r 0 2)) ≡ none
      → Err w ≡ whether (subsection x o before at n r)
  unfolding whether need
  sub_unknown e h q = ap (λ (v : Refusal). Err v) e ∙ sym (told_by (le-leb 4 n h) q)

  -- A tag of a kind: the first refusal of its tests.
  pub sub_known : {a : Result ⊤ Refusal} (k : Kind) (seen : Bool) → 4 ≤ n → subsection_kind o (number (bytes_at r 0 2)) ≡ some k → has k before ≡ seen
      → a ≡ first_refusal at (subsection_checks x k seen n r) → a ≡ whether (subsection x o before at n r)
  unfolding need
  sub_known k seen h e q w =
      w
      ∙ ap (λ (b : Bool). first_refusal at (subsection_checks x k b n r)) (sym q)
      ∙ sym (checked at (subsection_checks x k (has k before) n r) (part_in k r))
      ∙ sym (told_by (le-leb 4 n h) e)

  -- One that no check refuses is found, as the kind that its tag tells.
  pub record FoundAs : Type 0 where
    pub kind : Kind
    pub told : subsection_kind o (number (bytes_at r 0 2)) ≡ some kind
    pub same : subsection x o before at n r ≡ found (part_in kind r)

  find_kind : {u : ⊤} (b : Bool) (m : Option Kind) → leb 4 n ≡ b → subsection_kind o (number (bytes_at r 0 2)) ≡ m
      → Ok u ≡ whether (need b (fault 12 at at) (by_kind m)) → FoundAs
  unfolding subsection need whether
  find_kind false m q w e = absurd (let z : ◌≡◌ {A = ℕ} 0 1 = cc in omega arith)
  find_kind true none q w e = absurd (let z : ◌≡◌ {A = ℕ} 0 1 = cc in omega arith)
  find_kind true (some k) q w e = record {
    kind = k;
    told = w;
    same =
        ap₂ (λ (c : Bool) (y : Option Kind). need c (fault 12 at at) (by_kind y)) q w
        ∙ leads at (subsection_checks x k (has k before) n r) (found (part_in k r)) (e ∙ checked at (subsection_checks x k (has k before) n r) (part_in k r));
  }

  pub sub_finds : {u : ⊤} → Ok u ≡ whether (subsection x o before at n r) → FoundAs
  sub_finds e = find_kind (leb 4 n) (subsection_kind o (number (bytes_at r 0 2))) refl refl (e ∙ told_by refl refl)

-- What is told of the bytes of a part is told of the section's, from its offset on.
pub told_of : {a : Result ⊤ Refusal} {r t : List ℕ} {at p m n : ℕ} (x : Bool) (o : Kind) (before : List Part) → (r ≡ t) × (at ≡ p) × (m ≡ n)
    → a ≡ whether (subsection x o before at m r) → a ≡ whether (subsection x o before p n t)
told_of {t = t} {at = at} {n = n} x o before e f =
    f ∙ ap₂ (λ (m : ℕ) (r : List ℕ). whether (subsection x o before at m r)) e.2 e.0 ∙ ap (λ (p : ℕ). whether (subsection x o before p n t)) e.1

-- ---- a turn of the loop over the subsections of a section, whose bytes are r, at a place; its length is e

-- After an offset, the bytes at offset 0 stand at the offset.
pub at_here : (r : List ℕ) (q n : ℕ) → number (bytes_at (drop q r) 0 n) ≡ number (bytes_at r q n)
at_here r q n = ap number (at_drop r q 0 n ∙ ap (λ (i : ℕ). bytes_at r i n) (add-zero q))

module _ (r : List ℕ) (at : ℕ) (x : Bool) (o : Kind) (done : List Part) (q e : ℕ) (h : q < e) where
  -- The subsection at offset q is refused: so are the subsections from there on.
  pub loop_stops : {w : Refusal} → Err w ≡ whether (subsection x o done (at + q) (e - q) (drop q r))
      → RefusedAs (subsections_from x o done (at + q) (e - q) (drop q r)) w
  loop_stops f =
      refused_same (subs_more x o done (at + q) (e - q) (drop q r) (omega arith))
      (refused_then _ (refused_by (subsection x o done (at + q) (e - q) (drop q r)) f))

  -- The subsection at q is found: it has four bytes and ends within the section.
  pub loop_room : {u : ⊤} → Ok u ≡ whether (subsection x o done (at + q) (e - q) (drop q r))
      → (4 ≤ number (bytes_at r (q + 2) 2)) × (number (bytes_at r (q + 2) 2) ≤ e - q)
  loop_room f =
      let g = sub_finds x o done (at + q) (e - q) (drop q r) f in
      let w = sub_step x o done (at + q) (e - q) (drop q r) (part_in g.kind (drop q r)) g.same in
      let l : stated (drop q r) ≡ number (bytes_at r (q + 2) 2) = ap number (at_drop r q 2 2) in
      (omega (arith, w.0), omega (arith, w.1))

  -- Then the loop goes on after it, t bytes further, with that part after the earlier ones.
  pub record GoesOn (t : ℕ) : Type 0 where
    pub kind : Kind
    pub told : subsection_kind o (number (bytes_at r q 2)) ≡ some kind
    pub same : subsections_from x o (done ++ part_in kind (drop q r) ∷ []) (at + (q + t)) (e - (q + t)) (drop (q + t) r)
        ≡ subsections_from x o done (at + q) (e - q) (drop q r)

  pub loop_on : {u : ⊤} {t : ℕ} → Ok u ≡ whether (subsection x o done (at + q) (e - q) (drop q r)) → t ≡ number (bytes_at r (q + 2) 2) → GoesOn t
  loop_on {t = t} f l =
      let g = sub_finds x o done (at + q) (e - q) (drop q r) f in
      let w = loop_room f in
      let st : stated (drop q r) ≡ t = ap number (at_drop r q 2 2) ∙ sym l in
      let rest : drop (stated (drop q r)) (drop q r) ≡ drop (q + t) r = ap (λ (y : ℕ). drop y (drop q r)) st ∙ drop-drop t q r in
      let left : e - q - stated (drop q r) ≡ e - (q + t) = omega arith in
      let place : at + q + stated (drop q r) ≡ at + (q + t) = omega (arith, st) in
      let more : List Part = done ++ part_in g.kind (drop q r) ∷ [] in
      record {
        kind = g.kind;
        told = sym (ap (subsection_kind o) (at_here r q 2)) ∙ g.told;
        same =
            sym
            (subs_more x o done (at + q) (e - q) (drop q r) (omega arith)
            ∙ then_found _ g.same
            ∙ ap₂ (λ (a : ℕ) (y : List ℕ). subsections_from x o more (at + q + stated (drop q r)) a y) left rest
            ∙ ap (λ (a : ℕ). subsections_from x o more a (e - (q + t)) (drop (q + t) r)) place);
      }

-- ---- lists with one part more

pub has_last : (k : Kind) (us : List Part) (p : Part) → has k (us ++ p ∷ []) ≡ (has k us || same_kind k p.kind)
has_last k [] p = or-false (same_kind k p.kind)
has_last k (u ∷ us) p =
    ap (λ (b : Bool). same_kind k u.kind || b) (has_last k us p)
    ∙ sym (or_assoc (same_kind k u.kind) (has k us) (same_kind k p.kind))

-- A part of another kind leaves the parts of this one.
pub kind_other : (k : Kind) (us : List Part) (u : Part) → same_kind k u.kind ≡ false → of_kind k (us ++ u ∷ []) ≡ of_kind k us
kind_other k us u e =
    kind_join k us (u ∷ [])
    ∙ ap (λ (b : Bool). of_kind k us ++ elim b as (λ y. List Part) [ true ↦ u ∷ [] | false ↦ [] ]) e
    ∙ append-nil (of_kind k us)

pub length_last : (us : List Part) (p : Part) → length (us ++ p ∷ []) ≡ suc (length us)
length_last us p = length-append us (p ∷ []) ∙ omega arith
