-- Going past one field: its length, and the counts after it.
use mathlib.Core.Path.{◌≡◌, refl, sym, ap, ◌∙◌, subst}
use mathlib.Core.Bool.{Bool, true, false, ◌&&◌}
use mathlib.Core.List.{List, [], ◌∷◌, ◌++◌}
use Prim.Native.Nat.{ℕ, zero, suc, ◌+◌, ◌<◌, ◌≤◌}
use native.Mathlib.Omega.{arith}
use lib.Dec.{ltb}
use lib.ListN.{length, get_or, set, drop, take, length-append, length-set, get_or-append}
use lib.Seq.{get_or-append_seam, drop-drop}
use borrow.Author.Tests.{ltb-true, ltb-false}
use Rattle.std.proofs.lemmas.List.{get_or-set_same, get_or-set_other}
use Rattle.format.specs.Bytes.{number, bytes_at}
use Rattle.format.specs.Layout.{Item, code, zeros, own, count, fixed, counted}
use Rattle.format.specs.Slots.{slots}
use Rattle.format.specs.Parts.{Kind, layout}
use Rattle.format.proofs.Finding.{and_split, every_kind}
use Rattle.view_layouts.specs.Widths.{width_of, IsHeld, length_of, HasRoom, counts_after}
use Rattle.view_layouts.specs.declared.Counts.{Counts}

-- ---- what is computed of all layouts: they have two counts, of one or two bytes

-- The field, after c counts.
abbrev pub sound : ℕ → Item → Bool
sound c (code w v) = true
sound c (zeros n q) = true
sound c (own w) = true
sound c (count w k) = ltb c 2 && (ltb 0 w && ltb w 3)
sound c (fixed n) = true
sound c (counted j) = ltb j 2

-- How many counts stand after it.
abbrev pub counts_behind : ℕ → Item → ℕ
counts_behind c (code w v) = c
counts_behind c (zeros n q) = c
counts_behind c (own w) = c
counts_behind c (count w k) = suc c
counts_behind c (fixed n) = c
counts_behind c (counted j) = c

abbrev pub all_sound : ℕ → List Item → Bool
all_sound c [] = true
all_sound c (i ∷ l) = sound c i && all_sound (counts_behind c i) l

pub layout_sound : (k : Kind) → all_sound 0 (layout k) ≡ true
layout_sound k = every_kind (λ j. all_sound 0 (layout j)) refl k

count_sound : (c w k : ℕ) → sound c (count w k) ≡ true → (c < 2) × (0 < w) × (w < 3)
count_sound c w k e =
    let a = and_split (ltb c 2) (ltb 0 w && ltb w 3) e in
    let b = and_split (ltb 0 w) (ltb w 3) a.1 in
    (ltb-true c 2 a.0, ltb-true 0 w b.0, ltb-true w 3 b.1)

-- ---- one field

-- The length of a field, after the counts ns.
abbrev pub item_width : List ℕ → Item → ℕ
item_width ns (code w v) = w
item_width ns (zeros n q) = n
item_width ns (own w) = w
item_width ns (count w k) = w
item_width ns (fixed n) = n
item_width ns (counted j) = get_or ns j 0

-- The counts after a field that lies at o.
abbrev pub counts_past : List ℕ → Item → List ℕ → ℕ → List ℕ
counts_past ns (code w v) bs o = ns
counts_past ns (zeros n q) bs o = ns
counts_past ns (own w) bs o = ns
counts_past ns (count w k) bs o = ns ++ (number (bytes_at bs o w) ∷ [])
counts_past ns (fixed n) bs o = ns
counts_past ns (counted j) bs o = ns

-- The first slot and those after it.
pub slots_first : (i : Item) (l : List Item) (ns bs : List ℕ) (o : ℕ)
    → slots ns (i ∷ l) bs o
    ≡ record { item = i; offset = o; width = item_width ns i } ∷ slots (counts_past ns i bs o) l bs (o + item_width ns i)
slots_first (code w v) l ns bs o = refl
slots_first (zeros n q) l ns bs o = refl
slots_first (own w) l ns bs o = refl
slots_first (count w k) l ns bs o = refl
slots_first (fixed n) l ns bs o = refl
slots_first (counted j) l ns bs o = refl

pub counts_length : (i : Item) (ns bs : List ℕ) (o : ℕ) → length (counts_past ns i bs o) ≡ counts_behind (length ns) i
counts_length (code w v) ns bs o = refl
counts_length (zeros n q) ns bs o = refl
counts_length (own w) ns bs o = refl
counts_length (count w k) ns bs o = length-append ns (number (bytes_at bs o w) ∷ []) ∙ omega arith
counts_length (fixed n) ns bs o = refl
counts_length (counted j) ns bs o = refl

-- ---- the counts that the code holds

-- They are the counts ns, of which there are at most two.
pub record Holds (ns : List ℕ) (c : Counts) : Type 0 where
  pub passed : c.passed ≡ length ns
  pub two : length c.numbers ≡ 2
  pub same : (j : ℕ) → j < 2 → get_or c.numbers j 0 ≡ get_or ns j 0

-- None at first.
pub none_held : Holds [] (record { numbers = 0 ∷ 0 ∷ []; passed = 0 })
none_held = record { passed = refl; two = refl; same = none }
  where
    none : (j : ℕ) → j < 2 → ◌≡◌ {A = ℕ} (get_or (0 ∷ 0 ∷ []) j 0) 0
    none zero h = refl
    none (suc zero) h = refl
    none (suc (suc j)) h = absurd (omega arith)

pub is_held : (i : Item) (c : ℕ) → sound c i ≡ true → IsHeld (width_of i)
is_held (code w v) c e = tt
is_held (zeros n q) c e = tt
is_held (own w) c e = tt
is_held (count w k) c e = tt
is_held (fixed n) c e = tt
is_held (counted j) c e = ltb-true j 2 e

pub length_told : (i : Item) (ns : List ℕ) {c : Counts} → Holds ns c → sound (length ns) i ≡ true → length_of c (width_of i) ≡ item_width ns i
length_told (code w v) ns h e = refl
length_told (zeros n q) ns h e = refl
length_told (own w) ns h e = refl
length_told (count w k) ns h e = refl
length_told (fixed n) ns h e = refl
length_told (counted j) ns h e = h.same j (ltb-true j 2 e)

pub has_room : (i : Item) (s ns : List ℕ) (o : ℕ) {c : Counts} → Holds ns c → sound (length ns) i ≡ true → o + item_width ns i ≤ length s
    → HasRoom s o c (width_of i)
has_room (code w v) s ns o h e l = tt
has_room (zeros n q) s ns o h e l = tt
has_room (own w) s ns o h e l = tt
has_room (count w k) s ns o h e l = let t = count_sound (length ns) w k e in (t.1, t.2, l, omega (arith, h.passed))
has_room (fixed n) s ns o h e l = tt
has_room (counted j) s ns o h e l = tt

-- A later count leaves those before it, and none stands past it.
count_past : (ns : List ℕ) (v j : ℕ) → length ns < j → get_or (ns ++ (v ∷ [])) j 0 ≡ get_or ns j 0
count_past [] v zero h = absurd (omega arith)
count_past [] v (suc j) h = refl
count_past (x ∷ ns) v zero h = absurd (omega arith)
count_past (x ∷ ns) v (suc j) h = count_past ns v j (omega arith)

-- One more is held.
holds_more : (ns : List ℕ) (v : ℕ) {c : Counts} → Holds ns c → length ns < 2
    → Holds (ns ++ (v ∷ [])) (record { numbers = set c.numbers c.passed v; passed = c.passed + 1 })
holds_more ns v {c} h l = record {
  passed = omega (arith, h.passed, length-append ns (v ∷ []));
  two = length-set c.numbers c.passed v ∙ h.two;
  same = λ j k. go j k (ltb j (length ns)) (ltb (length ns) j) refl refl;
}
  where
    go : (j : ℕ) → j < 2 → (a b : Bool) → ltb j (length ns) ≡ a → ltb (length ns) j ≡ b
        → get_or (set c.numbers c.passed v) j 0 ≡ get_or (ns ++ (v ∷ [])) j 0
    go j k true b p q =
        let m = ltb-true j (length ns) p in
        get_or-set_other c.numbers c.passed j v 0 (λ e. omega (arith, h.passed))
        ∙ h.same j k ∙ sym (get_or-append ns (v ∷ []) 0 j m)
    go j k false true p q =
        let m = ltb-true (length ns) j q in
        get_or-set_other c.numbers c.passed j v 0 (λ e. omega (arith, h.passed))
        ∙ h.same j k ∙ sym (count_past ns v j m)
    go j k false false p q =
        let m = ltb-false j (length ns) p in
        let n = ltb-false (length ns) j q in
        let z : j ≡ length ns = omega arith in
        let y : j ≡ c.passed = omega (arith, h.passed) in
        ap (λ (i : ℕ). get_or (set c.numbers c.passed v) i 0) y
        ∙ get_or-set_same c.numbers c.passed v 0 (omega (arith, h.passed, h.two))
        ∙ sym (ap (λ (i : ℕ). get_or (ns ++ (v ∷ [])) i 0) z ∙ get_or-append_seam ns v [] 0)

bytes_behind : (s : List ℕ) (at o n : ℕ) → bytes_at s (at + o) n ≡ bytes_at (drop at s) o n
unfolding bytes_at
bytes_behind s at o n = ap (take n) (sym (drop-drop o at s))

-- After the field that lies at o the counts are those after it.
pub holds_on : (i : Item) (s ns : List ℕ) (at o : ℕ) {c : Counts} → Holds ns c → sound (length ns) i ≡ true
    → Holds (counts_past ns i (drop at s) o) (counts_after s (at + o) c (width_of i))
holds_on (code w v) s ns at o h e = h
holds_on (zeros n q) s ns at o h e = h
holds_on (own w) s ns at o h e = h
holds_on (count w k) s ns at o {c} h e =
    subst
    (λ (v : ℕ). Holds (ns ++ (number (bytes_at (drop at s) o w) ∷ [])) (record { numbers = set c.numbers c.passed v; passed = c.passed + 1 }))
    (ap number (sym (bytes_behind s at o w)))
    (holds_more ns (number (bytes_at (drop at s) o w)) h (count_sound (length ns) w k e).0)
holds_on (fixed n) s ns at o h e = h
holds_on (counted j) s ns at o h e = h
