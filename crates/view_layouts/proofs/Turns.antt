-- The walk through a layout, field by field.
use mathlib.Core.Path.{◌≡◌, refl, sym, ap, ap₂, ◌∙◌, subst}
use mathlib.Core.Bool.{true}
use mathlib.Core.List.{List, [], ◌∷◌, map}
use mathlib.Core.Option.{Option, none, some}
use Prim.Native.Nat.{ℕ, zero, suc, ◌+◌, ◌-◌, ◌<◌, ◌≤◌}
use native.Mathlib.Omega.{arith}
use native.Mathlib.Numerals.{add-one}
use lib.ListN.{length, get_or, drop, get_elem?, drop_of_length-le}
use lib.Seq.{drop-cons}
use Rattle.format.specs.Layout.{Item}
use Rattle.format.specs.Slots.{Slot, slots, end_of}
use Rattle.format.specs.Parts.{Kind, kind_number, is_subsection, section_id, tag, body, layout, Part}
use Rattle.format.specs.KindNames.{named}
use Rattle.format.specs.Views.{slot_of}
use Rattle.format.specs.Answers.{Where, At, Missing}
use Rattle.format.specs.declared.kinds.Kind as Names
use Rattle.format.proofs.Finding.{and_split, number_told}
use Rattle.format.proofs.PartForm.{frame_fields}
use Rattle.format.proofs.Slots.{end_le}
use Rattle.view_layouts.specs.Widths.{width_of, widths_of, IsHeld, length_of, HasRoom, counts_after, Standing, InSlot}
use Rattle.view_layouts.specs.declared.Counts.{Counts}
use Rattle.view_layouts.specs.declared.Width.{Width}
use Rattle.view_layouts.specs.declared.Width.TheVariants.{Bytes}
use Rattle.view_layouts.proofs.Passing.{sound, counts_behind, all_sound, layout_sound, item_width, counts_past, slots_first, counts_length}
use Rattle.view_layouts.proofs.Passing.{Holds, is_held, length_told, has_room, holds_on}

-- Where a field lies, its slot given.
abbrev of_slot : ℕ → Option Slot → Where
of_slot at o = elim o as (λ y. Where) [ none ↦ Missing 22 0 | some s ↦ At (at + s.offset) s.width ]

-- The items that are left, from number i on, lie from place o on, after the counts that c holds; the field that is asked for is
-- among them or behind them.
pub record Lying (s : List ℕ) (at kind field i o : ℕ) (c : Counts) (items : List Item) : Type 0 where
  pub standing : Standing s at kind
  pub counts : List ℕ
  pub offset : ℕ
  pub ahead : i ≤ field
  pub place : o ≡ at + offset
  pub sound : all_sound (length counts) items ≡ true
  pub holds : Holds counts c
  pub inside : at + end_of offset (slots counts items (drop at s) offset) ≤ length s
  pub same : (j : ℕ) → get_elem? (slots counts items (drop at s) offset) j ≡ get_elem? (slots [] (layout standing.kind) (drop at s) 0) (i + j)

-- The same, where ws are the lengths that are left.
pub record Walk (s : List ℕ) (at kind field i o : ℕ) (c : Counts) (ws : List Width) : Type 0 where
  pub items : List Item
  pub widths : ws ≡ map width_of items
  pub lying : Lying s at kind field i o c items

-- The first of them has the length w.
pub record Field (s : List ℕ) (at kind field i o : ℕ) (c : Counts) (w : Width) (ws : List Width) : Type 0 where
  pub item : Item
  pub behind : List Item
  pub lying : Lying s at kind field i o c (item ∷ behind)
  pub is : w ≡ width_of item
  pub widths : ws ≡ map width_of behind
  pub sound : sound (length lying.counts) item ≡ true
  pub after : all_sound (counts_behind (length lying.counts) item) behind ≡ true
  pub long : length_of c w ≡ item_width lying.counts item
  pub room : o + item_width lying.counts item ≤ length s

-- The walk starts at the first field.
pub starts : {s : List ℕ} {at kind field : ℕ} {ws : List Width} {c : Counts} (k : Names.Kind) → Standing s at kind → kind ≡ kind_number (named k)
    → ws ≡ widths_of k → Holds [] c → Walk s at kind field 0 at c ws
starts {s} {at} k w n e h =
    let j : Kind = w.kind in
    let f = (frame_fields (is_subsection j) (section_id j) (tag j) (body j) (drop at s)).1 in
    let same : named k ≡ j = number_told (named k) j (sym n ∙ w.told) in
    record {
      items = layout j;
      widths = e ∙ ap (λ (i : Kind). map width_of (layout i)) same;
      lying = record {
        standing = w;
        counts = [];
        offset = 0;
        ahead = omega arith;
        place = omega arith;
        sound = layout_sound j;
        holds = h;
        inside = omega (arith, w.inside, f);
        same = λ i. ap (get_elem? (slots [] (layout j) (drop at s) 0)) (let z : i ≡ 0 + i = omega arith in z);
      };
    }

-- The kind at the place is told by its number.
same_kind_is : {s : List ℕ} {at n : ℕ} (w : Standing s at n) (p : Part) → n ≡ kind_number p.kind → (field : ℕ)
    → get_elem? (slots [] (layout p.kind) (drop at s) 0) field ≡ get_elem? (slots [] (layout w.kind) (drop at s) 0) field
same_kind_is {s} {at} w p q field =
    ap (λ (k : Kind). get_elem? (slots [] (layout k) (drop at s) 0) field) (number_told p.kind w.kind (sym q ∙ w.told))

module _ {s : List ℕ} {at kind field i o : ℕ} {c : Counts} {w : Width} {ws : List Width} where
  here : Walk s at kind field i o c (w ∷ ws) → Field s at kind field i o c w ws
  here y = go y.items y.widths y.lying
    where
      go : (l : List Item) → w ∷ ws ≡ map width_of l → Lying s at kind field i o c l → Field s at kind field i o c w ws
      go [] e y = absurd (let z : ◌≡◌ {A = ℕ} 0 1 = cc in omega arith)
      go (x ∷ l) e y =
          let ns : List ℕ = y.counts in
          let d = and_split (sound (length ns) x) (all_sound (counts_behind (length ns) x) l) y.sound in
          let f = ap (end_of y.offset) (slots_first x l ns (drop at s) y.offset) in
          let g = end_le l (counts_past ns x (drop at s) y.offset) (drop at s) (y.offset + item_width ns x) in
          let q : w ≡ width_of x = cc in
          record {
            item = x;
            behind = l;
            lying = y;
            is = q;
            widths = cc;
            sound = d.0;
            after = d.1;
            long = ap (length_of c) q ∙ length_told x ns y.holds d.0;
            room = omega (arith, y.inside, y.place);
          }

  module _ (y : Field s at kind field i o c w ws) where
    pub held_here : IsHeld w
    held_here = subst IsHeld (sym y.is) (is_held y.item (length y.lying.counts) y.sound)

    pub room_here : HasRoom s o c w
    room_here = subst (HasRoom s o c) (sym y.is) (has_room y.item s y.lying.counts o y.lying.holds y.sound y.room)

    -- The first field is the one that is asked for.
    pub lies_here : i ≡ field → {n : ℕ} → n ≡ length_of c w → InSlot s at kind field (At o n)
    lies_here e {n} l p q =
        let x = y.lying in
        let r : List ℕ = drop at s in
        let z : Slot = record { item = y.item; offset = x.offset; width = item_width x.counts y.item } in
        let j : i + 0 ≡ field = omega arith in
        let f : get_elem? (slots [] (layout p.kind) r 0) field ≡ some z =
        same_kind_is x.standing p q field
        ∙ ap (get_elem? (slots [] (layout x.standing.kind) r 0)) (sym j)
        ∙ sym (x.same 0)
        ∙ ap (λ (l : List Slot). get_elem? l 0) (slots_first y.item y.behind x.counts r x.offset) in
        ap₂ At x.place (l ∙ y.long) ∙ sym (ap (of_slot at) f)

    -- The fields after this one.
    pub goes_on : (i ≡ field → ⊥) → {n : ℕ} → n ≡ length_of c w → {d : Counts} → d ≡ counts_after s o c w
        → Walk s at kind field (i + 1) (o + n) d ws
    goes_on h {n} l {d} e =
        let x = y.lying in
        let ns : List ℕ = x.counts in
        let r : List ℕ = drop at s in
        let ms : List ℕ = counts_past ns y.item r x.offset in
        let f = slots_first y.item y.behind ns r x.offset in
        record {
          items = y.behind;
          widths = y.widths;
          lying = record {
            standing = x.standing;
            counts = ms;
            offset = x.offset + item_width ns y.item;
            ahead = omega (arith, x.ahead);
            place = omega (arith, x.place, l, y.long);
            sound = ap (λ (m : ℕ). all_sound m y.behind) (counts_length y.item ns r x.offset) ∙ y.after;
            holds =
                subst (Holds ms) (ap₂ (λ (a : ℕ) (v : Width). counts_after s a c v) (sym x.place) (sym y.is) ∙ sym e)
                (holds_on y.item s ns at x.offset x.holds y.sound);
            inside = subst (λ (z : List Slot). at + end_of x.offset z ≤ length s) f x.inside;
            same = λ j.
                sym (ap (λ (z : List Slot). get_elem? z (suc j)) f)
                ∙ x.same (suc j)
                ∙ ap (get_elem? (slots [] (layout x.standing.kind) r 0)) (let z : i + suc j ≡ (i + 1) + j = omega arith in z);
          };
        }

-- Field number i is left where there are more.
pub at_field : {s : List ℕ} {at kind field i o : ℕ} {c : Counts} (ws : List Width) → Walk s at kind field i o c (drop i ws)
    → i < length ws → Field s at kind field i o c (get_or ws i (Bytes 0)) (drop (i + 1) ws)
at_field {s} {at} {kind} {field} {i} {o} {c} ws w h =
    here (subst (Walk s at kind field i o c) (rw (add-one, drop-cons ws i (Bytes 0))) w)

-- After the last field there is none.
pub lies_nowhere : {s : List ℕ} {at kind field i o : ℕ} {c : Counts} (ws : List Width) → Walk s at kind field i o c (drop i ws) → length ws ≤ i
    → InSlot s at kind field (Missing 22 0)
lies_nowhere {s} {at} {kind} {field} {i} {o} {c} ws w h p q = go w.items (sym (drop_of_length-le ws h) ∙ w.widths) w.lying
  where
    go : (l : List Item) → [] ≡ map width_of l → Lying s at kind field i o c l → Missing 22 0 ≡ slot_of s at p field
    go [] e y =
        let j : i + (field - i) ≡ field = omega (arith, y.ahead) in
        sym
        (ap (of_slot at)
        (same_kind_is y.standing p q field
        ∙ ap (get_elem? (slots [] (layout y.standing.kind) (drop at s) 0)) (sym j)
        ∙ sym (y.same (field - i))))
    go (x ∷ l) e y = absurd (let z : ◌≡◌ {A = ℕ} 0 1 = cc in omega arith)

-- An element after the first one.
pub next_element : {A : Type 0} (x : A) (xs : List A) (j : ℕ) → (j ≡ 0 → ⊥) → {o : Option A} → get_elem? (x ∷ xs) j ≡ o
    → get_elem? xs (j - 1) ≡ o
next_element x xs zero h e = absurd (h refl)
next_element x xs (suc j) h e = ap (get_elem? xs) (let z : suc j - 1 ≡ j = omega arith in z) ∙ e
