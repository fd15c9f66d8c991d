-- The slots of a layout lie one after another: laid end to end, their bytes are the bytes that they cut.
use mathlib.Core.Path.{◌≡◌, refl, sym, ap, ◌∙◌}
use mathlib.Core.List.{List, [], ◌∷◌, ◌++◌, append_assoc, map}
use mathlib.Core.Option.{some}
use Prim.Native.Nat.{ℕ, zero, suc, ◌+◌, ◌≤◌}
use native.Mathlib.Omega.{arith}
use lib.ListN.{length, get_or, drop, get_elem?, length-map}
use Rattle.format.specs.Bytes.{number, bytes_at}
use Rattle.format.specs.Layout.{Item, code, zeros, own, count, fixed, counted}
use Rattle.format.specs.Slots.{Slot, slots, slot_bytes, end_of}
use Rattle.format.proofs.Slots.{cut_at}
use Rattle.format.proofs.Elements.{some_inj}

-- The slots are those of the layout's fields, in order.
slot_items : (ns : List ℕ) (l : List Item) (r : List ℕ) (o : ℕ) → map (λ s. s.item) (slots ns l r o) ≡ l
slot_items ns [] r o = refl
slot_items ns (code w v ∷ l) r o = ap (λ y. code w v ∷ y) (slot_items ns l r (o + w))
slot_items ns (zeros n q ∷ l) r o = ap (λ y. zeros n q ∷ y) (slot_items ns l r (o + n))
slot_items ns (own w ∷ l) r o = ap (λ y. own w ∷ y) (slot_items ns l r (o + w))
slot_items ns (count w k ∷ l) r o =
    ap (λ y. count w k ∷ y) (slot_items (ns ++ (number (bytes_at r o w) ∷ [])) l r (o + w))
slot_items ns (fixed n ∷ l) r o = ap (λ y. fixed n ∷ y) (slot_items ns l r (o + n))
slot_items ns (counted c ∷ l) r o = ap (λ y. counted c ∷ y) (slot_items ns l r (o + get_or ns c 0))

-- There is a slot for each field of the layout.
pub slot_count : (ns : List ℕ) (l : List Item) (r : List ℕ) (o : ℕ) → length (slots ns l r o) ≡ length l
slot_count ns l r o = sym (length-map (slots ns l r o) (λ s. s.item)) ∙ ap length (slot_items ns l r o)

-- The bytes of slots, laid end to end.
abbrev pub slotted : List ℕ → List Slot → List ℕ
slotted r [] = []
slotted r (s ∷ ss) = slot_bytes r s ++ slotted r ss

-- A slot in front of others.
slot_cons : (r : List ℕ) (o n : ℕ) (a z : List ℕ) → a ++ z ≡ drop (o + n) r → (bytes_at r o n ++ a) ++ z ≡ drop o r
slot_cons r o n a z e = append_assoc (bytes_at r o n) a z ∙ ap (λ (y : List ℕ). bytes_at r o n ++ y) e ∙ cut_at r o n

-- The slots lie one after another, the first at offset o.
abbrev Contiguous : ℕ → List Slot → Type 0
Contiguous o [] = Unit {0}
Contiguous o (s ∷ ss) = (s.offset ≡ o) × Contiguous (s.offset + s.width) ss

-- The slots of a layout lie one after another.
pub slots_contiguous : (ns : List ℕ) (l : List Item) (r : List ℕ) (o : ℕ) → Contiguous o (slots ns l r o)
slots_contiguous ns [] r o = tt
slots_contiguous ns (code w v ∷ l) r o = (refl, slots_contiguous ns l r (o + w))
slots_contiguous ns (zeros n q ∷ l) r o = (refl, slots_contiguous ns l r (o + n))
slots_contiguous ns (own w ∷ l) r o = (refl, slots_contiguous ns l r (o + w))
slots_contiguous ns (count w k ∷ l) r o = (refl, slots_contiguous (ns ++ (number (bytes_at r o w) ∷ [])) l r (o + w))
slots_contiguous ns (fixed n ∷ l) r o = (refl, slots_contiguous ns l r (o + n))
slots_contiguous ns (counted c ∷ l) r o = (refl, slots_contiguous ns l r (o + get_or ns c 0))

-- The bytes of such slots, and those after the last slot, are the bytes from the first on.
pub slots_tile : (r : List ℕ) (o : ℕ) (ss : List Slot) → Contiguous o ss
    → slotted r ss ++ drop (end_of o ss) r ≡ drop o r
slots_tile r o [] t = refl
slots_tile r o (s ∷ ss) t =
    slot_cons r s.offset s.width _ _ (slots_tile r (s.offset + s.width) ss t.1)
    ∙ ap (λ (n : ℕ). drop n r) t.0

-- They end after their beginning.
slots_end : (o : ℕ) (ss : List Slot) → Contiguous o ss → o ≤ end_of o ss
slots_end o [] t = omega arith
slots_end o (s ∷ ss) t =
    let i = slots_end (s.offset + s.width) ss t.1 in
    let e = t.0 in
    omega arith

-- Each of them ends within the end of all.
pub slots_inside : (o : ℕ) (ss : List Slot) (j : ℕ) (s : Slot) → Contiguous o ss → get_elem? ss j ≡ some s
    → s.offset + s.width ≤ end_of o ss
slots_inside o [] j s t g = absurd (let z : ◌≡◌ {A = ℕ} 0 1 = cc in omega arith)
slots_inside o (q ∷ ss) zero s t g =
    let i = slots_end (q.offset + q.width) ss t.1 in
    let e : q.offset + q.width ≡ s.offset + s.width = ap (λ (u : Slot). u.offset + u.width) (some_inj g) in
    omega arith
slots_inside o (q ∷ ss) (suc j) s t g = slots_inside (q.offset + q.width) ss j s t.1 g
