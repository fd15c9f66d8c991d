-- The views of a legal token: each field's bytes, end to end the part's; the refusals for any other row, field or
-- token.
use Rattle.std.specs.Prelude.{Ok, Err}
use mathlib.Core.Path.{◌≡◌, refl, sym, ap, ap₂, ◌∙◌, subst}
use mathlib.Core.Bool.{Bool, true, false}
use mathlib.Core.List.{List, [], ◌∷◌, ◌++◌}
use mathlib.Core.Option.{Option, none, some}
use Prim.Native.Nat.{ℕ, zero, suc, ◌+◌, ◌≤◌, ◌<◌}
use native.Mathlib.Omega.{arith}
use native.Mathlib.Nat.{zero-add, add-zero}
use lib.ListN.{length, get_or, take, drop, get_elem?, length-append, drop_of_length-le}
use lib.Seq.{drop-drop, drop_at}
use Rattle.format.specs.Bytes.{Bytes, number, bytes_at}
use Rattle.format.specs.Layout.{Item, code, zeros, own, count, fixed, counted, Fields, write}
use Rattle.format.specs.Slots.{Slot, slots, slot_bytes, fields_in, end_of}
use mathlib.Core.Logic.{◌↔◌, inl, inr}
use lib.Dec.{leb}
use borrow.Author.Tests.{leb-true, leb-false}
use Rattle.format.specs.Parts.{layout, Part, write_parts, external}
use Rattle.format.specs.Rules.{Section, sections_of}
use Rattle.format.specs.Legal.{Legal}
use Rattle.format.specs.Reading.{Fault, refused, found, reading, parts_of, answer}
use Rattle.format.specs.Table.{Placed, after_header, placed}
use Rattle.format.specs.Views.{slot_of, field_at, bytes_there, view, whether_there, view_answer}
use Rattle.format.specs.GivenNumbers.{number_of, second_of, offset_of, length_of}
use Rattle.format.specs.Answers.{Accepted, Refused, Where, At, Missing}
use Rattle.format.proofs.Answers.{at_inj}
use Rattle.format.proofs.Numbers.{append_inj}
use Rattle.format.proofs.Slots.{written_laid}
use Rattle.format.proofs.Unique.{size_any}
use Rattle.format.proofs.Tests.{found_inj}
use Rattle.format.proofs.Flat.{choice_flat}
use Rattle.format.proofs.Accepted.{choice_parts, read_legal, legal_read}
use Rattle.format.proofs.Elements.{there, nowhere, there_lt, some_inj}
use Rattle.format.proofs.Cutting.{slot_count, slotted, slots_contiguous, slots_tile, slots_inside}
use Rattle.format.proofs.GivenNumbers.{accepted_told, refused_told, Told, by_legality}
use Rattle.format.proofs.Rows.{placed_count}
use Rattle.format.proofs.Tiling.{row_of, row_inside}
use Rattle.format.specs.Claims.{answer_numbers, IsRow, slots_of, chosen_views, views_from}

-- ---- where a field lies

-- A legal token is read as its own parts.
pub legal_parts : (bs : List ℕ) (l : Legal bs) → parts_of (sections_of l.parts) ≡ l.parts
legal_parts bs l =
    let c = l.form.choice in
    let parts = choice_parts (external l.id) l.parts c.bytes c.fit l.lawful.fields in
    choice_flat (external l.id) l.parts parts c.joined

-- What the reading of a token finds are the parts of a legal token.
pub read_parts : (bs : List ℕ) (ss : List Section) → Bytes bs → reading true bs ≡ found ss
    → (l : Legal bs) × (l.parts ≡ parts_of ss)
read_parts bs ss b e =
    let l = read_legal bs ss b e in
    (l, sym (legal_parts bs l) ∙ ap parts_of (found_inj (sym (legal_read bs l) ∙ e)))

-- Where a field lies of a row that may be there.
abbrev of_row : List ℕ → ℕ → Option Placed → Where
of_row bs field o = elim o as (λ y. Where) [ none ↦ Missing 22 0 | some x ↦ slot_of bs x.row.offset x.part field ]

-- Where a field lies of a part that begins at this place, its slot given.
abbrev of_slot : ℕ → Option Slot → Where
of_slot at o = elim o as (λ y. Where) [ none ↦ Missing 22 0 | some s ↦ At (at + s.offset) s.width ]

-- A legal token's fields are looked for among the rows of its parts.
found_field : (bs : List ℕ) (l : Legal bs) (k j : ℕ)
    → field_at bs k j ≡ of_row bs j (get_elem? (placed after_header l.parts) k)
unfolding field_at
found_field bs l k j =
    rw (legal_read bs l, field_at)
    (ap (λ (ps : List Part). of_row bs j (get_elem? (placed after_header ps) k)) (legal_parts bs l))

-- A field of a row of a legal token lies in the slot of its part.
field_at_is : (bs : List ℕ) (l : Legal bs) (k j : ℕ) (x : Placed) → IsRow bs l k x
    → field_at bs k j ≡ slot_of bs x.row.offset x.part j
field_at_is bs l k j x e = found_field bs l k j ∙ ap (of_row bs j) e

-- Of a row that is not there no field lies anywhere.
no_row : (bs : List ℕ) (l : Legal bs) (k j : ℕ) → length l.parts ≤ k → field_at bs k j ≡ Missing 22 0
no_row bs l k j h =
    let n = placed_count after_header l.parts in
    found_field bs l k j ∙ ap (of_row bs j) (nowhere (placed after_header l.parts) k (omega arith))

-- Of an illegal token no field lies anywhere.
pub no_token : (bs : List ℕ) (f : Fault) (k j : ℕ) → reading true bs ≡ refused f
    → field_at bs k j ≡ Missing f.number f.place
unfolding field_at
no_token bs f k j e = rw (e, field_at)

-- ---- the views of a row

-- Cutting a row by its layout gives the fields of its part.
pub cut_row : (bs : List ℕ) (l : Legal bs) (k : ℕ) (x : Placed) → IsRow bs l k x
    → fields_in (drop x.row.offset bs) (slots_of bs x) ≡ x.part.fields
cut_row bs l k x e =
    let r = row_of bs l k x e in
    (written_laid (layout x.part.kind) x.row.length [] x.part.fields (drop x.row.offset bs) 0
    (write_parts (drop (suc k) l.parts)) r.fits r.bytes).1

-- The slots of a row end where its part's own bytes end.
slots_end : (bs : List ℕ) (l : Legal bs) (k : ℕ) (x : Placed) → IsRow bs l k x
    → end_of 0 (slots_of bs x) ≡ length (write x.row.length (layout x.part.kind) x.part.fields)
slots_end bs l k x e =
    let r = row_of bs l k x e in
    let i = (written_laid (layout x.part.kind) x.row.length [] x.part.fields (drop x.row.offset bs) 0
    (write_parts (drop (suc k) l.parts)) r.fits r.bytes).2 in
    omega arith

-- The slots of a row are as many as the fields of its layout.
slots_count : (bs : List ℕ) (x : Placed) → length (slots_of bs x) ≡ length (layout x.part.kind)
slots_count bs x = slot_count [] (layout x.part.kind) (drop x.row.offset bs) 0

-- A field lies where its slot does.
pub field_there : (bs : List ℕ) (l : Legal bs) (k j : ℕ) (x : Placed) (s : Slot) → IsRow bs l k x
    → get_elem? (slots_of bs x) j ≡ some s → field_at bs k j ≡ At (x.row.offset + s.offset) s.width
field_there bs l k j x s e q = field_at_is bs l k j x e ∙ ap (of_slot x.row.offset) q

-- The view of a field is the bytes of its slot, and its partner question is answered 0.
view_slot : (bs : List ℕ) (l : Legal bs) (k j : ℕ) (x : Placed) (s : Slot) → IsRow bs l k x
    → get_elem? (slots_of bs x) j ≡ some s
    → (view bs k j ≡ slot_bytes (drop x.row.offset bs) s) × (view_answer bs k j ≡ Accepted 0)
unfolding view view_answer bytes_at
view_slot bs l k j x s e q =
    let w = field_there bs l k j x s e q in (
      ap (bytes_there bs) w ∙ ap (take s.width) (sym (drop-drop s.offset x.row.offset bs)),
      ap whether_there w,
    )

-- Every field of the layout has a view.
pub view_field : (bs : List ℕ) (l : Legal bs) (k j : ℕ) (x : Placed) → IsRow bs l k x
    → j < length (layout x.part.kind)
    → (s : Slot) × (get_elem? (slots_of bs x) j ≡ some s)
    × (view bs k j ≡ slot_bytes (drop x.row.offset bs) s)
    × (view_answer bs k j ≡ Accepted 0)
view_field bs l k j x e h =
    let n = slots_count bs x in
    let t = there (slots_of bs x) j (omega arith) in
    let v = view_slot bs l k j x t.0 e t.1 in
    (t.0, t.1, v.0, v.1)

-- The views of the numbers from j on are the bytes of these slots, one after another.
abbrev Viewed : List ℕ → ℕ → List ℕ → ℕ → List Slot → Type 0
Viewed bs k r j [] = Unit {0}
Viewed bs k r j (s ∷ ss) = (view bs k j ≡ slot_bytes r s) × Viewed bs k r (suc j) ss

viewed : (bs : List ℕ) (k : ℕ) (r : List ℕ) (j : ℕ) (ss : List Slot)
    → ((m : ℕ) (s : Slot) → get_elem? ss m ≡ some s → view bs k (j + m) ≡ slot_bytes r s) → Viewed bs k r j ss
viewed bs k r j [] h = tt
viewed bs k r j (s ∷ ss) h = (
  ap (view bs k) (sym (add-zero j)) ∙ h 0 s refl,
  viewed bs k r (suc j) ss
      (λ m q g. let e : suc j + m ≡ j + suc m = omega arith in ap (view bs k) e ∙ h (suc m) q g),
)

-- The chosen fields that lie in such slots are the views of their numbers.
chosen_views_is : (bs : List ℕ) (k : ℕ) (ns : List ℕ) (l : List Item) (r : List ℕ) (o j : ℕ) → Viewed bs k r j (slots ns l r o)
    → fields_in r (slots ns l r o) ≡ chosen_views bs k j l
chosen_views_is bs k ns [] r o j h = refl
chosen_views_is bs k ns (code w v ∷ l) r o j h = chosen_views_is bs k ns l r (o + w) (suc j) h.1
chosen_views_is bs k ns (zeros n q ∷ l) r o j h = chosen_views_is bs k ns l r (o + n) (suc j) h.1
chosen_views_is bs k ns (own w ∷ l) r o j h = chosen_views_is bs k ns l r (o + w) (suc j) h.1
chosen_views_is bs k ns (count w c ∷ l) r o j h =
    chosen_views_is bs k (ns ++ (number (bytes_at r o w) ∷ [])) l r (o + w) (suc j) h.1
chosen_views_is bs k ns (fixed n ∷ l) r o j h =
    ap₂ (λ (f : List ℕ) (fs : Fields). f ∷ fs) (sym h.0) (chosen_views_is bs k ns l r (o + n) (suc j) h.1)
chosen_views_is bs k ns (counted s ∷ l) r o j h =
    ap₂ (λ (f : List ℕ) (fs : Fields). f ∷ fs) (sym h.0) (chosen_views_is bs k ns l r (o + get_or ns s 0) (suc j) h.1)

-- The fields of a row's part are the views of its chosen fields.
pub fields_viewed : (bs : List ℕ) (l : Legal bs) (k : ℕ) (x : Placed) → IsRow bs l k x
    → x.part.fields ≡ chosen_views bs k 0 (layout x.part.kind)
fields_viewed bs l k x e =
    let r : List ℕ = drop x.row.offset bs in
    sym (cut_row bs l k x e)
    ∙ chosen_views_is bs k [] (layout x.part.kind) r 0 0
    (viewed bs k r 0 (slots_of bs x)
    (λ m s g. (view_slot bs l k (0 + m) x s e (ap (get_elem? (slots_of bs x)) (zero-add m) ∙ g)).0))

-- A place that is missing has no bytes, and the partner question gives its refusal.
missing : (bs : List ℕ) (k j n p : ℕ) → field_at bs k j ≡ Missing n p
    → (view bs k j ≡ []) × (view_answer bs k j ≡ Refused n p)
unfolding view view_answer
missing bs k j n p e = (ap (bytes_there bs) e, ap whether_there e)

-- Past the fields of the layout there is no view, and the partner question gives 22.
pub view_no_field : (bs : List ℕ) (l : Legal bs) (k j : ℕ) (x : Placed) → IsRow bs l k x
    → length (layout x.part.kind) ≤ j
    → (view bs k j ≡ []) × (view_answer bs k j ≡ Refused 22 0)
view_no_field bs l k j x e h =
    let n = slots_count bs x in
    missing bs k j 22 0
    (field_at_is bs l k j x e ∙ ap (of_slot x.row.offset) (nowhere (slots_of bs x) j (omega arith)))

-- Past the rows there is no view, and the partner question gives 22.
pub view_no_row : (bs : List ℕ) (l : Legal bs) (k j : ℕ) → length l.parts ≤ k
    → (view bs k j ≡ []) × (view_answer bs k j ≡ Refused 22 0)
view_no_row bs l k j h = missing bs k j 22 0 (no_row bs l k j h)

-- Of an illegal token there is no view, and the partner question gives the reading's refusal.
pub view_refused : (bs : List ℕ) (f : Fault) (k j : ℕ) → reading true bs ≡ refused f
    → (view bs k j ≡ []) × (view_answer bs k j ≡ Refused f.number f.place)
view_refused bs f k j e = missing bs k j f.number f.place (no_token bs f k j e)

-- What lies somewhere is not missing.
not_at : {o n a b : ℕ} → At o n ≡ Missing a b → ⊥
not_at e = let z : ◌≡◌ {A = ℕ} 0 1 = cc in omega arith

-- Where a field of a legal token lies, it lies after the header and ends within the token.
pub field_inside : (bs : List ℕ) (l : Legal bs) (k j o n : ℕ) → field_at bs k j ≡ At o n → (8 ≤ o) × (o + n ≤ length bs)
field_inside bs l k j o n w = of (get_elem? (placed after_header l.parts) k) refl
  where
    slot : (x : Placed) → IsRow bs l k x → (m : Option Slot) → get_elem? (slots_of bs x) j ≡ m
        → of_slot x.row.offset m ≡ At o n → (8 ≤ o) × (o + n ≤ length bs)
    slot x e none g h = absurd (not_at (sym h))
    slot x e (some s) g h =
        let run = slots_contiguous [] (layout x.part.kind) (drop x.row.offset bs) 0 in
        let i = slots_inside 0 (slots_of bs x) j s run g in
        let f = slots_end bs l k x e in
        let z = size_any (layout x.part.kind) x.row.length 0 x.part.fields in
        let r = row_inside bs l k x e in
        let a = at_inj h in
        (omega (arith, a), omega (arith, a))

    of : (m : Option Placed) → get_elem? (placed after_header l.parts) k ≡ m → (8 ≤ o) × (o + n ≤ length bs)
    of none e = absurd (not_at (sym w ∙ found_field bs l k j ∙ ap (of_row bs j) e))
    of (some x) e = slot x e (get_elem? (slots_of bs x) j) refl (sym (field_at_is bs l k j x e) ∙ w)

-- ---- the views of a row, laid end to end

-- The views of the fields from j on are the bytes of the slots from j on.
views_slotted : (bs : List ℕ) (l : Legal bs) (k : ℕ) (x : Placed) → IsRow bs l k x → (n j : ℕ)
    → j + n ≡ length (slots_of bs x)
    → views_from bs k j n ≡ slotted (drop x.row.offset bs) (drop j (slots_of bs x))
views_slotted bs l k x e zero j h =
    let m : length (slots_of bs x) ≤ j = omega arith in
    ap (slotted (drop x.row.offset bs)) (sym (drop_of_length-le (slots_of bs x) m))
views_slotted bs l k x e (suc n) j h =
    let t = there (slots_of bs x) j (omega arith) in
    let i = views_slotted bs l k x e n (suc j) (omega arith) in
    ap₂ (λ (y z : List ℕ). y ++ z) (view_slot bs l k j x t.0 e t.1).0 i
    ∙ ap (slotted (drop x.row.offset bs)) (sym t.2)

-- The views of all fields of a row, laid end to end, are its part's own bytes: nothing overlaps or is left over.
pub views_tile : (bs : List ℕ) (l : Legal bs) (k : ℕ) (x : Placed) → IsRow bs l k x
    → views_from bs k 0 (length (layout x.part.kind))
    ≡ write x.row.length (layout x.part.kind) x.part.fields
views_tile bs l k x e =
    let row = row_of bs l k x e in
    let r : List ℕ = drop x.row.offset bs in
    let w : List ℕ = write x.row.length (layout x.part.kind) x.part.fields in
    let z : List ℕ = write_parts (drop (suc k) l.parts) in
    let ss : List Slot = slots_of bs x in
    let len : end_of 0 ss ≡ length w = slots_end bs l k x e in
    let run = slots_contiguous [] (layout x.part.kind) r 0 in
    let rest : drop (end_of 0 ss) r ≡ z =
    ap₂ (λ (n : ℕ) (y : List ℕ). drop n y) len row.bytes ∙ drop_at w z (length w) refl in
    let tile : slotted r ss ++ z ≡ w ++ z =
    ap (λ (y : List ℕ). slotted r ss ++ y) (sym rest) ∙ slots_tile r 0 ss run ∙ row.bytes in
    let ll : length (slotted r ss) + length z ≡ length w + length z =
    sym (length-append (slotted r ss) z) ∙ ap length tile ∙ length-append w z in
    let n = slots_count bs x in
    views_slotted bs l k x e (length (layout x.part.kind)) 0 (omega arith)
    ∙ (append_inj (slotted r ss) w (omega arith) tile).0

-- ---- the numbers of a view

-- A legal token has the field of the row or not.
legal_view : (bs : List ℕ) (k j : ℕ) (l : Legal bs)
    → Told (view_answer bs k j) 22 0 ((x : Placed) × IsRow bs l k x × (j < length (layout x.part.kind)))
    ((x : Placed) → IsRow bs l k x → length (layout x.part.kind) ≤ j)
legal_view bs k j l = row (leb (length l.parts) k) refl
  where
    field : (x : Placed) → IsRow bs l k x → (v : Bool) → leb (length (layout x.part.kind)) j ≡ v
        → Told (view_answer bs k j) 22 0 ((y : Placed) × IsRow bs l k y × (j < length (layout y.part.kind)))
        ((y : Placed) → IsRow bs l k y → length (layout y.part.kind) ≤ j)
    field x r false q =
        let h = leb-false (length (layout x.part.kind)) j q in
        inl ((x, r, h), accepted_told (view_field bs l k j x r h).3)
    field x r true q =
        let h = leb-true (length (layout x.part.kind)) j q in
        inr ((λ y e. subst (λ (z : Placed). length (layout z.part.kind) ≤ j) (some_inj (sym r ∙ e)) h), refused_told (view_no_field bs l k j x r h).1)

    row : (v : Bool) → leb (length l.parts) k ≡ v
        → Told (view_answer bs k j) 22 0 ((x : Placed) × IsRow bs l k x × (j < length (layout x.part.kind)))
        ((x : Placed) → IsRow bs l k x → length (layout x.part.kind) ≤ j)
    row true q =
        let h = leb-true (length l.parts) k q in
        let n = placed_count after_header l.parts in
        inr ((λ y e. absurd (let t = there_lt (placed after_header l.parts) k y e in omega arith)), refused_told (view_no_row bs l k j h).1)
    row false q =
        let h = leb-false (length l.parts) k q in
        let n = placed_count after_header l.parts in
        let t = there (placed after_header l.parts) k (omega arith) in
        field t.0 t.1 (leb (length (layout t.0.part.kind)) j) refl

pub view_numbers : (bs : List ℕ) (k j : ℕ) → Bytes bs
    → ((number_of (view_answer bs k j) ≡ 0) ↔ ((l : Legal bs) × ((x : Placed) × IsRow bs l k x × (j < length (layout x.part.kind)))))
    × ((number_of (view_answer bs k j) ≡ 22) ↔ ((l : Legal bs) × ((x : Placed) → IsRow bs l k x → length (layout x.part.kind) ≤ j)))
    × (Legal bs → second_of (view_answer bs k j) ≡ 0)
    × ((Legal bs → ⊥) → answer_numbers (view_answer bs k j) ≡ answer_numbers (answer bs))
view_numbers bs k j b =
    by_legality bs (view_answer bs k j) 22 (λ l. 0) _ _ b (omega arith)
    (λ l p q. let a = p.2 in let c = q p.0 p.1 in omega arith) (legal_view bs k j) (λ f e. (view_refused bs f k j e).1)

-- Where a field lies, as numbers: those of its slot, and 0 on refusal.
nowhere_told : (w : Where) → (number_of (whether_there w) ≡ 0 → ⊥) → (offset_of w ≡ 0) × (length_of w ≡ 0)
unfolding number_of offset_of length_of
nowhere_told (Ok w) h = absurd (h refl)
nowhere_told (Err r) h = (refl, refl)

pub field_numbers : (bs : List ℕ) (k j : ℕ)
    → ((l : Legal bs) (x : Placed) (s : Slot) → IsRow bs l k x → get_elem? (slots_of bs x) j ≡ some s
    → (offset_of (field_at bs k j) ≡ x.row.offset + s.offset) × (length_of (field_at bs k j) ≡ s.width))
    × ((number_of (view_answer bs k j) ≡ 0 → ⊥) → (offset_of (field_at bs k j) ≡ 0) × (length_of (field_at bs k j) ≡ 0))
unfolding view_answer offset_of length_of
field_numbers bs k j = (
  (λ l x s r q. let e = field_there bs l k j x s r q in (ap offset_of e, ap length_of e)),
  λ h. nowhere_told (field_at bs k j) h,
)
