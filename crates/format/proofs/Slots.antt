-- Reading by a layout and writing by it undo each other: what lies in the slots of bytes that are laid out so is written
-- to the same bytes, and what is written reads back field by field.
use mathlib.Core.Path.{◌≡◌, refl, sym, ap, ap₂, ◌∙◌, subst}
use mathlib.Core.Bool.{Bool, true, false, ◌&&◌}
use mathlib.Core.List.{List, [], ◌∷◌, ◌++◌, append_assoc}
use Prim.Native.Nat.{ℕ, zero, suc, ◌+◌, ◌^◌, ◌≤◌, ◌<◌}
use native.Mathlib.Omega.{arith}
use lib.Dec.{eqb, ltb}
use lib.ListN.{length, get_or, take, drop, replicate, length-append, length-drop, length-replicate, take-append-drop, get_or-append}
use lib.Seq.{length-take-le, get_or-append_seam, take_at, drop_at, drop-drop}
use borrow.Author.Tests.{eqb-true}
use Rattle.format.specs.Bytes.{Bytes, big_endian, number, bytes_at, all_zero}
use Rattle.format.specs.Layout.{Item, code, zeros, own, count, fixed, counted, Fields, write}
use Rattle.format.specs.Slots.{Slot, slots, slot_bytes, fields_in, end_of}
use Rattle.format.proofs.Numbers.{big_endian_length, number_big_endian, big_endian_number, number_lt, bytes_take, bytes_drop}
use Rattle.format.proofs.Finding.{and_split}
use Rattle.format.proofs.Fitting.{Fits}

-- ---- bytes at a place

-- Bytes that are there are as many as are asked.
pub length_at : (bs : List ℕ) (o n : ℕ) → o + n ≤ length bs → length (bytes_at bs o n) ≡ n
unfolding bytes_at
length_at bs o n h = length-take-le n (drop o bs) (simp length-drop (omega arith))

-- The bytes at a place, and those after them.
pub cut_at : (bs : List ℕ) (o n : ℕ) → bytes_at bs o n ++ drop (o + n) bs ≡ drop o bs
unfolding bytes_at
cut_at bs o n = rw (← drop-drop n o bs) (take-append-drop n (drop o bs))

-- A known front is what stands at the place, and the rest stands after it.
pub front_at : (bs : List ℕ) (o n : ℕ) (a x : List ℕ) → length a ≡ n → drop o bs ≡ a ++ x → (bytes_at bs o n ≡ a) × (drop (o + n) bs ≡ x)
unfolding bytes_at
front_at bs o n a x l e = (ap (take n) e ∙ take_at a x n l, sym (drop-drop n o bs) ∙ ap (drop n) e ∙ drop_at a x n l)

bytes_at_is : (bs : List ℕ) (o n : ℕ) → Bytes bs → Bytes (bytes_at bs o n)
unfolding bytes_at
bytes_at_is bs o n b = bytes_take n (drop o bs) (bytes_drop o bs b)

-- The bytes at a place are those of the number that they state, and it can be stated so.
told_at : (bs : List ℕ) (o w : ℕ) → Bytes bs → o + w ≤ length bs → big_endian w (number (bytes_at bs o w)) ≡ bytes_at bs o w
told_at bs o w b h =
    subst (λ (n : ℕ). big_endian n (number (bytes_at bs o w)) ≡ bytes_at bs o w) (length_at bs o w h)
    (big_endian_number (bytes_at bs o w) (bytes_at_is bs o w b))

told_lt : (bs : List ℕ) (o w : ℕ) → Bytes bs → o + w ≤ length bs → number (bytes_at bs o w) < 256 ^ w
told_lt bs o w b h =
    subst (λ (n : ℕ). number (bytes_at bs o w) < 256 ^ n) (length_at bs o w h) (number_lt (bytes_at bs o w) (bytes_at_is bs o w b))

-- Bytes that are all 0 are a row of zeros, and a row of zeros is all 0.
zeros_of : (bs : List ℕ) → all_zero bs ≡ true → bs ≡ replicate (length bs) 0
unfolding all_zero
zeros_of [] e = refl
zeros_of (b ∷ bs) e =
    let p = and_split (eqb b 0) (all_zero bs) e in
    ap₂ (λ (x : ℕ) (y : List ℕ). x ∷ y) (eqb-true b 0 p.0) (zeros_of bs p.1)

all_zeros : (n : ℕ) → all_zero (replicate n 0) ≡ true
unfolding all_zero
all_zeros zero = refl
all_zeros (suc n) = all_zeros n

-- ---- bytes that are laid out

-- What a slot must hold, for a part of t bytes.
abbrev Holds : ℕ → List ℕ → Slot → Type 0
Holds t bs s = elim s.item [
  | code w v ↦ number (slot_bytes bs s) ≡ v
  | zeros n q ↦ all_zero (slot_bytes bs s) ≡ true
  | own w ↦ number (slot_bytes bs s) ≡ t
  | count w k ↦ Unit {0}
  | fixed n ↦ Unit {0}
  | counted c ↦ Unit {0}
]

-- Each slot holds what it must.
abbrev pub Laid : ℕ → List ℕ → List Slot → Type 0
Laid t bs [] = Unit {0}
Laid t bs (s ∷ ss) = Holds t bs s × Laid t bs ss

-- The chosen field after k others is the first that goes by count number c.
abbrev points : List Item → ℕ → ℕ → Bool
points [] k c = false
points (code w v ∷ l) k c = points l k c
points (zeros n q ∷ l) k c = points l k c
points (own w ∷ l) k c = points l k c
points (count w j ∷ l) k c = points l k c
points (fixed n ∷ l) zero c = false
points (fixed n ∷ l) (suc k) c = points l k c
points (counted j ∷ l) zero c = eqb j c
points (counted j ∷ l) (suc k) c = points l k c

-- Each count, c of them before, points to a field that goes by it, and each counted field goes by a count before it.
abbrev pub sound : ℕ → List Item → Bool
sound c [] = true
sound c (code w v ∷ l) = sound c l
sound c (zeros n q ∷ l) = sound c l
sound c (own w ∷ l) = sound c l
sound c (count w k ∷ l) = points l k c && sound (suc c) l
sound c (fixed n ∷ l) = sound c l
sound c (counted j ∷ l) = ltb j c && sound c l

-- The slots end after their beginning.
pub end_le : (l : List Item) (ns bs : List ℕ) (o : ℕ) → o ≤ end_of o (slots ns l bs o)
end_le [] ns bs o = omega arith
end_le (code w v ∷ l) ns bs o = let i = end_le l ns bs (o + w) in omega arith
end_le (zeros n q ∷ l) ns bs o = let i = end_le l ns bs (o + n) in omega arith
end_le (own w ∷ l) ns bs o = let i = end_le l ns bs (o + w) in omega arith
end_le (count w k ∷ l) ns bs o = let i = end_le l (ns ++ (number (bytes_at bs o w) ∷ [])) bs (o + w) in omega arith
end_le (fixed n ∷ l) ns bs o = let i = end_le l ns bs (o + n) in omega arith
end_le (counted j ∷ l) ns bs o = let i = end_le l ns bs (o + get_or ns j 0) in omega arith

earlier : (ns : List ℕ) (j n : ℕ) → j < length ns → get_or (ns ++ (n ∷ [])) j 0 ≡ get_or ns j 0
earlier ns j n h = get_or-append ns (n ∷ []) 0 j h

-- The field that a count points to is as long as the count says.
pointed : (l : List Item) (ns bs : List ℕ) (o k c : ℕ) → points l k c ≡ true → c < length ns
    → end_of o (slots ns l bs o) ≤ length bs → length (get_or (fields_in bs (slots ns l bs o)) k []) ≡ get_or ns c 0
pointed [] ns bs o k c p h e = absurd (let z : ◌≡◌ {A = ℕ} 0 1 = cc in omega arith)
pointed (code w v ∷ l) ns bs o k c p h e = pointed l ns bs (o + w) k c p h e
pointed (zeros n q ∷ l) ns bs o k c p h e = pointed l ns bs (o + n) k c p h e
pointed (own w ∷ l) ns bs o k c p h e = pointed l ns bs (o + w) k c p h e
pointed (count w j ∷ l) ns bs o k c p h e =
    pointed l (ns ++ (number (bytes_at bs o w) ∷ [])) bs (o + w) k c p (simp length-append (omega arith)) e
    ∙ earlier ns c (number (bytes_at bs o w)) h
pointed (fixed n ∷ l) ns bs o zero c p h e = absurd (let z : ◌≡◌ {A = ℕ} 0 1 = cc in omega arith)
pointed (fixed n ∷ l) ns bs o (suc k) c p h e = pointed l ns bs (o + n) k c p h e
pointed (counted j ∷ l) ns bs o zero c p h e =
    let i = end_le l ns bs (o + get_or ns j 0) in
    length_at bs o (get_or ns j 0) (omega arith) ∙ ap (λ (x : ℕ). get_or ns x 0) (eqb-true j c p)
pointed (counted j ∷ l) ns bs o (suc k) c p h e = pointed l ns bs (o + get_or ns j 0) k c p h e

-- ---- what is laid out is written so

-- A field in front of what is written after it.
joined : (bs : List ℕ) (o n : ℕ) (a x z : List ℕ) → a ≡ bytes_at bs o n → x ++ z ≡ drop (o + n) bs → (a ++ x) ++ z ≡ drop o bs
joined bs o n a x z p q = append_assoc a x z ∙ ap₂ (λ u v. u ++ v) p q ∙ cut_at bs o n

-- Bytes that are laid out by l from o on are the written form of the fields in their slots, and these fit.
pub laid_written : (l : List Item) (t : ℕ) (ns bs : List ℕ) (o : ℕ) → sound (length ns) l ≡ true → Bytes bs
    → end_of o (slots ns l bs o) ≤ length bs → Laid t bs (slots ns l bs o)
    → Fits t ns l (fields_in bs (slots ns l bs o))
    × (write t l (fields_in bs (slots ns l bs o)) ++ drop (end_of o (slots ns l bs o)) bs ≡ drop o bs)
laid_written [] t ns bs o q b e d = (tt, refl)
laid_written (code w v ∷ l) t ns bs o q b e d =
    let g = end_le l ns bs (o + w) in
    let h : o + w ≤ length bs = omega arith in
    let i = laid_written l t ns bs (o + w) q b e d.1 in
    ((rw d.0 at (told_lt bs o w b h), i.0), joined bs o w _ _ _ (rw d.0 at (told_at bs o w b h)) i.1)
laid_written (zeros n z ∷ l) t ns bs o q b e d =
    let g = end_le l ns bs (o + n) in
    let h : o + n ≤ length bs = omega arith in
    let i = laid_written l t ns bs (o + n) q b e d.1 in
    (i.0, joined bs o n _ _ _ (sym (rw (length_at bs o n h) at (zeros_of (bytes_at bs o n) d.0))) i.1)
laid_written (own w ∷ l) t ns bs o q b e d =
    let g = end_le l ns bs (o + w) in
    let h : o + w ≤ length bs = omega arith in
    let i = laid_written l t ns bs (o + w) q b e d.1 in
    ((rw d.0 at (told_lt bs o w b h), i.0), joined bs o w _ _ _ (rw d.0 at (told_at bs o w b h)) i.1)
laid_written (count w k ∷ l) t ns bs o q b e d =
    let n : ℕ = number (bytes_at bs o w) in
    let ms : List ℕ = ns ++ (n ∷ []) in
    let fs : Fields = fields_in bs (slots ms l bs (o + w)) in
    let c : length ms ≡ suc (length ns) = length-append ns (n ∷ []) ∙ omega arith in
    let g = end_le l ms bs (o + w) in
    let h : o + w ≤ length bs = omega arith in
    let p = and_split (points l k (length ns)) (sound (suc (length ns)) l) q in
    let i = laid_written l t ms bs (o + w) (subst (λ (x : ℕ). sound x l ≡ true) (sym c) p.1) b e d.1 in
    let m : n ≡ length (get_or fs k []) =
    sym (pointed l ms bs (o + w) k (length ns) p.0 (omega arith) e ∙ get_or-append_seam ns n [] 0) in (
      (subst (λ (x : ℕ). x < 256 ^ w) m (told_lt bs o w b h), subst (λ (x : ℕ). Fits t (ns ++ (x ∷ [])) l fs) m i.0),
      joined bs o w _ _ _ (subst (λ (x : ℕ). big_endian w x ≡ bytes_at bs o w) m (told_at bs o w b h)) i.1,
    )
laid_written (fixed n ∷ l) t ns bs o q b e d =
    let g = end_le l ns bs (o + n) in
    let h : o + n ≤ length bs = omega arith in
    let i = laid_written l t ns bs (o + n) q b e d.1 in
    ((length_at bs o n h, i.0), joined bs o n _ _ _ refl i.1)
laid_written (counted j ∷ l) t ns bs o q b e d =
    let n : ℕ = get_or ns j 0 in
    let g = end_le l ns bs (o + n) in
    let h : o + n ≤ length bs = omega arith in
    let p = and_split (ltb j (length ns)) (sound (length ns) l) q in
    let i = laid_written l t ns bs (o + n) p.1 b e d.1 in
    ((length_at bs o n h, i.0), joined bs o n _ _ _ refl i.1)

-- ---- what is written reads back

-- The slots of bytes from o on hold the fields fs.
abbrev Reads : ℕ → List ℕ → List Item → Fields → List ℕ → ℕ → Type 0
Reads t ns l fs bs o =
    Laid t bs (slots ns l bs o)
    × (fields_in bs (slots ns l bs o) ≡ fs)
    × (end_of o (slots ns l bs o) ≡ o + length (write t l fs))

-- A front of n bytes, and what is read after it.
behind : (o n e : ℕ) (a x : List ℕ) → length a ≡ n → e ≡ (o + n) + length x → e ≡ o + length (a ++ x)
behind o n e a x h q = simp length-append (omega arith)

-- Fields that fit, written from o on, lie in their slots.
pub written_laid : (l : List Item) (t : ℕ) (ns : List ℕ) (fs : Fields) (bs : List ℕ) (o : ℕ) (z : List ℕ)
    → Fits t ns l fs → drop o bs ≡ write t l fs ++ z → Reads t ns l fs bs o
written_laid [] t ns [] bs o z h e = (tt, refl, omega arith)
written_laid [] t ns (f ∷ fs) bs o z h e = absurd h
written_laid (code w v ∷ l) t ns fs bs o z h e =
    let n = big_endian_length w v in
    let x = write t l fs in
    let f = front_at bs o w (big_endian w v) (x ++ z) n (e ∙ append_assoc (big_endian w v) x z) in
    let i = written_laid l t ns fs bs (o + w) z h.1 f.1 in
    ((ap number f.0 ∙ number_big_endian w v h.0, i.0), i.1, behind o w _ (big_endian w v) x n i.2)
written_laid (zeros n q ∷ l) t ns fs bs o z h e =
    let m = length-replicate {A = ℕ} n 0 in
    let x = write t l fs in
    let f = front_at bs o n (replicate n 0) (x ++ z) m (e ∙ append_assoc (replicate n 0) x z) in
    let i = written_laid l t ns fs bs (o + n) z h f.1 in
    ((ap all_zero f.0 ∙ all_zeros n, i.0), i.1, behind o n _ (replicate n 0) x m i.2)
written_laid (own w ∷ l) t ns fs bs o z h e =
    let n = big_endian_length w t in
    let x = write t l fs in
    let f = front_at bs o w (big_endian w t) (x ++ z) n (e ∙ append_assoc (big_endian w t) x z) in
    let i = written_laid l t ns fs bs (o + w) z h.1 f.1 in
    ((ap number f.0 ∙ number_big_endian w t h.0, i.0), i.1, behind o w _ (big_endian w t) x n i.2)
written_laid (count w k ∷ l) t ns fs bs o z h e =
    let c = length (get_or fs k []) in
    let n = big_endian_length w c in
    let x = write t l fs in
    let f = front_at bs o w (big_endian w c) (x ++ z) n (e ∙ append_assoc (big_endian w c) x z) in
    let v : number (bytes_at bs o w) ≡ c = ap number f.0 ∙ number_big_endian w c h.0 in
    let j = written_laid l t (ns ++ (c ∷ [])) fs bs (o + w) z h.1 f.1 in
    let i : Reads t (ns ++ (number (bytes_at bs o w) ∷ [])) l fs bs (o + w) =
    subst (λ (y : ℕ). Reads t (ns ++ (y ∷ [])) l fs bs (o + w)) (sym v) j in
    ((tt, i.0), i.1, behind o w _ (big_endian w c) x n i.2)
written_laid (fixed n ∷ l) t ns [] bs o z h e = absurd h
written_laid (fixed n ∷ l) t ns (g ∷ fs) bs o z h e =
    let x = write t l fs in
    let f = front_at bs o n g (x ++ z) h.0 (e ∙ append_assoc g x z) in
    let i = written_laid l t ns fs bs (o + n) z h.1 f.1 in
    ((tt, i.0), ap₂ (λ a b. a ∷ b) f.0 i.1, behind o n _ g x h.0 i.2)
written_laid (counted j ∷ l) t ns [] bs o z h e = absurd h
written_laid (counted j ∷ l) t ns (g ∷ fs) bs o z h e =
    let n : ℕ = get_or ns j 0 in
    let x = write t l fs in
    let f = front_at bs o n g (x ++ z) h.0 (e ∙ append_assoc g x z) in
    let i = written_laid l t ns fs bs (o + n) z h.1 f.1 in
    ((tt, i.0), ap₂ (λ a b. a ∷ b) f.0 i.1, behind o n _ g x h.0 i.2)
