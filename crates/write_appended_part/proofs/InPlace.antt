-- A part put after the draft in its place, with two lengths, and taken out again. Assumes nothing.
use mathlib.Core.Path.{◌≡◌, sym, ap, ap₂, ◌∙◌}
use mathlib.Core.List.{List, ◌++◌, append_assoc}
use mathlib.Core.Logic.{⊎_elim}
use Prim.Native.Nat.{ℕ, ◌+◌, ◌≤◌}
use native.Mathlib.Omega.{arith}
use lib.ListN.{length, take, drop, length-append, length-drop, take-append-drop}
use lib.Seq.{sets, sets-eq, take_at, drop_at, drop-drop, drop-append-le, length-take-le}
use Rattle.format.specs.Bytes.{Bytes, bytes_at}
use Rattle.format.specs.Reading.{stated}
use Rattle.format.proofs.Numbers.{bytes_take, bytes_drop}
use Rattle.format.proofs.Changes.{restate, restate_behind}
use Rattle.write_appended_part.specs.Appended.{Standing, grown}
use Rattle.format.proofs.Numbering.{stated_front}
use Rattle.write_appended_part.proofs.Longer.{restate_long, restate_front, grown_long}
use Rattle.write_appended_part.proofs.Restating.{restate_over, restate_back}

-- Two lengths stated in the first bytes, those after them as they are.
both_front : (o m n : ℕ) (a w r : List ℕ) → 4 ≤ length a → o + 4 ≤ length a
    → restate o m (restate 0 n (a ++ w ++ r)) ≡ restate o m (restate 0 n a) ++ w ++ r
both_front o m n a w r h k =
    let l = length-append a w in
    let e : restate 0 n (a ++ w ++ r) ≡ restate 0 n a ++ w ++ r =
    restate_front 0 n (a ++ w) r (omega arith) ∙ ap (λ (y : List ℕ). y ++ r) (restate_front 0 n a w (omega arith)) in
    let b = restate_long 0 n a in
    let q = length-append (restate 0 n a) w in
    ap (restate o m) e
    ∙ restate_front o m (restate 0 n a ++ w) r (omega arith)
    ∙ ap (λ (y : List ℕ). y ++ r) (restate_front o m (restate 0 n a) w (omega arith))

-- The part in its place: the longer draft, and after it what was there.
pub put_in : {l m : ℕ} (d : List ℕ) (o : ℕ) (w : List ℕ) → Standing d o → l ≡ stated d → m ≡ stated (drop o d)
    → stated d + length w ≤ length d
    → restate o (m + length w) (restate 0 (l + length w) (sets d l w)) ≡ grown d o w ++ drop (stated d + length w) d
put_in {l} {m} d o w s el em room =
    let n = length w in
    let k₁ = s.least in
    let k₂ = s.head in
    let la = length-take-le (stated d) d s.there in
    ap₂ (λ (i j : ℕ). restate o (j + n) (restate 0 (i + n) (sets d i w))) el em
    ∙ ap (λ (y : List ℕ). restate o (stated (drop o d) + n) (restate 0 (stated d + n) y)) (sets-eq w d (stated d) room)
    ∙ both_front o (stated (drop o d) + n) (stated d + n) (take (stated d) d) w (drop (stated d + n) d) (omega arith) (omega arith)

-- It is what stands in front then.
pub in_front : {l : ℕ} {new : List ℕ} (d : List ℕ) (o : ℕ) (w : List ℕ) → Standing d o → l ≡ stated d
    → new ≡ grown d o w ++ drop (stated d + length w) d → take (l + length w) new ≡ grown d o w
in_front {l} {new} d o w s el e =
    let g = grown_long d o w s in
    ap (take (l + length w)) e ∙ take_at (grown d o w) (drop (stated d + length w) d) (l + length w) (omega arith)

-- The old lengths put back give the old bytes, where the section is the header
back_header : (a : List ℕ) (l m i j : ℕ) → Bytes a → 4 ≤ length a → stated a ≡ l → stated a ≡ m
    → restate 0 m (restate 0 l (restate 0 j (restate 0 i a))) ≡ a
back_header a l m i j b h el em =
    restate_over l m (restate 0 j (restate 0 i a)) ∙ restate_over j m (restate 0 i a) ∙ restate_back i m a b h em

-- or stands after it.
back_section : (f r : List ℕ) (o l m i j : ℕ) → Bytes f → Bytes r → 4 ≤ length f → 4 ≤ length r → length f ≡ o → stated f ≡ l → stated r ≡ m
    → restate o m (restate 0 l (restate o j (restate 0 i (f ++ r)))) ≡ f ++ r
back_section f r o l m i j bf br hf hr e el em =
    let F : List ℕ = restate 0 i f in
    let R : List ℕ = restate 0 j r in
    let q : length F ≡ o = restate_long 0 i f ∙ e in
    let there : restate o j (restate 0 i (f ++ r)) ≡ F ++ R =
    ap (restate o j) (restate_front 0 i f r (omega arith)) ∙ ap (λ (p : ℕ). restate p j (F ++ r)) (sym q) ∙ restate_behind F r j in
    ap (λ (y : List ℕ). restate o m (restate 0 l y)) there
    ∙ ap (restate o m) (restate_front 0 l F R (omega arith) ∙ ap (λ (y : List ℕ). y ++ R) (restate_back i l f bf hf el))
    ∙ ap (λ (p : ℕ). restate p m (f ++ R)) (sym e)
    ∙ restate_behind f R m
    ∙ ap (λ (y : List ℕ). f ++ y) (restate_back j m r br hr em)

-- Both in the first bytes of a draft.
back : (d : List ℕ) (o i j : ℕ) → Bytes d → Standing d o
    → restate o (stated (drop o d)) (restate 0 (stated d) (restate o j (restate 0 i (take (stated d) d)))) ≡ take (stated d) d
back d o i j b s =
    let A : List ℕ = take (stated d) d in
    let L : ℕ = stated d in
    let k₁ = s.least in
    let k₂ = s.head in
    let la : length A ≡ L = length-take-le L d s.there in
    let b_a = bytes_take L d b in
    let lf = length-take-le o A (omega arith) in
    let lr = length-drop o A in
    let whole : A ++ drop L d ≡ d = take-append-drop L d in
    let header : stated A ≡ L = sym (stated_front A (drop L d) (omega arith)) ∙ ap stated whole in
    let section : stated (drop o A) ≡ stated (drop o d) =
    sym (stated_front (drop o A) (drop L d) (omega arith))
    ∙ ap stated (sym (drop-append-le o A (drop L d) (omega arith)) ∙ ap (drop o) whole) in
    ⊎_elim
    (λ e.
    let z : stated A ≡ stated (drop o d) = ap (λ (p : ℕ). stated (drop p A)) (sym e) ∙ section in
    ap (λ (p : ℕ). restate p (stated (drop o d)) (restate 0 L (restate p j (restate 0 i A)))) e
    ∙ back_header A L (stated (drop o d)) i j b_a (omega arith) header z)
    (λ h.
    let parts : take o A ++ drop o A ≡ A = take-append-drop o A in
    let first : stated (take o A) ≡ L = sym (stated_front (take o A) (drop o A) (omega arith)) ∙ ap stated parts ∙ header in
    ap (λ (y : List ℕ). restate o (stated (drop o d)) (restate 0 L (restate o j (restate 0 i y)))) (sym parts)
    ∙ back_section (take o A) (drop o A) o L (stated (drop o d)) i j (bytes_take o A b_a) (bytes_drop o A b_a) (omega arith) (omega arith) lf first section
    ∙ parts)
    s.apart

-- Bytes stored after the first ones, over as many others.
stored_over : (x w v r : List ℕ) (l : ℕ) → length x ≡ l → length v ≡ length w → sets (x ++ w ++ r) l v ≡ x ++ v ++ r
stored_over x w v r l e h =
    let n = length-append x w in
    let m = length-append (x ++ w) r in
    let front : take l (x ++ w ++ r) ≡ x = ap (take l) (append_assoc x w r) ∙ take_at x (w ++ r) l e in
    let behind : drop (l + length v) (x ++ w ++ r) ≡ r = drop_at (x ++ w) r (l + length v) (omega arith) in
    sets-eq v (x ++ w ++ r) l (omega arith) ∙ ap₂ (λ (y z : List ℕ). y ++ v ++ z) front behind

-- The first bytes, some more, and the rest.
three : (d : List ℕ) (l n : ℕ) → take l d ++ bytes_at d l n ++ drop (l + n) d ≡ d
unfolding bytes_at
three d l n =
    append_assoc (take l d) (take n (drop l d)) (drop (l + n) d)
    ∙ ap (λ (y : List ℕ). take l d ++ (take n (drop l d) ++ y)) (sym (drop-drop n l d))
    ∙ ap (λ (y : List ℕ). take l d ++ y) (take-append-drop n (drop l d))
    ∙ take-append-drop l d

-- The part taken out: the bytes are as they were.
pub taken_out : {l m : ℕ} (d : List ℕ) (o : ℕ) (w : List ℕ) → Bytes d → Standing d o → l ≡ stated d → m ≡ stated (drop o d)
    → stated d + length w ≤ length d
    → restate o m (restate 0 l (sets (grown d o w ++ drop (stated d + length w) d) l (bytes_at d l (length w)))) ≡ d
unfolding bytes_at
taken_out {l} {m} d o w b s el em room =
    let L : ℕ = stated d in
    let M : ℕ = stated (drop o d) in
    let k : ℕ = length w in
    let A : List ℕ = take L d in
    let x : List ℕ = restate o (M + k) (restate 0 (L + k) A) in
    let v : List ℕ = bytes_at d L k in
    let r : List ℕ = drop (L + k) d in
    let k₁ = s.least in
    let k₂ = s.head in
    let la : length A ≡ L = length-take-le L d s.there in
    let lx : length x ≡ L = restate_long o (M + k) (restate 0 (L + k) A) ∙ restate_long 0 (L + k) A ∙ la in
    let ld = length-drop L d in
    let lv : length v ≡ k = length-take-le k (drop L d) (omega arith) in
    ap₂ (λ (i j : ℕ). restate o j (restate 0 i (sets (x ++ w ++ r) i (bytes_at d i k)))) el em
    ∙ ap (λ (y : List ℕ). restate o M (restate 0 L y)) (stored_over x w v r L lx lv)
    ∙ both_front o M L x v r (omega arith) (omega arith)
    ∙ ap (λ (y : List ℕ). y ++ v ++ r) (back d o (L + k) (M + k) b s)
    ∙ three d L k
