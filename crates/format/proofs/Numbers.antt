-- Laws of lists of bytes and of the numbers that they state, over any width.
use mathlib.Core.Path.{◌≡◌, refl, sym, ap, ap₂, ◌∙◌}
use mathlib.Core.Bool.{Bool, true, false, ◌&&◌}
use mathlib.Core.List.{List, [], ◌∷◌, ◌++◌, append_assoc, append-nil, head-eq_of_cons-eq, tail-eq_of_cons-eq}
use Prim.Native.Nat.{ℕ, zero, suc, ◌+◌, ◌*◌, ◌/◌, ◌%◌, ◌^◌, ◌<◌}
use native.Mathlib.Nat.{div-add-mod', div-lt_iff_lt-mul, pow-suc, add-zero, zero-add}
use native.Mathlib.Omega.{arith}
use lib.Arith.{digits_div, digits_mod}
use lib.Dec.{lit<, eqb}
use lib.ListN.{length, get_or, take, drop, replicate, length-append}
use lib.Seq.{drop-cons}
use borrow.Author.Tests.{eqb-true, eqb-false, eq-eqb, ne_eqb}
use Rattle.format.specs.Bytes.{Bytes, big_endian, number_from, number, bytes_at, same_bytes}

-- A number is written in as many bytes as its width says.
pub big_endian_length : (w n : ℕ) → length (big_endian w n) ≡ w
big_endian_length zero n = refl
big_endian_length (suc w) n = simp (length-append, big_endian_length w (n / 256)) (omega arith)

-- One more byte after makes the number 256 times as large, plus that byte.
number_from_last : (bs : List ℕ) (a d : ℕ) → number_from a (bs ++ (d ∷ [])) ≡ number_from a bs * 256 + d
number_from_last [] a d = refl
number_from_last (b ∷ bs) a d = number_from_last bs (a * 256 + b) d

-- The bytes of a number that the width can state give it back.
pub number_big_endian : (w n : ℕ) → n < 256 ^ w → number (big_endian w n) ≡ n
unfolding number
number_big_endian zero n h = omega arith
number_big_endian (suc w) n h =
    number_from_last (big_endian w (n / 256)) 0 (n % 256)
    ∙ rw (number_big_endian w (n / 256) ((div-lt_iff_lt-mul (lit< tt)).1 (rw pow-suc at h))) (div-add-mod' n 256)

-- Two numbers that the width can state have the same bytes only where they are the same.
pub big_endian_inj : (w n m : ℕ) → n < 256 ^ w → m < 256 ^ w → big_endian w n ≡ big_endian w m → n ≡ m
big_endian_inj w n m h k e = sym (number_big_endian w n h) ∙ ap number e ∙ number_big_endian w m k

-- The bytes of a number that was read after another are the bytes of that other and those that were read.
big_endian_number_from :
    (bs : List ℕ) → Bytes bs → (w a : ℕ) → big_endian (w + length bs) (number_from a bs) ≡ big_endian w a ++ bs
big_endian_number_from [] h w a = rw (add-zero, append-nil)
big_endian_number_from (b ∷ bs) h w a =
    let e : w + suc (length bs) ≡ suc w + length bs = omega arith in
    ap (λ (k : ℕ). big_endian k (number_from (a * 256 + b) bs)) e
    ∙ big_endian_number_from bs h.1 (suc w) (a * 256 + b)
    ∙ rw (digits_div a h.0, digits_mod a h.0) (append_assoc (big_endian w a) (b ∷ []) bs)

-- Bytes are those of the number that they state, in their own length.
pub big_endian_number : (bs : List ℕ) → Bytes bs → big_endian (length bs) (number bs) ≡ bs
unfolding number
big_endian_number bs h = rw (zero-add (length bs)) at (big_endian_number_from bs h 0 0)

-- What bytes state after a number below b is below b times what their length can state.
number_from_lt : (bs : List ℕ) (a b : ℕ) → Bytes bs → a < b → number_from a bs < b * 256 ^ length bs
number_from_lt [] a b h k = omega arith
number_from_lt (x ∷ bs) a b h k =
    let i = number_from_lt bs (a * 256 + x) (b * 256) h.1 (let y = h.0 in omega arith) in
    rw (pow-suc 256 (length bs)) (omega arith)

-- Bytes state a number that their length can state.
pub number_lt : (bs : List ℕ) → Bytes bs → number bs < 256 ^ length bs
unfolding number
number_lt bs h = let i = number_from_lt bs 0 1 h (omega arith) in omega arith

-- Bytes after bytes are bytes.
pub bytes_append : (a b : List ℕ) → Bytes a → Bytes b → Bytes (a ++ b)
bytes_append [] b h k = k
bytes_append (x ∷ a) b h k = (h.0, bytes_append a b h.1 k)

-- The first n of some bytes are bytes.
pub bytes_take : (n : ℕ) (bs : List ℕ) → Bytes bs → Bytes (take n bs)
bytes_take zero bs h = tt
bytes_take (suc n) [] h = tt
bytes_take (suc n) (b ∷ bs) h = (h.0, bytes_take n bs h.1)

-- What is left of bytes after the first n is bytes.
pub bytes_drop : (n : ℕ) (bs : List ℕ) → Bytes bs → Bytes (drop n bs)
bytes_drop zero bs h = h
bytes_drop (suc n) [] h = tt
bytes_drop (suc n) (b ∷ bs) h = bytes_drop n bs h.1

-- A number is written in bytes.
pub bytes_big_endian : (w n : ℕ) → Bytes (big_endian w n)
bytes_big_endian zero n = tt
bytes_big_endian (suc w) n =
    bytes_append (big_endian w (n / 256)) (n % 256 ∷ []) (bytes_big_endian w (n / 256)) (omega arith, tt)

-- Zeros are bytes.
pub bytes_zeros : (n : ℕ) → Bytes (replicate n 0)
bytes_zeros zero = tt
bytes_zeros (suc n) = (omega arith, bytes_zeros n)

-- The front of a list is told by its length.
pub append_inj :
    {A : Type 0} (a b : List A) {r s : List A} → length a ≡ length b → a ++ r ≡ b ++ s → (a ≡ b) × (r ≡ s)
append_inj [] [] l e = (refl, e)
append_inj [] (y ∷ b) l e = absurd (let z : ◌≡◌ {A = ℕ} 0 1 = cc in omega arith)
append_inj (x ∷ a) [] l e = absurd (let z : ◌≡◌ {A = ℕ} 0 1 = cc in omega arith)
append_inj (x ∷ a) (y ∷ b) l e =
    let t = append_inj a b (omega arith) (tail-eq_of_cons-eq e) in
    (ap₂ (λ h k. h ∷ k) (head-eq_of_cons-eq e) t.0, t.1)

-- One byte at a place states itself.
pub number_one : (bs : List ℕ) (i : ℕ) → i < length bs → number (bytes_at bs i 1) ≡ get_or bs i 0
unfolding number bytes_at
number_one bs i h = rw (drop-cons bs i 0 h) (omega arith)

-- Two numbers, and two lists of bytes, are compared in either order.
eqb_sym : (m n : ℕ) → eqb m n ≡ eqb n m
eqb_sym m n = turned (eqb m n) refl
  where
    turned : (v : Bool) → eqb m n ≡ v → v ≡ eqb n m
    turned true e = sym (eq-eqb n m (sym (eqb-true m n e)))
    turned false e = sym (ne_eqb n m (λ q. eqb-false m n e (sym q)))

pub same_sym : (a b : List ℕ) → same_bytes a b ≡ same_bytes b a
unfolding same_bytes
same_sym [] [] = refl
same_sym [] (y ∷ b) = refl
same_sym (x ∷ a) [] = refl
same_sym (x ∷ a) (y ∷ b) = ap₂ (λ (p q : Bool). p && q) (eqb_sym x y) (same_sym a b)
