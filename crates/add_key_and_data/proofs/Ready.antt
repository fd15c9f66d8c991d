-- The two sections as additions that are judged before they are written, and the bytes of one in its place. Assumes nothing.
use mathlib.Core.Path.{◌≡◌, refl, sym, ap, ◌∙◌}
use mathlib.Core.Bool.{true}
use mathlib.Core.List.{List, [], ◌∷◌, ◌++◌, append-nil}
use Prim.Native.Nat.{ℕ, ◌+◌, ◌-◌, ◌/◌, ◌%◌, ◌≤◌}
use native.Mathlib.Omega.{arith}
use lib.ListN.{length, take, drop, length-append, length-drop}
use lib.Seq.{sets, length-sets, length-take-le}
use borrow.Rule.Slice.PartMut.{put_mid}
use Rattle.format.specs.Bytes.{Bytes, big_endian, number, bytes_at}
use Rattle.format.specs.Answers.{Accepted}
use Rattle.format.specs.Layout.{Fields, fits, write}
use Rattle.format.specs.Parts.{Kind, public_key, application_data, layout}
use Rattle.format.specs.Reading.{as_answer}
use Rattle.format.specs.Rules.{longest}
use Rattle.format.specs.Writer.{public_key_fields}
use Rattle.format.proofs.Changes.{restate}
use Rattle.format.proofs.Numbers.{number_big_endian}
use Rattle.write_appended_part.proofs.Longer.{put_over, length_put}
use Rattle.write_section.proofs.Calls.{header_stands}
use Rattle.write_section.proofs.Fields.{fixed_fits, count_fits, counted_fits}
use Rattle.write_judged_section.specs.Placing.{place_for}
use Rattle.write_judged_section.proofs.Answers.{Ready, placed}

-- data that its count can state
pub data_ready : (d x : List ℕ) → length x ≤ 65535 → Bytes d
    → Ready application_data (x ∷ []) d (write (6 + length x) (layout application_data) (x ∷ [])) (6 + length x)
data_ready d x h b =
    let l : length (x ++ []) ≡ length x = ap length (append-nil x) in
    record {
      single = record { section = refl; bare = refl; once = refl };
      fit = counted_fits (length x) 65535 h refl;
      bytes = b;
      form = refl;
      long = omega arith;
    }

-- an exponent and a modulus that their counts can state
key_fits : (bits : ℕ) (x y : List ℕ) (flags : ℕ) → length x ≤ 65535 → length y ≤ 65535
    → fits [] (layout public_key) (public_key_fields bits x y flags) ≡ true
key_fits bits x y flags h k =
    count_fits (length x) 65535 h
    (count_fits (length y) 65535 k (fixed_fits (length x) (length x) refl (fixed_fits (length y) (length y) refl refl)))

-- the length of the section
key_length : (bits : ℕ) (x y : List ℕ) (flags : ℕ)
    → 16 + length x + length y
    ≡ length (write (16 + length x + length y) (layout public_key) (public_key_fields bits x y flags))
key_length bits x y flags =
    let l = length-append x (y ++ (big_endian 4 flags ++ [])) in
    let m = length-append y (big_endian 4 flags ++ []) in
    omega arith

pub key_ready : (d : List ℕ) (bits : ℕ) (x y : List ℕ) (flags : ℕ) → length x ≤ 65535 → length y ≤ 65535 → Bytes d
    → Ready public_key (public_key_fields bits x y flags) d
    (write (16 + length x + length y) (layout public_key) (public_key_fields bits x y flags)) (16 + length x + length y)
key_ready d bits x y flags h k b = record {
  single = record { section = refl; bare = refl; once = refl };
  fit = key_fits bits x y flags h k;
  bytes = b;
  form = refl;
  long = key_length bits x y flags;
}

-- what its counts state, in the bytes of the section
pub key_states : (bits : ℕ) (x y : List ℕ) (flags : ℕ) → length x ≤ 65535 → length y ≤ 65535
    → let w = write (16 + length x + length y) (layout public_key) (public_key_fields bits x y flags) in
    (number (bytes_at w 6 2) ≡ length x) × (number (bytes_at w 10 2) ≡ length y)
unfolding bytes_at
key_states bits x y flags h k = (number_big_endian 2 (length x) (omega arith), number_big_endian 2 (length y) (omega arith))

-- ---- a section in its place

-- the place l of n bytes after a draft
pub record Room (d : List ℕ) (l n : ℕ) : Type 0 where
  pub most : l + n ≤ longest
  pub there : l + n ≤ length d
  pub least : 8 ≤ l

pub room : {l : ℕ} (d : List ℕ) (i n : ℕ) → Accepted l ≡ as_answer (λ m. m) (place_for i n d) → Room d l n
room {l} d i n a =
    let p = (placed d i n a).1 in
    let e = p.ends in
    let m = p.most in
    let t = p.there in
    let h = (header_stands d p.reads).least in
    record {
      most = omega arith;
      there = omega arith;
      least = omega arith;
    }

-- the bytes there are that many
pub part_long : (d : List ℕ) (l n : ℕ) → l + n ≤ length d → length (take (l + n - l) (drop l d)) ≡ n
part_long d l n h =
    let k : l + n - l ≡ n = omega arith in
    let e = length-drop l d in
    length-take-le (l + n - l) (drop l d) (omega arith) ∙ k

-- the section's bytes v and then the draft's new length u written over those that were there
pub put_and_stated : {u v : List ℕ} (k : Kind) (fs : Fields) (d : List ℕ) (l n : ℕ) → Room d l n
    → v ≡ write (length (take (l + n - l) (drop l d))) (layout k) fs → n ≡ length (write n (layout k) fs)
    → u ≡ (l + n) / 256 % 256 ∷ (l + n) % 256 ∷ []
    → put_mid 2 2 (put_mid l (l + n - l) d v) u ≡ restate 0 (l + n) (sets d l (write n (layout k) fs))
put_and_stated {u} {v} k fs d l n r e q h =
    let w = write n (layout k) fs in
    let there = r.there in
    let least = r.least in
    let same : v ≡ w = e ∙ ap (λ (m : ℕ). write m (layout k) fs) (part_long d l n there) in
    ap (λ (y : List ℕ). put_mid 2 2 y u) (put_over l (l + n) d w same (ap (λ (m : ℕ). l + m) (sym q)) there)
    ∙ length_put 0 (l + n) (sets d l w) h (omega (arith, length-sets d l w))
