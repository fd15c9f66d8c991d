-- The header's tests, and the answer after them.
use Rattle.std.specs.Prelude.{⊤, Ok, Err}
use mathlib.Core.Path.{◌≡◌, refl, sym, ap, ◌∙◌}
use mathlib.Core.Bool.{Bool, true, false, ◌&&◌, and-false}
use mathlib.Core.List.{List, []}
use Prim.Native.Nat.{ℕ, suc, ◌<◌, ◌≤◌}
use native.Mathlib.Omega.{arith}
use lib.Dec.{eqb, leb}
use lib.ListN.{length, get_or, take, drop, length-drop}
use lib.Seq.{take_all, length-take-le}
use borrow.Author.Tests.{eqb-true, le-leb, lt-leb, leb-true}
use Rattle.format.specs.Parts.{external}
use Rattle.format.specs.Rules.{longest}
use Rattle.format.specs.Reading.{as_answer, id_of, stated, length_allowed, header_checks, sections, row_count, reading, answer}
use Rattle.format.specs.declared.Refusal.{Refusal}
use Rattle.format.proofs.Finding.{and_split}
use Rattle.format.proofs.Tests.{Hold}
use Rattle.format.proofs.Turns.{sections_from_is}
use Rattle.read_sections.specs.Refusals.{first_refusal}
use Rattle.read_sections.proofs.Laws.{all_hold, byte_number}
use Rattle.read_sections.proofs.Subs.{refused_told, stops, leads}
use Rattle.read_token.specs.Progress.{sections_answer}

-- ---- the id

-- The id of the header is its first byte.
pub id_first : (s : List ℕ) → 0 < length s → id_of s ≡ get_or s 0 0
id_first s h = sym (byte_number s 0 h)

-- ---- the length

-- A token as long as it states is at most 3500 bytes long where it states no more.
token_length : (s : List ℕ) → length_allowed true s ≡ (leb (stated s) longest && eqb (stated s) (length s))
token_length s = go (eqb (stated s) (length s)) refl
  where
    go : (b : Bool) → eqb (stated s) (length s) ≡ b → (leb (length s) longest && eqb (stated s) (length s)) ≡ (leb (stated s) longest && eqb (stated s) (length s))
    go true e = ap (λ (n : ℕ). leb n longest && eqb (stated s) (length s)) (sym (eqb-true (stated s) (length s) e))
    go false e = rw (e, and-false (leb (length s) longest), and-false (leb (stated s) longest))

-- A length above 3500 is stated of no token and no draft.
pub length_above : {n : ℕ} (full : Bool) (s : List ℕ) → n ≡ stated s → longest < n → false ≡ length_allowed full s
length_above true s q h = rw (token_length s, lt-leb (stated s) longest (omega arith))
length_above false s q h = rw (lt-leb (stated s) longest (omega arith), and-false (leb 8 (stated s)))

-- One that is not above 3500 is a token's where it is the length of its buffer.
pub length_full : {n : ℕ} {full : Bool} (s : List ℕ) → n ≡ stated s → n ≤ longest → full ≡ true → eqb n (length s) ≡ length_allowed full s
length_full s q h e = rw (q, e, token_length s, le-leb (stated s) longest (omega arith))

-- It is no draft's where it is under 8.
pub length_below : {n : ℕ} {full : Bool} (s : List ℕ) → n ≡ stated s → n < 8 → full ≡ false → false ≡ length_allowed full s
length_below s q h e = rw (e, lt-leb 8 (stated s) (omega arith))

-- And from 8 on where so many bytes are there.
pub length_draft : {n : ℕ} {full : Bool} (s : List ℕ) → n ≡ stated s → n ≤ longest → 8 ≤ n → full ≡ false → leb n (length s) ≡ length_allowed full s
length_draft s q h l e = rw (q, e, le-leb 8 (stated s) (omega arith), le-leb (stated s) longest (omega arith))

-- What passed tests say of the lengths.
pub record Lengths (s : List ℕ) : Type 0 where
  pub front : 8 ≤ length s
  pub least : 8 ≤ stated s
  pub most : stated s ≤ longest
  pub within : stated s ≤ length s

pub lengths : (full : Bool) (s : List ℕ) → Hold (header_checks full s) → Lengths s
lengths true s c =
    let w = and_split (leb (length s) longest) (eqb (stated s) (length s)) c.1.1.1.0 in
    let a = leb-true 8 (length s) c.0 in
    let b = leb-true (length s) longest w.0 in
    let e = eqb-true (stated s) (length s) w.1 in
    record { front = a; least = omega arith; most = omega arith; within = omega arith }
lengths false s c =
    let w = and_split (leb 8 (stated s) && leb (stated s) longest) (leb (stated s) (length s)) c.1.1.1.0 in
    let v = and_split (leb 8 (stated s)) (leb (stated s) longest) w.0 in
    record {
      front = leb-true 8 (length s) c.0;
      least = leb-true 8 (stated s) v.0;
      most = leb-true (stated s) longest v.1;
      within = leb-true (stated s) (length s) w.1;
    }

-- ---- the answer

module _ (full : Bool) (s : List ℕ) where
  -- A header that a test refuses is refused with it.
  pub header_stops : {r : Refusal} → Err r ≡ first_refusal 0 (header_checks full s) → Err r ≡ as_answer row_count (reading full s)
  unfolding reading
  header_stops e =
      refused_told row_count
      (stops 0 (header_checks full s) (sections (suc (stated s)) full (external (id_of s)) [] 8 (drop 8 (take (stated s) s))) e)

  module _ {u : ⊤} (e : Ok u ≡ first_refusal 0 (header_checks full s)) where
    -- What a header that none refuses says of the lengths.
    pub header_lengths : Lengths s
    header_lengths = lengths full s (all_hold 0 (header_checks full s) e)

    -- After it the sections in the stated length are read.
    pub header_goes : as_answer row_count (reading full s) ≡ sections_answer (take (stated s) s) full (external (id_of s))
    unfolding reading
    header_goes =
        let l = header_lengths.within in
        let n = length-drop 8 (take (stated s) s) in
        let m = length-take-le (stated s) s l in
        ap (as_answer row_count)
        (leads 0 (header_checks full s) _ e
        ∙ sections_from_is (suc (stated s)) full (external (id_of s)) [] 8 (drop 8 (take (stated s) s)) (omega arith))

-- A token is as long as its header states, and its sections are all that is after it.
module _ {u : ⊤} (s : List ℕ) (e : Ok u ≡ first_refusal 0 (header_checks true s)) where
  pub whole_length : stated s ≡ length s
  whole_length =
      let c = all_hold 0 (header_checks true s) e in
      let w = and_split (leb (length s) longest) (eqb (stated s) (length s)) c.1.1.1.0 in
      eqb-true (stated s) (length s) w.1

  pub whole_goes : answer s ≡ sections_answer s true (external (id_of s))
  unfolding answer
  whole_goes =
      header_goes true s e
      ∙ ap (λ (r : List ℕ). sections_answer r true (external (id_of s))) (take_all (stated s) s (omega (arith, whole_length)))
