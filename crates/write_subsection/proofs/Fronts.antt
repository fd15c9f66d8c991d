-- A draft that holds the first parts of a lawful choice reads; what is known of a longer draft that reads. Assumes nothing.
use mathlib.Core.Path.{◌≡◌, sym, ap, ◌∙◌, subst}
use mathlib.Core.Bool.{false}
use mathlib.Core.List.{List, ◌++◌}
use Prim.Native.Nat.{ℕ, ◌+◌, ◌≤◌, ◌<◌}
use native.Mathlib.Omega.{arith}
use lib.ListN.{length, take, drop, take-append-drop}
use lib.Seq.{take_all, drop-append-le, length-take-le}
use Rattle.format.specs.Bytes.{All, Bytes}
use Rattle.format.specs.Parts.{Part, Choice, write_parts, written, external}
use Rattle.format.specs.Rules.{longest, Section, sections_of}
use Rattle.format.specs.Legal.{Lawful}
use Rattle.format.specs.Reading.{found, id_of, stated, header_checks, reading, parts_of}
use Rattle.format.proofs.Numbers.{bytes_take}
use Rattle.format.proofs.Tests.{Hold}
use Rattle.format.proofs.Grouping.{all_join}
use Rattle.format.proofs.Sound.{GoodSection}
use Rattle.format.proofs.Header.{header_written, written_front}
use Rattle.format.proofs.Accepted.{reading_sound, good_choice, good_lawful}
use Rattle.format.proofs.Beginnings.{choice_front, lawful_front}
use Rattle.format.proofs.Writing.{draft_of}
use Rattle.format.proofs.Changes.{restate}
use Rattle.read_token.proofs.Headers.{lengths}
use Rattle.write_last_part.specs.Tiling.{Reads}
use Rattle.write_appended_part.specs.Appended.{grown}
use Rattle.write_last_part.proofs.Tiling.{States, laid}
use Rattle.write_last_part.proofs.LaidSections.{section_bytes, draft_laid}
use Rattle.write_appended_part.proofs.Longer.{restate_long}
use Rattle.write_appended_part.proofs.Restating.{behind_restated, restate_id, restate_stated, restate_bytes}

-- ---- the first parts of a choice

-- A draft whose header passes its tests, and whose bytes after it are the first parts of a choice that keeps the rules, reads.
pub front_reads : (d : List ℕ) (ps rs : List Part) → Bytes d → Hold (header_checks false d) → Choice (id_of d) (ps ++ rs) → Lawful (id_of d) (ps ++ rs)
    → write_parts ps ≡ drop 8 (take (stated d) d) → Reads d
front_reads d ps rs b h c l w =
    let i : ℕ = id_of d in
    let n = lengths false d h in
    let hw = header_written d b n.front h.1.1.0 h.1.1.1.1.0 in
    let form : written i ps ≡ take (stated d) d = written_front i ps d (stated d) n.least n.within hw.0 w in
    let long = ap length form ∙ length-take-le (stated d) d n.within in
    let most = n.most in (
      sections_of ps,
      (draft_of i ps d (drop (stated d) d) (choice_front i ps rs c) (lawful_front i ps rs l) (omega arith)
          (sym (take-append-drop (stated d) d) ∙ ap (λ (y : List ℕ). y ++ drop (stated d) d) (sym form))).read,
    )

-- ---- the longer draft

-- What is known of a longer draft that reads, r being its bytes after the header and i its id.
pub record LongerRead (i : ℕ) (r : List ℕ) (ts : List Section) : Type 0 where
  pub body : r ≡ laid section_bytes ts
  pub states : All (λ t. States (section_bytes t)) ts
  pub each : All (GoodSection false (external i)) ts
  pub choice : Choice i (parts_of ts)
  pub lawful : Lawful i (parts_of ts)

pub longer_read : (i n : ℕ) (g a y : List ℕ) (ts : List Section) → g ≡ restate 0 n a ++ y → 8 ≤ length a → id_of a ≡ i → length g ≡ n → n ≤ longest → Bytes g
    → reading false g ≡ found ts → LongerRead i (drop 8 a ++ y) ts
longer_read i n g a y ts form h q l m b e =
    let id : id_of g ≡ i = ap id_of form ∙ restate_id n a y (omega arith) ∙ q in
    let st : stated g ≡ n = ap stated form ∙ restate_stated n a y (omega arith) (omega arith) in
    let r = reading_sound false g ts b e in
    let v = draft_laid g ts b e in
    let la = restate_long 0 n a in
    let body : drop 8 (take (stated g) g) ≡ drop 8 a ++ y =
    ap (drop 8) (take_all (stated g) g (omega arith) ∙ form)
    ∙ drop-append-le 8 (restate 0 n a) y (omega arith)
    ∙ ap (λ (x : List ℕ). x ++ y) (behind_restated 8 n a (omega arith)) in
    record {
      body = sym body ∙ v.bytes;
      states = v.states;
      each = subst (λ (j : ℕ). All (GoodSection false (external j)) ts) id r.good.each;
      choice = subst (λ (j : ℕ). Choice j (parts_of ts)) id (good_choice false (id_of g) ts r.byte r.good);
      lawful = subst (λ (j : ℕ). Lawful j (parts_of ts)) id (good_lawful false (id_of g) ts r.known r.good);
    }

pub grown_bytes : (d : List ℕ) (o : ℕ) (w : List ℕ) → Bytes d → Bytes w → Bytes (grown d o w)
grown_bytes d o w b c =
    let D : List ℕ = take (stated d) d in
    let E : List ℕ = restate 0 (stated d + length w) D in
    let m : ℕ = stated (drop o d) + length w in
    all_join (λ (x : ℕ). x < 256) (restate o m E) w (restate_bytes o m E (restate_bytes 0 (stated d + length w) D (bytes_take (stated d) d b))) c
