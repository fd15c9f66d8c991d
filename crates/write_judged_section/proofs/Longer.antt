-- The reading of a draft with one section more, where the draft reads. Assumes nothing.
use mathlib.Core.Path.{◌≡◌, refl, sym, ap, ap₂, ◌∙◌, subst}
use mathlib.Core.Bool.{Bool, false}
use mathlib.Core.List.{List, [], ◌∷◌, ◌++◌, append-nil}
use Prim.Native.Nat.{ℕ, suc, ◌+◌, ◌≤◌}
use native.Mathlib.Omega.{arith}
use lib.ListN.{length, take, drop, length-append, length-drop, take-append-drop}
use lib.Seq.{length-take-le}
use borrow.Author.Tests.{le-leb}
use Rattle.format.specs.Bytes.{Bytes, bytes_at, all_zero}
use Rattle.format.specs.Parts.{external, known_id}
use Rattle.format.specs.Rules.{longest, Section}
use Rattle.format.specs.Reading.{found, need, and_then, id_of, stated, section, header_checks, reading}
use Rattle.format.proofs.Finding.{and_join}
use Rattle.format.proofs.Numbers.{bytes_take, bytes_drop}
use Rattle.format.proofs.Tests.{Hold, tests_passed, tests_lead, found_inj}
use Rattle.format.proofs.Turns.{sections_from, sections_from_is, sections_none}
use Rattle.format.proofs.Changes.{restate}
use Rattle.write_appended_part.specs.Appended.{grown}
use Rattle.write_last_part.specs.Tiling.{Tiled}
use Rattle.write_last_part.proofs.Tiling.{passed, passed_then}
use Rattle.write_appended_part.proofs.Restating.{restate_over}
use Rattle.write_appended_part.proofs.Longer.{grown_long}
use Rattle.write_last_part.proofs.LaidSections.{reads_tiled}
use Rattle.write_section.proofs.Calls.{header_stands}
use Rattle.write_section.proofs.Refusals.{Late, sections_front, grown_parts}
use Rattle.write_section.proofs.Alone.{alone}

-- Another length in the header, and other bytes after it, leave its version and what is reserved.
header_kept : (a y w : List ℕ) (n : ℕ) → 8 ≤ length a
    → (bytes_at (restate 0 n a ++ w) 1 1 ≡ bytes_at (a ++ y) 1 1) × (bytes_at (restate 0 n a ++ w) 4 4 ≡ bytes_at (a ++ y) 4 4)
unfolding bytes_at
header_kept [] y w n h = absurd (omega arith)
header_kept (a₀ ∷ []) y w n h = absurd (omega arith)
header_kept (a₀ ∷ a₁ ∷ []) y w n h = absurd (omega arith)
header_kept (a₀ ∷ a₁ ∷ a₂ ∷ []) y w n h = absurd (omega arith)
header_kept (a₀ ∷ a₁ ∷ a₂ ∷ a₃ ∷ []) y w n h = absurd (omega arith)
header_kept (a₀ ∷ a₁ ∷ a₂ ∷ a₃ ∷ a₄ ∷ []) y w n h = absurd (omega arith)
header_kept (a₀ ∷ a₁ ∷ a₂ ∷ a₃ ∷ a₄ ∷ a₅ ∷ []) y w n h = absurd (omega arith)
header_kept (a₀ ∷ a₁ ∷ a₂ ∷ a₃ ∷ a₄ ∷ a₅ ∷ a₆ ∷ []) y w n h = absurd (omega arith)
header_kept (a₀ ∷ a₁ ∷ a₂ ∷ a₃ ∷ a₄ ∷ a₅ ∷ a₆ ∷ a₇ ∷ bs) y w n h = (refl, refl)

-- The header of the longer draft passes its tests too.
grown_header : (d w : List ℕ) → Hold (header_checks false d) → stated d + length w ≤ longest → 8 ≤ stated d → stated d ≤ length d
    → length (grown d 0 w) ≡ stated d + length w → Hold (header_checks false (grown d 0 w))
grown_header d w h m least there long =
    let g : List ℕ = grown d 0 w in
    let D : List ℕ = take (stated d) d in
    let n : ℕ = stated d + length w in
    let p = grown_parts d w h m in
    let st = p.states in
    let l = length-take-le (stated d) d there in
    let form : g ≡ restate 0 n D ++ w = ap (λ (y : List ℕ). y ++ w) (restate_over n n D) in
    let whole : D ++ drop (stated d) d ≡ d = take-append-drop (stated d) d in
    let k = header_kept D (drop (stated d) d) w n (omega arith) in
    let version : bytes_at g 1 1 ≡ bytes_at d 1 1 = ap (λ (y : List ℕ). bytes_at y 1 1) form ∙ k.0 ∙ ap (λ (y : List ℕ). bytes_at y 1 1) whole in
    let reserved : bytes_at g 4 4 ≡ bytes_at d 4 4 = ap (λ (y : List ℕ). bytes_at y 4 4) form ∙ k.1 ∙ ap (λ (y : List ℕ). bytes_at y 4 4) whole in (
      le-leb 8 (length g) (omega arith),
      (
        ap known_id p.id ∙ h.1.0,
        (
          ap all_zero version ∙ h.1.1.0,
          (
            and_join _ _ (and_join _ _ (le-leb 8 (stated g) (omega arith)) (le-leb (stated g) longest (omega arith))) (le-leb (stated g) (length g) (omega arith)),
            (ap all_zero reserved ∙ h.1.1.1.1.0, tt),
          ),
        ),
      ),
    )

-- The sections that were read are found again, and the one after them is read at their end.
pub reading_after : (d w : List ℕ) (ss : List Section) → Bytes d → reading false d ≡ found ss → stated d + length w ≤ longest → 4 ≤ length w
    → stated w ≡ length w
    → reading false (grown d 0 w) ≡ and_then (section false (external (id_of d)) ss (stated d) w) (λ s. found (ss ++ s ∷ []))
unfolding reading need
reading_after d w ss b e m four says =
    let D : List ℕ = take (stated d) d in
    let g : List ℕ = grown d 0 w in
    let x : Bool = external (id_of d) in
    let s = header_stands d (ss, e) in
    let least = s.least in
    let most = s.most in
    let q = tests_passed 0 (header_checks false d) _ ss e in
    let ld = length-take-le (stated d) d s.there in
    let le = length-drop 8 D in
    let p = grown_parts d w q.0 m in
    let st = p.states in
    let t : Tiled (drop 8 D) = reads_tiled d ss b e in
    let all : drop 8 D ≡ passed t = passed_then t ∙ append-nil (passed t) in
    let la = ap length all in
    let lw = length-append (passed t) w in
    let body : drop 8 (take (stated g) g) ≡ passed t ++ w = p.body ∙ ap (λ (y : List ℕ). y ++ w) all in
    let lb = ap length body in
    let front : sections_from false x [] 8 (passed t ++ []) ≡ found ss =
    ap (sections_from false x [] 8) (append-nil (passed t) ∙ sym all)
    ∙ sym (sections_from_is (suc (stated d)) false x [] 8 (drop 8 D) (omega arith))
    ∙ q.1 in
    let r = sections_front x [] t [] 8 (subst Bytes (all ∙ sym (append-nil (passed t))) (bytes_drop 8 D (bytes_take (stated d) d b))) (omega arith)
    (subst (Late (8 + length (passed t))) (sym front) tt) in
    let same : r.0 ≡ ss = found_inj (sym (sections_none false x r.0 (8 + length (passed t)) [] refl) ∙ sym (r.1 []) ∙ front) in
    let end : 8 + length (passed t) ≡ stated d = omega arith in
    tests_lead 0 (header_checks false g) _ (grown_header d w q.0 m least s.there (grown_long d 0 w s))
    ∙ sections_from_is (suc (stated g)) false (external (id_of g)) [] 8 (drop 8 (take (stated g) g)) (omega arith)
    ∙ ap₂ (λ (i : ℕ) (y : List ℕ). sections_from false (external i) [] 8 y) p.id body
    ∙ r.1 w
    ∙ ap₂ (λ (y : List Section) (n : ℕ). sections_from false x y n w) same end
    ∙ alone x ss (stated d) w four says
