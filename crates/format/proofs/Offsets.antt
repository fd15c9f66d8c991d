-- What a test of a part's fields points at lies within the bytes that the part's fields make.
use mathlib.Core.Bool.{Bool, true, false, ◌||◌}
use mathlib.Core.Logic.{⊎_elim}
use mathlib.Core.Path.{◌≡◌, refl}
use mathlib.Core.List.{List}
use Prim.Native.Nat.{ℕ, ◌+◌, ◌≤◌, ◌<◌}
use native.Mathlib.Omega.{arith}
use native.Mathlib.Nat.{eq-zero-or-pos}
use borrow.Author.Tests.{eqb-false}
use lib.Dec.{eqb}
use lib.ListN.{length, drop, length-drop, length-take}
use Rattle.format.specs.Bytes.{All, number, bytes_at}
use Rattle.format.specs.Forms.{leading, space, in_rule_id, rule_id_form, rule_id_reach, label_form, label_reach}
use Rattle.format.specs.Parts.{Kind, public_key, rule, transport_variant, transport_rule, export_parameters, source_rule, token_parameters}
use Rattle.format.specs.Parts.{name, information, protection, dates, application_data}
use Rattle.format.specs.Reading.{Test, made_length, field_checks}
use Rattle.format.proofs.FormRuns.{run_within}
use Rattle.format.proofs.RuleIdPlaces.{rule_id_place}
use Rattle.format.proofs.LabelPlaces.{label_place}

taken_le : (r : List ℕ) (o n : ℕ) → length (bytes_at r o n) ≤ n
unfolding bytes_at
taken_le r o n = simp length-take (omega arith)

-- The place of a refusal 17 lies within the field.
rule_id_within : (bs : List ℕ) → rule_id_reach bs ≤ length bs
unfolding rule_id_reach
rule_id_within bs = go (eqb (leading in_rule_id bs) 0)
  where
    go : (y : Bool) → elim y as (λ z. ℕ) [ true ↦ 0 | false ↦ leading in_rule_id bs + leading space (drop (leading in_rule_id bs) bs) ] ≤ length bs
    go true = omega arith
    go false =
        let n = leading in_rule_id bs in
        omega (arith, run_within in_rule_id bs, run_within space (drop n bs), length-drop n bs)

-- A test that fails points before the end of what the fields make.
abbrev pub Inner : ℕ → List Test → Type 0
Inner m cs = All (λ (c : Test). c.holds ≡ false → c.offset < m) cs

rule_id_inner : (r : List ℕ) (o : ℕ) → rule_id_form (bytes_at r o 8) ≡ false → rule_id_reach (bytes_at r o 8) < 8
rule_id_inner r o e =
    let t = taken_le r o 8 in
    ⊎_elim (λ (z : length (bytes_at r o 8) ≡ 0). omega (arith, rule_id_within (bytes_at r o 8)))
    (λ (z : 0 < length (bytes_at r o 8)). omega (arith, (rule_id_place (bytes_at r o 8) z e).0)) (eq-zero-or-pos (length (bytes_at r o 8)))

label_inner : (bs : List ℕ) (n : ℕ) → length bs ≤ n → (eqb (length bs) 0 || label_form bs) ≡ false → label_reach bs < n
label_inner bs n h e = go (eqb (length bs) 0) refl e
  where
    go : (y : Bool) → eqb (length bs) 0 ≡ y → (y || label_form bs) ≡ false → label_reach bs < n
    go true q w = absurd (let v : ◌≡◌ {A = ℕ} 0 1 = cc in omega arith)
    go false q w =
        let z = eqb-false (length bs) 0 q in
        let p : 1 ≤ length bs = omega (arith, z) in
        omega (arith, (label_place bs p w).0)

label_end : (r : List ℕ) →
    let m = number (bytes_at r 8 1) in
    let z = number (bytes_at r (9 + m + m) 1) in
    let l = bytes_at r (9 + m + m + 1) z in
    (eqb (length l) 0 || label_form l) ≡ false → (9 + m + m + 1) + label_reach l < 9 + m + m + 1 + z
label_end r e =
    let m = number (bytes_at r 8 1) in
    let z = number (bytes_at r (9 + m + m) 1) in
    let q = label_inner (bytes_at r (9 + m + m + 1) z) z (taken_le r (9 + m + m + 1) z) e in
    omega arith

pub fields_inner : (x : Bool) (k : Kind) (r : List ℕ) → Inner (made_length k r) (field_checks x k r)
fields_inner x public_key r = (λ e. omega arith, (λ e. omega arith, (λ e. omega arith, (λ e. omega arith, (λ e. omega arith, (λ e. omega arith, (λ e. omega arith, tt)))))))
fields_inner x rule r =
    (λ e. omega (arith, rule_id_inner r 4 e), (λ e. omega arith, (λ e. omega arith, (λ e. omega arith, (λ e. omega arith, (λ e. omega arith, tt))))))
fields_inner x transport_variant r = (λ e. omega arith, tt)
fields_inner x transport_rule r = (λ e. omega arith, (λ e. omega (arith, rule_id_inner r 6 e), tt))
fields_inner x export_parameters r = (λ e. omega arith, (λ e. omega arith, (λ e. omega arith, (λ e. omega arith, (λ e. omega arith, (λ e. omega arith, (λ e. omega arith, tt)))))))
fields_inner x source_rule r = (λ e. omega arith, (λ e. omega (arith, rule_id_inner r 6 e), tt))
fields_inner x token_parameters r = (λ e. omega arith, (λ e. omega arith, (λ e. omega arith, (λ e. omega arith, (λ e. label_end r e, tt)))))
fields_inner x name r = tt
fields_inner x information r = (λ e. omega arith, (λ e. omega arith, tt))
fields_inner x protection r = (λ e. omega arith, (λ e. omega arith, tt))
fields_inner x dates r = (λ e. omega arith, (λ e. omega arith, (λ e. omega arith, (λ e. omega arith, (λ e. omega arith, tt)))))
fields_inner x application_data r = tt
