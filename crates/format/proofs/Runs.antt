-- Legal tokens laid end to end have one cutting, and so one count of rules.
use mathlib.Core.Path.{◌≡◌, refl, sym, ap, ap₂, ◌∙◌, subst}
use mathlib.Core.Bool.{Bool, true, false}
use mathlib.Core.Logic.{◌↔◌}
use mathlib.Core.List.{List, [], ◌∷◌, ◌++◌, map, append-nil}
use Prim.Native.Nat.{ℕ, ◌+◌, ◌*◌, ◌^◌, ◌≤◌, ◌<◌}
use native.Mathlib.Omega.{arith}
use lib.ListN.{length, get_or, length-append, get_or-append}
use Rattle.format.specs.Bytes.{All}
use Rattle.format.specs.Parts.{rule, same_kind, Part, written}
use Rattle.format.specs.Rules.{of_kind}
use Rattle.format.specs.Legal.{Legal, rule_count, rules_of_all, joined}
use Rattle.format.specs.Table.{Before, after, placed}
use Rattle.format.specs.Claims.{rule_rows}
use Rattle.format.proofs.Numbers.{append_inj}
use Rattle.format.proofs.Unique.{one_choice}

-- Bytes 2 and 3 of a written form state its length.
written_sized :
    (i : ℕ) (ps : List Part) → length (written i ps) < 256 ^ 2
    → (4 ≤ length (written i ps)) × (get_or (written i ps) 2 0 * 256 + get_or (written i ps) 3 0 ≡ length (written i ps))
written_sized i ps h = (omega arith, omega arith)

-- A legal token has four bytes at least, and its bytes 2 and 3 state its length.
legal_sized : (bs : List ℕ) → Legal bs → (4 ≤ length bs) × (get_or bs 2 0 * 256 + get_or bs 3 0 ≡ length bs)
legal_sized bs l =
    subst (λ (x : List ℕ). (4 ≤ length x) × (get_or x 2 0 * 256 + get_or x 3 0 ≡ length x)) l.form.same
    (written_sized l.id l.parts l.form.whole)

-- Equal bytes that begin with legal tokens begin with the same one.
first_told : (t u r s : List ℕ) → Legal t → Legal u → t ++ r ≡ u ++ s → (t ≡ u) × (r ≡ s)
first_told t u r s l m e =
    let a = legal_sized t l in
    let b = legal_sized u m in
    let x = same 2 (omega arith) (omega arith) in
    let y = same 3 (omega arith) (omega arith) in
    append_inj t u (omega arith) e
  where
    same : (i : ℕ) → i < length t → i < length u → get_or t i 0 ≡ get_or u i 0
    same i h k =
        sym (get_or-append t r 0 i h) ∙ ap (λ (x : List ℕ). get_or x i 0) e ∙ get_or-append u s 0 i k

-- No legal token is the beginning of a longer legal one.
pub prefix_free : (t r : List ℕ) → Legal t → Legal (t ++ r) → r ≡ []
prefix_free t r l m = (first_told t (t ++ r) r [] l m (sym (append-nil (t ++ r)))).1

-- Legal tokens that join to the same bytes are the same.
cutting : (ts us : List (List ℕ)) → All Legal ts → All Legal us → joined ts ≡ joined us → ts ≡ us
cutting [] [] ls ms e = refl
cutting [] (u ∷ us) ls ms e =
    let b = legal_sized u ms.0 in
    let l : 0 ≡ length u + length (joined us) = ap length e ∙ length-append u (joined us) in
    absurd (omega arith)
cutting (t ∷ ts) [] ls ms e =
    let b = legal_sized t ls.0 in
    let l : length t + length (joined ts) ≡ 0 = sym (length-append t (joined ts)) ∙ ap length e in
    absurd (omega arith)
cutting (t ∷ ts) (u ∷ us) ls ms e =
    let c = first_told t u (joined ts) (joined us) ls.0 ms.0 e in
    ap₂ (λ x y. x ∷ y) c.0 (cutting ts us ls.1 ms.1 c.1)

-- Two lists of legal tokens join to the same bytes exactly where they are the same list.
pub same_bytes_same_list : (ts us : List (List ℕ)) → All Legal ts → All Legal us → (joined ts ≡ joined us) ↔ (ts ≡ us)
same_bytes_same_list ts us ls ms = (cutting ts us ls ms, λ e. ap joined e)

-- The count of rules does not turn on how the tokens are shown to be legal.
same_count : (ts : List (List ℕ)) (ls ms : All Legal ts) → rules_of_all ts ls ≡ rules_of_all ts ms
same_count [] ls ms = refl
same_count (t ∷ ts) ls ms =
    let l = ls.0 in
    let m = ms.0 in
    let c = one_choice l.id m.id l.parts m.parts t l.form m.form in
    ap₂ (λ (x y : ℕ). x + y) (ap rule_count c.1) (same_count ts ls.1 ms.1)

-- Two lists of legal tokens that join to the same bytes have the same count of rules.
pub one_count :
    (ts us : List (List ℕ)) (ls : All Legal ts) (ms : All Legal us) → joined ts ≡ joined us
    → rules_of_all ts ls ≡ rules_of_all us ms
one_count ts us ls ms e =
    subst (λ (vs : List (List ℕ)). (ns : All Legal vs) → rules_of_all ts ls ≡ rules_of_all vs ns) (cutting ts us ls ms e)
    (same_count ts ls) ms

-- ---- the count of rules

-- It is the number of sections 12.
pub count_of_sections : (ps : List Part) → rule_count ps ≡ length (of_kind rule ps)
count_of_sections [] = refl
count_of_sections (p ∷ ps) = go (same_kind rule p.kind) (count_of_sections ps)
  where
    go : (b : Bool) → rule_count ps ≡ length (of_kind rule ps)
        → elim b as (λ c. ℕ) [ true ↦ 1 | false ↦ 0 ] + rule_count ps
        ≡ length {A = Part} (elim b as (λ c. List Part) [ true ↦ p ∷ of_kind rule ps | false ↦ of_kind rule ps ])
    go true e = omega arith
    go false e = omega arith

-- And that of the rows that stand for them.
pub count_of_rows : (b : Before) (ps : List Part) → rule_rows (map (λ x. x.row) (placed b ps)) ≡ rule_count ps
count_of_rows b [] = refl
count_of_rows b (p ∷ ps) =
    ap (λ (m : ℕ). elim (same_kind rule p.kind) as (λ c. ℕ) [ true ↦ 1 | false ↦ 0 ] + m) (count_of_rows (after b p) ps)
