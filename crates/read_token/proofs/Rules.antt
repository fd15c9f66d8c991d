-- A run of rules, turn by turn.
use Rattle.std.specs.Prelude.{Result, Ok, Err}
use mathlib.Core.Path.{◌≡◌, refl, sym, ap, ◌∙◌, subst}
use mathlib.Core.Bool.{Bool, true, false}
use mathlib.Core.List.{List, [], ◌∷◌, ◌++◌}
use Prim.Native.Nat.{ℕ, ◌+◌, ◌<◌, ◌≤◌}
use native.Mathlib.Omega.{arith}
use lib.ListN.{length, get_or, drop}
use lib.Dec.{eqb}
use borrow.Author.Tests.{eqb-true, eqb-false}
use Rattle.format.specs.Bytes.{number, bytes_at}
use Rattle.read_sections.proofs.Laws.{byte_number}
use Rattle.format.specs.Parts.{rule, same_kind, Part}
use Rattle.format.specs.Rules.{Section}
use Rattle.format.specs.Reading.{stated}
use Rattle.format.specs.declared.Refusal.{Refusal}
use Rattle.read_rules.specs.Ids.{Held, RuleAnswered}
use Rattle.read_token.specs.Progress.{Running, sections_answer}
use Rattle.read_token.proofs.Steps.{Found, found_here, refused_here, short_here, read_more, marked_rule}
use Rattle.read_token.proofs.Notes.{rule_here}

-- What is answered of the rule that is taken at p is answered of the bytes from there on.
pub answered_there : {full x : Bool} {before : List Section} {r t : List ℕ} {p q m n : ℕ} {ids : List ℕ} {a : Result ℕ Refusal} → (r ≡ t) × (p ≡ q) × (m ≡ n)
    → RuleAnswered full x before r p ids a → RuleAnswered full x before t q ids a
answered_there {full} {x} {before} {t = t} {p = p} {ids = ids} {a = a} e h =
    subst (λ (q : ℕ). RuleAnswered full x before t q ids a) e.1 (subst (λ (r : List ℕ). RuleAnswered full x before r p ids a) e.0 h)

module _ {s : List ℕ} {full x : Bool} {seen : List Bool} {p n : ℕ} {ids : List ℕ} (w : Running s full x seen p n ids) (h : p < length s) where
  -- Fewer than four bytes are left.
  pub run_short : {r : Refusal} → r ≡ record { number = 6; place = p } → length s < p + 4 → Err r ≡ sections_answer s full x
  run_short f e = refused_here s full x p w.read h (short_here s full x w.read.before p f (omega arith) e)

  -- The rule is refused.
  pub run_refused : {r : Refusal} {new : List ℕ} → RuleAnswered full x w.read.before (drop p s) p new (Err r) → Err r ≡ sections_answer s full x
  run_refused a = refused_here s full x p w.read h a.same

  -- The rule is found.
  pub run_found : {k : ℕ} {new : List ℕ} → RuleAnswered full x w.read.before (drop p s) p new (Ok k) → Found s full x w.read.before p k
  run_found a = found_here s full x w.read.before p h a.same

  pub run_more : {k l : ℕ} {new : List ℕ} → RuleAnswered full x w.read.before (drop p s) p new (Ok k) → get_or s p 0 ≡ 0x12 → l ≡ stated (drop p s)
      → Running s full x seen (p + l) (n + k) new
  unfolding read_more
  run_more {k} {l} {new} a i el =
      let f = run_found a in
      let c : Section = f.section in
      let here = rule_here s p c f.stands h i in
      let g = a.held c f.read in
      record {
        read = read_more s full x p w.read h f el (marked_rule seen w.read.before c (ap (λ (q : Part). same_kind rule q.kind) here.head) w.read.marked);
        held = subst (λ (y : ℕ). Held (w.read.before ++ c ∷ []) (p + y) new) (sym el) g;
      }

-- A place with another id is not the first one.
pub later : (s : List ℕ) (first p : ℕ) → first ≤ p → first < length s → number (bytes_at s first 1) ≡ 0x12 → (get_or s p 0 ≡ 0x12 → ⊥) → first < p
later s first p l h i e = go (eqb first p) refl
  where
    go : (b : Bool) → eqb first p ≡ b → first < p
    go true q = absurd (e (ap (λ (j : ℕ). get_or s j 0) (sym (eqb-true first p q)) ∙ byte_number s first h ∙ i))
    go false q = some_less (eqb-false first p q)
      where
        some_less : (first ≡ p → ⊥) → first < p
        some_less d = omega arith
