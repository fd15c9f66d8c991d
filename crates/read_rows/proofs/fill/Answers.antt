-- The second pass, section by section: what is left to store makes the whole table.
use mathlib.Core.Path.{◌≡◌, refl, ap, ◌∙◌}
use mathlib.Core.Bool.{Bool, true}
use mathlib.Core.List.{List, [], ◌∷◌}
use Prim.Native.Nat.{ℕ, ◌+◌, ◌*◌, ◌<◌, ◌≤◌}
use native.Mathlib.Omega.{arith}
use lib.ListN.{length, get_or}
use lib.Seq.{sets}
use Rattle.format.specs.Bytes.{number, bytes_at}
use Rattle.format.specs.Rules.{longest}
use Rattle.format.specs.Table.{row_numbers}
use Rattle.format.specs.declared.Row.{Row}
use Rattle.read_rows.specs.Places.{own_length, rules_with, rule_in}
use Rattle.read_rows.specs.Filling.{Filling, standing, Sections, InSection, bare_rule}
use Rattle.read_rows.proofs.Places.{four, id_below}
use Rattle.read_rows.proofs.Steps.{Next, next, start, end, section_on, bare_rule_is, bare_on}
use Rattle.read_rows.proofs.fill.Goals as goal
use Rattle.read_rows.proofs.fill.Goals.{After-own_length}

-- the row of a section at p, row n, with this id, length and number
abbrev section_row : ℕ → ℕ → ℕ → ℕ → ℕ → Row
section_row i p l n r = record { kind = i * 65536; offset = p; length = l; owner = n; rule = r }

-- ---- the section at p

module _ {s t₀ t : List ℕ} {p rules n : ℕ} where
  turn : (w : Sections s t₀ t p rules n) → p < length s → Next s t₀ t (standing p n w.owner rules) p w.id
  turn w h = next w.filling h

  -- what of it is in the token, the counts before it, and the room for its row
  inside : Sections s t₀ t p rules n → p < length s
      → (p + 4 ≤ length s) × (length s ≤ longest) × (n ≤ p) × (rules ≤ n) × (5 * n + 5 ≤ length t) × (get_or s p 0 < 256)
  inside w h =
      let x = turn w h in
      let l = x.here.left in
      (four x.here, l.short, l.few, l.ruled, x.row, id_below x.here refl)

  -- a rule without subsections, once its row is stored
  bare_done : {u : List ℕ} (w : Sections s t₀ t p rules n) → p < length s → {l k : ℕ} {b : Bool} → l ≡ number (bytes_at s (p + 2) 2)
      → k ≡ rules_with (get_or s p 0) rules → b ≡ bare_rule (get_or s p 0) l → b ≡ true
      → u ≡ sets t (5 * n) (0x120000 ∷ p ∷ 20 ∷ n ∷ k ∷ [])
      → Filling s t₀ u (standing (p + 20) (n + 1) n k) (p + 20) (get_or s p 0)
  bare_done w h el ek eb e eu = let k = bare_rule_is _ _ eb e in bare_on (turn w h) refl el ek k.0 k.1 eu

  -- any other section, once its row is stored: its subsections are left
  section_done : {u : List ℕ} (w : Sections s t₀ t p rules n) → p < length s → {i l m k r : ℕ} → i ≡ get_or s p 0 → l ≡ number (bytes_at s (p + 2) 2)
      → m ≡ own_length (get_or s p 0) l → k ≡ rules_with (get_or s p 0) rules → r ≡ rule_in (get_or s p 0) k
      → u ≡ sets t (5 * n) (row_numbers (section_row i p l n r)) → (4 ≤ m) × InSection s t₀ u (n + 1) (p + m) (section_row i p l n r) k (get_or s p 0)
  section_done w h {i} {l} {r = r} ei el em ek er eu =
      let f = section_on (turn w h) refl el em ek er (eu ∙ ap (λ (j : ℕ). sets t (5 * n) (j * 65536 ∷ p ∷ l ∷ n ∷ r ∷ [])) ei) in
      (f.0, record { filling = f.1; kinds = ap (λ (j : ℕ). j * 65536) ei; number = er })

-- the row of a section is stored
done : (c : After-own_length) → let x = section_row c.from.result c.loop-p.p c.two-length.result c.loop-p.n c.rule_in.result in
    (4 ≤ c.own_length.result)
    × InSection c.args.s.now c.args.table.now c.put_row-in-loop-p.new.table (c.loop-p.n + 1) (c.loop-p.p + c.own_length.result) x c.rules_with-rules.result (get_or c.args.s.now c.loop-p.p 0)
done c =
    section_done c.loop-p.invariant c.loop-p-test.true c.from.ensures c.two-length.ensures.0 c.own_length.ensures c.rules_with-rules.ensures c.rule_in.ensures
    c.put_row-in-loop-p.ensures

pub loop-p-init : goal.loop-p-init
loop-p-init c = record { owner = 0; id = 0; filling = start c.requires }

pub two-length-requires : goal.two-length-requires
two-length-requires c = omega (arith, inside c.loop-p.invariant c.loop-p-test.true)

pub loop-p-preserved-then-is_bare_rule : goal.loop-p-preserved-then-is_bare_rule
loop-p-preserved-then-is_bare_rule c = record {
  owner = _;
  id = _;
  filling =
      bare_done c.loop-p.invariant c.loop-p-test.true c.two-length.ensures.0 c.rules_with-rules.ensures c.is_bare_rule.ensures
      c.if-is_bare_rule.true c.put_row.ensures;
}

pub overflow_add-p-in-loop-p : goal.overflow_add-p-in-loop-p
overflow_add-p-in-loop-p c =
    let w = (done (goal.at.overflow_add-p-in-loop-p c).After-own_length).1.filling.left in
    omega (arith, w.front, w.short)

pub put_subsections-n-requires : goal.put_subsections-n-requires
put_subsections-n-requires c = record { first = _; rules = _; id = _; within = (done (goal.at.put_subsections-n-requires c).After-own_length).1 }

pub loop-p-smaller : goal.loop-p-smaller
loop-p-smaller c =
    let w = done (goal.at.loop-p-smaller c).After-own_length in
    omega (arith, w.0, w.1.filling.left.ends, c.loop-p-test.true)

pub loop-p-preserved : goal.loop-p-preserved
loop-p-preserved c =
    record { owner = _; id = _; filling = c.put_subsections-n.ensures _ _ _ (done (goal.at.loop-p-preserved c).After-own_length).1 }

pub returns : goal.returns
returns c = end c.loop-p.invariant.filling c.loop-p-test.false
