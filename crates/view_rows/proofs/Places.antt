-- Going over the parts of an accepted token by the places of the code: where it starts, the row of the part at a place, and
-- the place after it.
use mathlib.Core.Path.{◌≡◌, sym, ap, ◌∙◌, subst}
use mathlib.Core.List.{List, ◌∷◌}
use Prim.Native.Nat.{ℕ, ◌+◌, ◌*◌, ◌<◌}
use native.Mathlib.Omega.{arith}
use lib.ListN.{get_or}
use Rattle.format.specs.Bytes.{number, bytes_at}
use Rattle.format.specs.Parts.{kind_number, Part}
use Rattle.format.specs.Reading.{parts_of}
use Rattle.format.specs.Table.{Before}
use Rattle.format.proofs.Unique.{size_pos}
use Rattle.read_rows.specs.Places.{own_length, rules_with, rule_in, Left}
use Rattle.read_rows.proofs.Places as Places
use Rattle.view_layouts.specs.Widths.{Standing}
use Rattle.view_rows.specs.Walk.{Whole, before, LeftAt, BeginsAt, Starts, RowAt, Behind}
use Rattle.format.specs.declared.Row.{Row}
use Rattle.view_rows.specs.declared.Place.{Place}

-- The first place, before all parts.
pub starts : {s : List ℕ} {p : Place} (w : Whole s) → Starts p → LeftAt s p (parts_of w.sections)
starts {s} {p} w e =
    let ps : List Part = parts_of w.sections in
    let l : Left s (before p) 8 0 ps =
    subst (λ (b : Before). Left s b 8 0 ps) (sym e.0) (Places.starts s w.sections w.bytes w.read) in
    subst (λ (m : ℕ). Left s (before p) m p.id ps) (sym e.1) (subst (λ (i : ℕ). Left s (before p) 8 i ps) (sym e.2) l)

-- The next place lies further on.
pub further : {s : List ℕ} {p r : Place} → BeginsAt s p → Behind s p r → p.at < r.at
further {s} {p} {r} w b =
    let n = ap (λ (c : Before). c.place) (b w.part w.behind w.left).0 in
    omega (arith, n, size_pos w.part)

-- What is left where the next part stands is left at the place that the code makes.
moved : {s : List ℕ} {b c : Before} {e i : ℕ} {qs : List Part} → (b ≡ c) × Left s c e i qs → (b ≡ c) × Left s b e i qs
moved {s} {b} {c} {e} {i} {qs} w = (w.0, subst (λ (d : Before). Left s d e i qs) (sym w.0) w.1)

module _ {s : List ℕ} {p : Place} where
  -- ---- the row

  pub section_row : {k l n : ℕ} → p.at ≡ p.end → k ≡ get_or s p.at 0 → l ≡ number (bytes_at s (p.at + 2) 2)
      → n ≡ rule_in (get_or s p.at 0) (rules_with (get_or s p.at 0) p.rules)
      → RowAt s p (record { kind = k * 65536; offset = p.at; length = l; owner = p.row; rule = n })
  section_row {k} {l} {n} h ek el en q qs y =
      ap (λ (i : ℕ). let r : Row = record { kind = i * 65536; offset = p.at; length = l; owner = p.row; rule = n } in r) ek
      ∙ Places.section_row q qs y h el en

  pub sub_row : {k l g n : ℕ} → (p.at ≡ p.end → ⊥) → k ≡ p.id → l ≡ number (bytes_at s (p.at + 2) 2) → g ≡ number (bytes_at s p.at 2)
      → n ≡ rule_in p.id p.rules
      → RowAt s p (record { kind = k * 65536 + g; offset = p.at; length = l; owner = p.owner; rule = n })
  sub_row {k} {l} {g} {n} h ek el eg en q qs y =
      ap (λ (i : ℕ). let r : Row = record { kind = i * 65536 + g; offset = p.at; length = l; owner = p.owner; rule = n } in r) ek
      ∙ Places.sub_row q qs y h el eg en

  -- ---- the place after

  pub section_behind : {l m n : ℕ} → p.at ≡ p.end → l ≡ number (bytes_at s (p.at + 2) 2) → m ≡ own_length (get_or s p.at 0) l
      → n ≡ rules_with (get_or s p.at 0) p.rules
      → Behind s p (record { at = p.at + m; end = p.at + l; id = get_or s p.at 0; row = p.row + 1; owner = p.row; rules = n })
  section_behind h el em en q qs y = moved (Places.section_after q qs y h el em en)

  pub sub_behind : {l : ℕ} → (p.at ≡ p.end → ⊥) → l ≡ number (bytes_at s (p.at + 2) 2)
      → Behind s p (record { at = p.at + l; end = p.end; id = p.id; row = p.row + 1; owner = p.owner; rules = p.rules })
  sub_behind h el q qs y = moved (Places.sub_after q qs y h el)

  -- What of a part at a place a field's place is asked of.
  pub standing : {k : ℕ} (q : Part) (qs : List Part) → LeftAt s p (q ∷ qs) → k ≡ kind_number q.kind → Standing s p.at k
  standing q qs y e =
      let a = Places.there q qs y in
      record { kind = q.kind; told = e; short = y.short; inside = omega (arith, a.ends, a.made) }
