-- The loop over the sections, turn by turn.
use Rattle.std.specs.Prelude.{Ok, Err}
use mathlib.Core.Path.{◌≡◌, sym, ◌∙◌, subst}
use mathlib.Core.Bool.{Bool, true}
use mathlib.Core.List.{List, [], ◌∷◌, ◌++◌}
use Prim.Native.Nat.{ℕ, ◌+◌, ◌<◌}
use native.Mathlib.Omega.{arith}
use lib.ListN.{length, get_or, set, drop, length-set}
use Rattle.format.specs.Parts.{section_id}
use Rattle.format.specs.Rules.{Section}
use Rattle.format.specs.Reading.{id_of, stated, section, as_answer}
use Rattle.format.specs.declared.Refusal.{Refusal}
use Rattle.format.proofs.Finding.{section_kind_sound}
use Rattle.read_sections.specs.Refusals.{section_rows}
use Rattle.read_sections.proofs.Laws.{byte_number}
use Rattle.read_sections.proofs.Subs.{at_here}
use Rattle.read_token.specs.Progress.{Stands, Marked, SectionsRead, sections_answer}
use Rattle.read_token.proofs.Steps.{Found, found_here, refused_here, short_here, read_more, marked_more, id_small}

-- the sections up to p are read, and there is a mark for each id
pub record Turn (s : List ℕ) (full x : Bool) (p n : ℕ) (seen : List Bool) : Type 0 where
  pub read : SectionsRead s full x p n seen
  pub marks : length seen ≡ 0x16

-- The id of a section is its first byte.
id_here : (s : List ℕ) (p : ℕ) (c : Section) → Stands (drop p s) c → p < length s → section_id c.head.kind ≡ get_or s p 0
id_here s p c w h = (section_kind_sound (id_of (drop p s)) c.head.kind w.kind).1 ∙ at_here s p 1 ∙ sym (byte_number s p h)

module _ {s : List ℕ} {full x : Bool} {p n : ℕ} {seen : List Bool} (w : Turn s full x p n seen) (h : p < length s) where
  pub turn_short : {r : Refusal} → r ≡ record { number = 6; place = p } → length s < p + 4 → Err r ≡ sections_answer s full x
  turn_short f e = refused_here s full x p w.read h (short_here s full x w.read.before p f (omega arith) e)

  -- The section is refused.
  pub turn_refused : {r : Refusal} → ((before : List Section) → Marked seen before → Err r ≡ as_answer section_rows (section full x before p (drop p s)))
      → Err r ≡ sections_answer s full x
  turn_refused a = refused_here s full x p w.read h (a w.read.before w.read.marked)

  -- The section is found.
  pub turn_found : {k : ℕ} → ((before : List Section) → Marked seen before → Ok k ≡ as_answer section_rows (section full x before p (drop p s)))
      → Found s full x w.read.before p k
  turn_found a = found_here s full x w.read.before p h (a w.read.before w.read.marked)

  pub turn_id : {k : ℕ} → Found s full x w.read.before p k → get_or s p 0 < 0x16
  turn_id f = let e = id_here s p f.section f.stands h in let l = id_small f.section.head.kind in omega arith

  pub turn_more : {k l i : ℕ} → Found s full x w.read.before p k → l ≡ stated (drop p s) → i ≡ get_or s p 0
      → Turn s full x (p + l) (n + k) (set seen i true)
  turn_more {k} {l} {i} f el ei =
      let c : Section = f.section in
      let e : section_id c.head.kind ≡ i = id_here s p c f.stands h ∙ sym ei in
      record {
        read = read_more s full x p w.read h f el
            (subst (λ (j : ℕ). Marked (set seen j true) (w.read.before ++ c ∷ [])) e
            (marked_more seen w.read.before c w.marks (section_kind_sound (id_of (drop p s)) c.head.kind f.stands.kind).0 w.read.marked));
        marks = length-set seen i true ∙ w.marks;
      }
