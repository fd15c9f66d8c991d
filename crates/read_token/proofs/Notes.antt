-- The Rule IDs before a run: each section that is noted leaves the set as the definition has it.
use mathlib.Core.Path.{◌≡◌, refl, sym, ap, ◌∙◌, subst}
use mathlib.Core.Bool.{Bool, true, false}
use mathlib.Core.List.{List, [], ◌∷◌, ◌++◌, append_assoc, append-nil}
use Prim.Native.Nat.{ℕ, ◌+◌, ◌<◌, ◌≤◌}
use native.Mathlib.Omega.{arith}
use lib.ListN.{length, get_or, drop}
use Rattle.format.specs.Bytes.{number, bytes_at}
use Rattle.format.specs.Slots.{least}
use Rattle.format.specs.Parts.{Kind, rule, section_id, same_kind, layout, Part}
use Rattle.format.specs.Reading.{section_kind, id_of, stated, part_in}
use Rattle.format.specs.Rules.{Section}
use Rattle.format.proofs.Finding.{same_kind_eq, section_kind_sound}
use Rattle.read_rule_ids.specs.Keys.{Put}
use Rattle.read_sections.proofs.Laws.{byte_number, at_drop}
use Rattle.read_sections.proofs.Subs.{at_here}
use Rattle.read_rules.specs.Ids.{first_field, is_rule, EightBytes, Held}
use Rattle.read_rules.proofs.Ids.{id_some, held_put, held_skip}
use Rattle.read_rules.proofs.Whole.{eight_bytes_at}
use Rattle.read_token.specs.Progress.{Stands, Ahead, Noted}
use Rattle.read_token.proofs.Steps.{some_same}

-- ---- one section

-- What is known of a section at q that begins with 12.
pub record RuleHere (s : List ℕ) (q : ℕ) (c : Section) : Type 0 where
  pub head : c.head ≡ part_in rule (drop q s)
  pub long : 20 ≤ stated (drop q s)
  pub some : 0 < number (bytes_at (drop q s) 4 8)

pub rule_here : (s : List ℕ) (q : ℕ) (c : Section) → Stands (drop q s) c → q < length s → get_or s q 0 ≡ 0x12 → RuleHere s q c
rule_here s q c w h e =
    let id : id_of (drop q s) ≡ 0x12 = at_here s q 1 ∙ sym (byte_number s q h) ∙ e in
    let k : rule ≡ c.head.kind = some_same (sym (ap section_kind id) ∙ w.kind) in
    let head : c.head ≡ part_in rule (drop q s) = subst (λ (y : Kind). c.head ≡ part_in y (drop q s)) (sym k) w.head in
    let l = subst (λ (y : Kind). least (layout y) ≤ stated (drop q s)) (sym k) w.least in
    let f = id_some (first_field c) (w.rule_id (ap (λ (p : Part). same_kind rule p.kind) head)) in
    record {
      head = head;
      long = omega arith;
      some = subst (λ (p : Part). 0 < number (get_or p.fields 0 [])) head f;
    }

other_here : (s : List ℕ) (q : ℕ) (c : Section) → Stands (drop q s) c → q < length s → (get_or s q 0 ≡ 0x12 → ⊥) → is_rule c ≡ false
other_here s q c w h e = go (is_rule c) refl
  where
    go : (b : Bool) → is_rule c ≡ b → is_rule c ≡ false
    go false z = z
    go true z =
        absurd
        (let k : rule ≡ c.head.kind = same_kind_eq rule c.head.kind z in
        e (byte_number s q h ∙ sym (at_here s q 1) ∙ sym (section_kind_sound (id_of (drop q s)) c.head.kind w.kind).1 ∙ sym (ap section_id k)))

-- A rule is put into the set.
pub rule_noted : {before : List Section} {old new : List ℕ} {v : ℕ} {seen : Bool} (s : List ℕ) (q : ℕ) (c : Section) → Stands (drop q s) c
    → q + stated (drop q s) ≤ length s → q < length s → get_or s q 0 ≡ 0x12 → ((k : ℕ) → get_or s k 0 < 256) → Held before q old → Put old v seen new
    → v ≡ number (bytes_at s (q + 4) 8) → Held (before ++ c ∷ []) (q + stated (drop q s)) new
rule_noted {before} {old} {new} {v} {seen} s q c w i h e small held put l =
    let r = rule_here s q c w h e in
    let long = r.long in
    let same : v ≡ number (bytes_at (drop q s) 4 8) = l ∙ sym (ap number (at_drop s q 4 8)) in
    held_put c held
    (subst (λ (p : Part). Put old (number (get_or p.fields 0 [])) seen new) (sym r.head) (subst (λ (k : ℕ). Put old k seen new) same put))
    (omega arith)
    (ap (λ (p : Part). same_kind rule p.kind) r.head)
    (subst (λ (p : Part). EightBytes (get_or p.fields 0 [])) (sym r.head) (eight_bytes_at s q small (omega arith)))

-- Another section is not.
pub other_noted : {before : List Section} {ids : List ℕ} (s : List ℕ) (q : ℕ) (c : Section) → Stands (drop q s) c → q < length s
    → (get_or s q 0 ≡ 0x12 → ⊥) → Held before q ids → Held (before ++ c ∷ []) (q + stated (drop q s)) ids
other_noted s q c w h e held = held_skip c held (omega arith) (other_here s q c w h e)

-- ---- the sections one after another

pub ahead_le : (s : List ℕ) (q : ℕ) (cs : List Section) (p : ℕ) → Ahead s q cs p → q ≤ p
ahead_le s q [] p a = omega arith
ahead_le s q (c ∷ cs) p a = let i = ahead_le s (q + stated (drop q s)) cs p a.1 in omega arith

-- The section at q.
pub record NextNoted (s : List ℕ) (before : List Section) (p q : ℕ) (ids : List ℕ) : Type 0 where
  pub done : List Section
  pub section : Section
  pub rest : List Section
  pub whole : before ≡ done ++ (section ∷ rest)
  pub stands : Stands (drop q s) section
  pub ahead : Ahead s (q + stated (drop q s)) rest p
  pub held : Held done q ids
  pub four : 4 ≤ stated (drop q s)
  pub inside : q + stated (drop q s) ≤ p

pub noted_next : {s : List ℕ} {before : List Section} {p q : ℕ} {ids : List ℕ} → Noted s before p q ids → q < p → NextNoted s before p q ids
noted_next {s} {before} {p} {q} {ids} n h = go n.rest n.whole n.ahead
  where
    go : (cs : List Section) → before ≡ n.done ++ cs → Ahead s q cs p → NextNoted s before p q ids
    go [] e a = absurd (omega arith)
    go (c ∷ cs) e a =
        record {
          done = n.done;
          section = c;
          rest = cs;
          whole = e;
          stands = a.0;
          ahead = a.1;
          held = n.held;
          four = a.0.four;
          inside = ahead_le s (q + stated (drop q s)) cs p a.1;
        }

-- It is noted.
pub noted_more : {s : List ℕ} {before : List Section} {p q l : ℕ} {ids new : List ℕ} → NextNoted s before p q ids
    → ((ds : List Section) (c : Section) → Stands (drop q s) c → Held ds q ids → Held (ds ++ c ∷ []) (q + stated (drop q s)) new)
    → l ≡ stated (drop q s) → Noted s before p (q + l) new
noted_more {s} {before} {p} {q} {l} {ids} {new} n f e =
    subst (λ (y : ℕ). Noted s before p (q + y) new) (sym e)
    (record {
      done = n.done ++ n.section ∷ [];
      rest = n.rest;
      whole = n.whole ∙ sym (append_assoc n.done (n.section ∷ []) n.rest);
      ahead = n.ahead;
      held = f n.done n.section n.stands n.held;
    })

-- All are.
pub noted_all : {s : List ℕ} {before : List Section} {p q : ℕ} {ids : List ℕ} → Noted s before p q ids → p ≤ q → Held before p ids
noted_all {s} {before} {p} {q} {ids} n h = go n.rest n.whole n.ahead
  where
    go : (cs : List Section) → before ≡ n.done ++ cs → Ahead s q cs p → Held before p ids
    go [] e a = subst (λ (y : ℕ). Held before y ids) a (subst (λ (b : List Section). Held b q ids) (sym (e ∙ append-nil n.done)) n.held)
    go (c ∷ cs) e a =
        absurd
        (let f = a.0.four in
        let i = ahead_le s (q + stated (drop q s)) cs p a.1 in
        omega arith)
