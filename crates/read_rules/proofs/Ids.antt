-- Rule IDs as numbers: a Rule ID came before exactly when its number did, and the set goes on with it. Assumes nothing.
use mathlib.Core.Path.{◌≡◌, refl, sym, ap, ap₂, ◌∙◌}
use mathlib.Core.Bool.{Bool, true, false, ◌&&◌, ◌||◌, or-false, or_assoc, or_comm}
use mathlib.Core.List.{List, [], ◌∷◌, ◌++◌}
use mathlib.Core.Logic.{⊎_elim}
use Prim.Native.Nat.{ℕ, ◌+◌, ◌≤◌, ◌<◌}
use native.Mathlib.Nat.{pos_of_ne-zero}
use native.Mathlib.Omega.{arith}
use lib.Dec.{eqb}
use lib.ListN.{get_or, replicate}
use borrow.Author.Tests.{eqb-true, eq-eqb, ne_eqb}
use Rattle.format.specs.Bytes.{All, big_endian, number, all_zero, same_bytes}
use Rattle.format.specs.Forms.{in_rule_id, padded, rule_id_form}
use Rattle.format.specs.Parts.{Part}
use Rattle.format.specs.Rules.{longest, Section, same_rule_id}
use Rattle.format.specs.Reading.{rule_before}
use Rattle.format.proofs.Numbers.{big_endian_number}
use Rattle.format.proofs.Finding.{and_split}
use Rattle.format.proofs.Grouping.{all_join}
use Rattle.read_rule_ids.specs.Keys.{id_places, Room, Put}
use Rattle.read_rule_ids.proofs.Laws.{same_or, none_kept, none_below, none_among}
use Rattle.read_fields.proofs.Lists.{zero_number}
use Rattle.read_rules.specs.Ids.{first_field, is_rule, key_before, EightBytes, Held}

-- ---- the number of a Rule ID

-- The first byte of a Rule ID is a character, so not 0.
first_some : (b : ℕ) (bs : List ℕ) → padded in_rule_id (b ∷ bs) ≡ true → b ≡ 0 → ⊥
first_some b bs e z =
    let f : padded in_rule_id (0 ∷ bs) ≡ true = ap (λ (i : ℕ). padded in_rule_id (i ∷ bs)) (sym z) ∙ e in
    let n : ◌≡◌ {A = ℕ} 0 1 = cc in
    omega arith

-- So the number is not.
pub id_some : (bs : List ℕ) → rule_id_form bs ≡ true → 0 < number bs
unfolding rule_id_form all_zero
id_some [] e = absurd (let z : ◌≡◌ {A = ℕ} 0 1 = cc in omega arith)
id_some (b ∷ bs) e =
    pos_of_ne-zero
    (λ z.
    let all = zero_number (b ∷ bs) ∙ eq-eqb (number (b ∷ bs)) 0 z in
    first_some b bs e (eqb-true b 0 (and_split (eqb b 0) (all_zero bs) all).0))

-- The same bytes are the same list.
same_list : (a b : List ℕ) → same_bytes a b ≡ true → a ≡ b
unfolding same_bytes
same_list [] [] e = refl
same_list [] (c ∷ b) e = absurd (let z : ◌≡◌ {A = ℕ} 0 1 = cc in omega arith)
same_list (c ∷ a) [] e = absurd (let z : ◌≡◌ {A = ℕ} 0 1 = cc in omega arith)
same_list (c ∷ a) (d ∷ b) e =
    let s = and_split (eqb c d) (same_bytes a b) e in
    ap₂ (λ (i : ℕ) (l : List ℕ). i ∷ l) (eqb-true c d s.0) (same_list a b s.1)

-- A list is the same bytes as itself.
same_self : (a : List ℕ) → same_bytes a a ≡ true
unfolding same_bytes
same_self [] = refl
same_self (c ∷ a) = ap₂ (λ (b d : Bool). b && d) (eq-eqb c c refl) (same_self a)

-- Two lists of eight bytes are the same exactly when their numbers are.
same_number : (a b : List ℕ) → EightBytes a → EightBytes b → same_bytes a b ≡ eqb (number b) (number a)
same_number a b e f =
    ⊎_elim
    (λ n.
    let same : a ≡ b =
    sym (big_endian_number a e.bytes) ∙ ap₂ big_endian (e.long ∙ sym f.long) (sym n) ∙ big_endian_number b f.bytes in
    ap (same_bytes a) (sym same) ∙ same_self a ∙ sym (eq-eqb (number b) (number a) n))
    (λ d. differ (same_bytes a b) refl d ∙ sym (ne_eqb (number b) (number a) d))
    (same_or (number b) (number a))
  where
    differ : (t : Bool) → same_bytes a b ≡ t → (number b ≡ number a → ⊥) → t ≡ false
    differ true s d = absurd (d (ap number (sym (same_list a b s))))
    differ false s d = refl

-- ---- the rules before

-- A rule with the same Rule ID stands before exactly when one with the same number does.
pub rule_key : (p : Part) (ss : List Section) → EightBytes (get_or p.fields 0 [])
    → All (λ (s : Section). is_rule s ≡ true → EightBytes (first_field s)) ss → rule_before p ss ≡ key_before (number (get_or p.fields 0 [])) ss
rule_key p [] e h = refl
rule_key p (s ∷ ss) e h = ap₂ (λ (a b : Bool). a || b) (go (is_rule s) h.0) (rule_key p ss e h.1)
  where
    go : (b : Bool) → (b ≡ true → EightBytes (first_field s))
        → (b && same_rule_id p s.head) ≡ (b && eqb (number (first_field s)) (number (get_or p.fields 0 [])))
    go true k = same_number (get_or p.fields 0 []) (first_field s) e (k refl)
    go false k = refl

-- One section more.
key_last : (key : ℕ) (ss : List Section) (s : Section)
    → key_before key (ss ++ s ∷ []) ≡ (key_before key ss || (is_rule s && eqb (number (first_field s)) key))
key_last key [] s = or-false (is_rule s && eqb (number (first_field s)) key)
key_last key (t ∷ ss) s =
    ap (λ (b : Bool). (is_rule t && eqb (number (first_field t)) key) || b) (key_last key ss s)
    ∙ sym (or_assoc (is_rule t && eqb (number (first_field t)) key) (key_before key ss) (is_rule s && eqb (number (first_field s)) key))

-- ---- the set

-- Before the first section the set is empty.
pub held_none : (p : ℕ) → 8 ≤ p → Held [] p (replicate id_places 0)
held_none p h = record { kept = none_kept; count = 0; few = omega arith; below = none_below 512; eight = tt; holds = λ key pos. none_among id_places key pos }

-- At a place of a token there is room for one rule more.
pub held_room : {before : List Section} {p : ℕ} {ids : List ℕ} → Held before p ids → p ≤ longest → Room ids
held_room h small =
    record { kept = h.kept; below = λ i nz. let few = h.few in let b = h.below i nz in omega arith }

-- A section that is no rule leaves the set as it is.
pub held_skip : {before : List Section} {p q : ℕ} {ids : List ℕ} (s : Section) → Held before p ids → p ≤ q → is_rule s ≡ false
    → Held (before ++ s ∷ []) q ids
held_skip {before} s h grows e =
    record {
      kept = h.kept;
      count = h.count;
      few = let few = h.few in omega arith;
      below = h.below;
      eight = all_join _ before (s ∷ []) h.eight ((λ y. absurd (let z : ◌≡◌ {A = ℕ} 0 1 = cc in omega arith)), tt);
      holds = λ key pos. h.holds key pos ∙ sym (key_last key before s ∙ rw (e, or-false (key_before key before)));
    }

-- A rule of at least 20 bytes is put into it.
pub held_put : {before : List Section} {p q : ℕ} {old new : List ℕ} {seen : Bool} (s : Section) → Held before p old
    → Put old (number (first_field s)) seen new → p + 20 ≤ q → is_rule s ≡ true → EightBytes (first_field s) → Held (before ++ s ∷ []) q new
held_put {before} s h w grows e f =
    let key : ℕ = number (first_field s) in
    record {
      kept = w.kept;
      count = h.count + 1;
      few = let few = h.few in omega arith;
      below = λ i nz. let b = w.below (512 + h.count) (omega arith) h.below i nz in omega arith;
      eight = all_join _ before (s ∷ []) h.eight ((λ y. f), tt);
      holds = λ k pos. w.holds k pos ∙ rw (key_last k before s, e, h.holds k pos) (or_comm (eqb key k) (key_before k before));
    }
