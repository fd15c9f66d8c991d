-- Section 14: a turn of the loop over its subsections, and its end.
use Rattle.std.specs.Prelude.{⊤, Result, Ok, Err}
use mathlib.Core.Path.{◌≡◌, refl, sym, ap, ap₂, ◌∙◌}
use mathlib.Core.Bool.{Bool, true, false, not, ◌||◌, or-true, or-false}
use mathlib.Core.List.{List, [], ◌∷◌, ◌++◌}
use mathlib.Core.Option.{Option, none, some}
use Prim.Native.Nat.{ℕ, ◌+◌, ◌-◌, ◌<◌, ◌≤◌}
use native.Mathlib.Omega.{arith}
use lib.Dec.{eqb}
use lib.ListN.{length, drop}
use borrow.Author.Tests.{ne_eqb}
use Rattle.format.specs.Bytes.{number, bytes_at}
use Rattle.format.specs.Parts.{Kind, information, protection, dates, token_parameters, same_kind, Part}
use Rattle.format.specs.Reading.{subsection, subsection_kind, found, fault, need, as_answer, stated, part_in, after_subsections, section_rest}
use Rattle.format.specs.Rules.{has, mask_covers}
use Rattle.format.specs.declared.Refusal.{Refusal}
use Rattle.format.proofs.Reaching.{mask_none}
use Rattle.format.proofs.Tests.{then_found, need_passed}
use Rattle.format.proofs.Turns.{subsections_from, subs_none}
use Rattle.read_sections.specs.Refusals.{whether, first_refusal, fixed_head_checks, section_rows}
use Rattle.read_information.specs.Loops.{InformationRead}
use Rattle.read_sections.proofs.Heads.{section_rest_is}
use Rattle.read_sections.proofs.Laws.{fixed_room}
use Rattle.read_sections.proofs.Subs.{at_start, GoesOn, refused_told, refused_then, refused_same, loop_stops, loop_room, loop_on, has_last, kind_other, length_last}

-- A subsection of m bytes whose head has passed is there.
pub fixed_there : {u : ⊤} (m n : ℕ) (seen : Bool) (r : List ℕ) (p : ℕ) → n ≤ length r → Ok u ≡ first_refusal p (fixed_head_checks m seen n r) → m ≤ length r
fixed_there m n seen r p h e = let w = fixed_room p m n seen r e in omega (arith, w)

-- ---- the tags of section 14

-- The kind that a tag tells in section 14.
abbrev told_by : Bool → Bool → Option Kind
told_by a b = elim a [ true ↦ some protection | false ↦ elim b [ true ↦ some dates | false ↦ none ] ]

pub tag_unknown : (t : ℕ) → (t ≡ 0x0001 → ⊥) → (t ≡ 0x0002 → ⊥) → subsection_kind information t ≡ none
tag_unknown t a b = ap₂ told_by (ne_eqb 0x0001 t (λ e. a (sym e))) (ne_eqb 0x0002 t (λ e. b (sym e)))

-- A kind is told by the tag 0001, which is that of protection, or else it is dates.
kind_one : (k : Kind) (t : ℕ) → subsection_kind information t ≡ some k → t ≡ 0x0001 → k ≡ protection
kind_one k t e h = let q : some protection ≡ some k = sym (ap (subsection_kind information) h) ∙ e in cc

kind_two : (k : Kind) (t : ℕ) → subsection_kind information t ≡ some k → (t ≡ 0x0001 → ⊥) → k ≡ dates
kind_two k t e h = go (eqb 0x0002 t) (sym (ap (λ (a : Bool). told_by a (eqb 0x0002 t)) (ne_eqb 0x0001 t (λ q. h (sym q)))) ∙ e)
  where
    go : (b : Bool) → told_by false b ≡ some k → k ≡ dates
    go true q = cc
    go false q = absurd (let z : ◌≡◌ {A = ℕ} 0 1 = cc in omega arith)

-- ---- a turn

-- What is told of the subsection at offset q, whatever stands before it, where the flags say which tags do.
abbrev Told : Result ⊤ Refusal → List ℕ → ℕ → ℕ → Bool → ℕ → Bool → Bool → Type 0
Told a r at e x q protected dated =
    (before : List Part) → has protection before ≡ protected → has dates before ≡ dated
    → a ≡ whether (subsection x information before (at + q) (e - q) (drop q r))

module _ {r : List ℕ} {at e : ℕ} {x : Bool} {q n : ℕ} {protected dated : Bool} (w : InformationRead r at e x q n protected dated) (h : q < e)
    {u : ⊤} (f : Told (Ok u) r at e x q protected dated) where
  -- Where the subsection at q is accepted it has four bytes and ends within the section.
  pub room : (4 ≤ number (bytes_at r (q + 2) 2)) × (number (bytes_at r (q + 2) 2) ≤ e - q)
  room = loop_room r at x information w.done q e h (f w.done w.protections w.dateds)

  module _ {t g : ℕ} (l : t ≡ number (bytes_at r (q + 2) 2)) (tag : g ≡ number (bytes_at r q 2)) where
    on : GoesOn r at x information w.done q e h t
    on = loop_on r at x information w.done q e h (f w.done w.protections w.dateds) l

    -- One subsection more is read, of kind k.
    turn : {protected' dated' : Bool} (k : Kind) → on.kind ≡ k → protected' ≡ (protected || same_kind protection k) → dated' ≡ (dated || same_kind dates k)
        → same_kind token_parameters k ≡ false → InformationRead r at e x (q + t) (n + 1) protected' dated'
    turn k same a b c =
        let v : Part = part_in on.kind (drop q r) in
        let m = room in
        let last = length_last w.done v in
        record {
          done = w.done ++ v ∷ [];
          protections = has_last protection w.done v ∙ ap₂ (λ (y z : Bool). y || z) w.protections (ap (same_kind protection) same) ∙ sym a;
          dateds = has_last dates w.done v ∙ ap₂ (λ (y z : Bool). y || z) w.dateds (ap (same_kind dates) same) ∙ sym b;
          unmasked = kind_other token_parameters w.done v (ap (same_kind token_parameters) same ∙ c) ∙ w.unmasked;
          rows = omega (arith, w.rows);
          few = omega (arith, w.few, m.0);
          ends = omega (arith, m.1);
          same = on.same ∙ w.same;
        }

    -- Its tag is 1, and the one flag is set; or it is 2, and the other.
    pub turn_one : {protected' dated' : Bool} → g ≡ 0x0001 → protected' ≡ true → dated' ≡ dated → InformationRead r at e x (q + t) (n + 1) protected' dated'
    turn_one v a b = turn protection (kind_one _ _ on.told (sym tag ∙ v)) (a ∙ sym (or-true protected)) (b ∙ sym (or-false dated)) refl

    pub turn_two : {protected' dated' : Bool} → (g ≡ 0x0001 → ⊥) → protected' ≡ protected → dated' ≡ true → InformationRead r at e x (q + t) (n + 1) protected' dated'
    turn_two v a b = turn dates (kind_two _ _ on.told (λ y. v (tag ∙ y))) (a ∙ sym (or-false protected)) (b ∙ sym (or-true dated)) refl

-- ---- the whole section

-- Where the subsection at q is refused, the section is, with the same refusal.
pub turn_stops : {r : List ℕ} {at e : ℕ} {x : Bool} {q n : ℕ} {protected dated : Bool} {v : Refusal} (full : Bool)
    (w : InformationRead r at e x q n protected dated) → q < e → Told (Err v) r at e x q protected dated → e ≡ stated r
    → Err v ≡ as_answer section_rows (section_rest full x information at r)
turn_stops {r} {at} {e} {x} {q} full w h f l =
    refused_told section_rows
    (refused_same (section_rest_is full x information r at e l)
    (refused_then _ (refused_same (sym w.same) (loop_stops r at x information w.done q e h (f w.done w.protections w.dateds)))))

module _ {r : List ℕ} {at e : ℕ} {x : Bool} {q n : ℕ} {protected dated : Bool} (full : Bool) (w : InformationRead r at e x q n protected dated)
    (h : e ≤ q) (l : e ≡ stated r) where
  -- What the loop has read when it ends is all of the section, whose 0001 is required.
  loop_end : section_rest full x information at r ≡ need (not full || protected) (fault 20 at at) (found (record { head = part_in information r; subs = w.done }))
  unfolding after_subsections
  loop_end =
      let zero : e - q ≡ 0 = omega arith in
      section_rest_is full x information r at e l
      ∙ then_found _
      (sym w.same ∙ ap (λ (a : ℕ). subsections_from x information w.done (at + q) a (drop q r)) zero ∙ subs_none x information w.done (at + q) (drop q r))
      ∙ need_passed (mask_covers w.done) (fault 18 _ _) _ (mask_none w.done w.unmasked)
      ∙ ap (λ (b : Bool). need (not full || b) (fault 20 at at) (found (record { head = part_in information r; subs = w.done }))) w.protections

  -- The section is accepted with its rows, or refused with 20.
  pub ends_there : (not full || protected) ≡ true → Ok n ≡ as_answer section_rows (section_rest full x information at r)
  unfolding as_answer need
  ends_there b = ap (λ (n : ℕ). Ok n) w.rows ∙ sym (ap (as_answer section_rows) loop_end ∙ rw b)

  pub ends_missing : {v : Refusal} → v ≡ record { number = 20; place = at + 0 } → (not full || protected) ≡ false
      → Err v ≡ as_answer section_rows (section_rest full x information at r)
  unfolding as_answer need
  ends_missing a b = ap (λ (v : Refusal). Err v) (at_start a) ∙ sym (ap (as_answer section_rows) loop_end ∙ rw b)
