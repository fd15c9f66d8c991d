-- The writer's calls over a whole run: what is added is what is read, what is finished is legal, and the parts of any
-- legal token added in order give back its bytes.
use mathlib.Core.Path.{◌≡◌, refl, sym, ap, ap₂, ◌∙◌, subst}
use mathlib.Core.Bool.{true, false, not, ◌||◌}
use mathlib.Core.List.{List, [], ◌∷◌, ◌++◌, append_assoc, append-nil}
use mathlib.Core.Logic.{◌↔◌}
use Prim.Native.Nat.{ℕ, ◌+◌, ◌-◌, ◌^◌, ◌≤◌, ◌<◌}
use native.Mathlib.Omega.{arith}
use lib.Dec.{leb, lit≤}
use lib.ListN.{length, take, drop, length-append, length-drop, take-append-drop}
use lib.Seq.{take_at, take_all, drop-drop, drop-append_seam}
use borrow.Author.Tests.{le-leb}
use Rattle.format.specs.Bytes.{All, Bytes}
use Rattle.format.specs.Layout.{fits}
use Rattle.format.specs.Parts.{layout, Part, written, Choice, WrittenForm, external, known_id}
use Rattle.format.specs.Rules.{longest, Section, sections_of, has_required}
use Rattle.format.specs.Legal.{Lawful, Legal}
use Rattle.format.specs.Reading.{Outcome, refused, found, and_then, id_of, stated, as_answer, length_allowed, reading, parts_of}
use Rattle.format.specs.Writer.{draft_after, start, longer, addition, finish}
use Rattle.format.specs.Answers.{Accepted}
use Rattle.format.proofs.Finding.{and_join}
use Rattle.format.proofs.Unique.{written_length, one_choice}
use Rattle.format.proofs.Refusing.{addition_passed, addition_found}
use Rattle.format.proofs.Tests.{found_inj, needed, need_passed, followed, then_found}
use Rattle.format.proofs.Grouping.{all_join, all_split, stateable}
use Rattle.format.proofs.Header.{header_read}
use Rattle.format.proofs.Flat.{choice_flat}
use Rattle.format.proofs.Accepted.{reading_sound, reading_complete, good_choice, good_lawful, lawful_good, choice_parts, read_legal, legal_read}
use Rattle.format.proofs.Beginnings.{written_bytes, written_more, beginning_le, choice_front, lawful_front}
use Rattle.format.specs.Claims.{additions}

-- ---- a draft that holds a choice

-- The draft begins with the written form of the choice, and reads as it.
pub record Draft (i : ℕ) (ps : List Part) (d : List ℕ) : Type 0 where
  pub choice : Choice i ps
  pub lawful : Lawful i ps
  pub small : length (written i ps) ≤ longest
  pub rest : List ℕ
  pub form : d ≡ written i ps ++ rest
  pub read : reading false d ≡ found (sections_of ps)
  pub flat : parts_of (sections_of ps) ≡ ps

-- No rule of refusal 20 is asked of a draft.
not_asked : (ss : List Section) → All (λ (s : Section). (not false || has_required s) ≡ true) ss
not_asked [] = tt
not_asked (s ∷ ss) = (refl, not_asked ss)

-- A lawful choice that is short enough, and bytes that begin with its written form, are such a draft.
pub draft_of : (i : ℕ) (ps : List Part) (d z : List ℕ) → Choice i ps → Lawful i ps → length (written i ps) ≤ longest → d ≡ written i ps ++ z
    → Draft i ps d
draft_of i ps d z c l h e =
    let small : length (written i ps) < 256 ^ 2 = omega arith in
    let r = header_read i ps d z small e in
    let st = r.2 in
    let lw = written_length i ps in
    let ld : length d ≡ length (written i ps) + length z = ap length e ∙ length-append (written i ps) z in
    let parts = choice_parts (external i) ps c.bytes c.fit l.fields in
    let flat = choice_flat (external i) ps parts c.joined in
    let allowed : length_allowed false d ≡ true =
    and_join _ _ (and_join _ _ (le-leb 8 (stated d) (omega arith)) (le-leb (stated d) longest (omega arith))) (le-leb (stated d) (length d) (omega arith)) in
    record {
      choice = c;
      lawful = l;
      small = h;
      rest = z;
      form = e;
      read = reading_complete false i ps d z e l.identifier allowed small (lawful_good false i ps c l (not_asked (sections_of ps))) flat refl;
      flat = flat;
    }

-- What such a draft says in its header.
pub draft_header : (i : ℕ) (ps : List Part) (d : List ℕ) → Draft i ps d → (id_of d ≡ i) × (stated d ≡ length (written i ps))
draft_header i ps d w =
    let h = w.small in
    let r = header_read i ps d w.rest (omega arith) w.form in
    (r.0, r.2)

-- Its first bytes, as many as the header states, are the written form.
pub draft_front : (i : ℕ) (ps : List Part) (d : List ℕ) → Draft i ps d → take (stated d) d ≡ written i ps
draft_front i ps d w =
    ap₂ (λ (n : ℕ) (y : List ℕ). take n y) (draft_header i ps d w).1 w.form
    ∙ take_at (written i ps) w.rest (length (written i ps)) refl

-- ---- starting

-- A start that is accepted makes the draft of the identifier and no parts.
pub started : (i : ℕ) (d bs : List ℕ) → i < 256 → start i d ≡ found bs → Draft i [] (draft_after (found bs) d)
unfolding start
started i d bs h e =
    let n = needed (leb 8 (length d)) _ _ bs e in
    let k = needed (known_id i) _ _ bs n.1 in
    let q : written i [] ≡ bs = found_inj k.1 in
    draft_of i [] (draft_after (found bs) d) (drop (length bs) d)
    (record { identifier = h; bytes = tt; fit = tt; joined = refl })
    (record { identifier = k.0; fields = tt; sections = tt; tags = tt; masks = tt })
    (lit≤ tt)
    (ap (λ (y : List ℕ). y ++ drop (length bs) d) (sym q))

-- ---- one addition

-- The longer draft is the written form of the choice with the part added.
longer_form : (i : ℕ) (ps : List Part) (d : List ℕ) (p : Part) → Draft i ps d → longer d (sections_of ps) p ≡ written i (ps ++ p ∷ [])
longer_form i ps d p w =
    ap₂ (λ (j : ℕ) (qs : List Part). written j (qs ++ p ∷ [])) (draft_header i ps d w).0 w.flat

-- The written form of a choice whose lengths can be stated.
form_of : (i : ℕ) (ps : List Part) (bs : List ℕ) → Choice i ps → length (written i ps) < 256 ^ 2 → written i ps ≡ bs → WrittenForm i ps bs
form_of i ps bs c h e = let l = written_length i ps in record { choice = c; parts = stateable ps (omega arith); whole = h; same = e }

-- A choice that a draft's reading accepts is lawful.
accepted_lawful : (i : ℕ) (ps : List Part) (bs : List ℕ) (ss : List Section) → Choice i ps → length (written i ps) < 256 ^ 2
    → bs ≡ written i ps → reading false bs ≡ found ss → Lawful i ps
accepted_lawful i ps bs ss c h e r =
    let b : Bytes bs = rw e (written_bytes i ps c.identifier c.bytes) in
    let s = reading_sound false bs ss b r in
    let hd = header_read i ps bs [] h (e ∙ sym (append-nil (written i ps))) in
    let lb = ap length e in
    let st = hd.2 in
    let id = hd.0 in
    let all : take (stated bs) bs ≡ bs = take_all (stated bs) bs (omega arith) in
    let same : written (id_of bs) (parts_of ss) ≡ bs = s.form ∙ all in
    let lp = ap length same in
    let one = one_choice (id_of bs) i (parts_of ss) ps bs
    (form_of (id_of bs) (parts_of ss) bs (good_choice false (id_of bs) ss s.byte s.good) (omega arith) same)
    (form_of i ps bs c h (sym e)) in
    subst (λ (qs : List Part). Lawful i qs) one.1 (subst (λ (j : ℕ). Lawful j (parts_of ss)) one.0 (good_lawful false (id_of bs) ss s.known s.good))

-- An accepted addition makes the draft of the parts with the added one after them.
added : (i : ℕ) (ps : List Part) (d : List ℕ) (p : Part) (bs : List ℕ) → Draft i ps d → All Bytes p.fields
    → addition p.kind p.fields d ≡ found bs → Draft i (ps ++ p ∷ []) (draft_after (found bs) d)
added i ps d p bs w b e =
    let lg : List ℕ = longer d (sections_of ps) p in
    let v = addition_passed d p (sections_of ps) bs w.read e in
    let most = v.most in
    let st = (draft_header i ps d w).1 in
    let long = written_more i ps p in
    let form = longer_form i ps d p w in
    let c : Choice i (ps ++ p ∷ []) = record {
      identifier = w.choice.identifier;
      bytes = all_join (λ (q : Part). All Bytes q.fields) ps (p ∷ []) w.choice.bytes (b, tt);
      fit = all_join (λ (q : Part). fits [] (layout q.kind) q.fields ≡ true) ps (p ∷ []) w.choice.fit (v.fit, tt);
      joined = rw w.flat at v.joins;
    } in
    let l = accepted_lawful i (ps ++ p ∷ []) lg v.read.0 c (omega arith) form v.read.1 in
    let q : written i (ps ++ p ∷ []) ≡ bs = sym form ∙ v.form in
    draft_of i (ps ++ p ∷ []) (draft_after (found bs) d) (drop (length bs) d) c l (omega arith)
    (ap (λ (y : List ℕ). y ++ drop (length bs) d) (sym q))

-- A part is added where the longer choice is lawful and has room.
adding : (i : ℕ) (ps : List Part) (d : List ℕ) (p : Part) → Draft i ps d → Choice i (ps ++ p ∷ []) → Lawful i (ps ++ p ∷ [])
    → length (written i (ps ++ p ∷ [])) ≤ longest → length (written i (ps ++ p ∷ [])) ≤ length d
    → addition p.kind p.fields d ≡ found (written i (ps ++ p ∷ []))
adding i ps d p w c l h k =
    let lg : List ℕ = longer d (sections_of ps) p in
    let form = longer_form i ps d p w in
    let st = (draft_header i ps d w).1 in
    let long = written_more i ps p in
    let read = (draft_of i (ps ++ p ∷ []) lg [] c l h (form ∙ sym (append-nil (written i (ps ++ p ∷ []))))).read in
    let fit = (all_split (λ (q : Part). fits [] (layout q.kind) q.fields ≡ true) ps (p ∷ []) c.fit).1.0 in
    addition_found d p (sections_of ps) (sections_of (ps ++ p ∷ [])) w.read fit (rw w.flat c.joined) (omega arith) (omega arith) read
    ∙ ap {B = Outcome (List ℕ)} found form

-- ---- a run of additions

-- Whatever additions were accepted, the draft holds the parts added, in that order.
pub run_read : (qs : List Part) (i : ℕ) (ps : List Part) (d e : List ℕ) → Draft i ps d → All (λ (p : Part). All Bytes p.fields) qs
    → additions qs d ≡ found e → Draft i (ps ++ qs) e
unfolding additions
run_read [] i ps d e w b r = subst (λ (y : List ℕ). Draft i (ps ++ []) y) (found_inj r) (rw (append-nil ps) w)
run_read (q ∷ qs) i ps d e w b r =
    let f = followed (addition q.kind q.fields d) _ e r in
    let a = added i ps d q f.0 w b.0 f.1 in
    subst (λ (y : List Part). Draft i y e) (append_assoc ps (q ∷ []) qs)
    (run_read qs i (ps ++ q ∷ []) (draft_after (found f.0) d) e a b.1 f.2)

-- The buffer keeps its length.
after_length : (bs d : List ℕ) → length bs ≤ length d → length (draft_after (found bs) d) ≡ length d
after_length bs d h =
    let l = length-append bs (drop (length bs) d) in
    let m = length-drop (length bs) d in
    omega arith

-- What stands after the new bytes is as it was, from any place there on.
after_kept : (bs d : List ℕ) (n : ℕ) → length bs ≤ n → drop n (draft_after (found bs) d) ≡ drop n d
after_kept bs d n h =
    let e : n ≡ length bs + (n - length bs) = omega arith in
    ap (λ (m : ℕ). drop m (draft_after (found bs) d)) e
    ∙ sym (drop-drop (n - length bs) (length bs) (draft_after (found bs) d))
    ∙ ap (drop (n - length bs)) (drop-append_seam bs (drop (length bs) d))
    ∙ drop-drop (n - length bs) (length bs) d
    ∙ ap (λ (m : ℕ). drop m d) (sym e)

-- The parts of a lawful choice are all added, in their order, where there is room, and what stands after them is as it was.
run_adds : (qs : List Part) (i : ℕ) (ps : List Part) (d : List ℕ) → Draft i ps d → Choice i (ps ++ qs) → Lawful i (ps ++ qs)
    → length (written i (ps ++ qs)) ≤ longest → length (written i (ps ++ qs)) ≤ length d
    → (e : List ℕ)
    × (additions qs d ≡ found e)
    × (length e ≡ length d)
    × (drop (length (written i (ps ++ qs))) e ≡ drop (length (written i (ps ++ qs))) d)
unfolding additions
run_adds [] i ps d w c l h k = (d, refl, refl, refl)
run_adds (q ∷ qs) i ps d w c l h k =
    let a : ps ++ q ∷ qs ≡ (ps ++ q ∷ []) ++ qs = sym (append_assoc ps (q ∷ []) qs) in
    let c' : Choice i ((ps ++ q ∷ []) ++ qs) = rw a at c in
    let l' : Lawful i ((ps ++ q ∷ []) ++ qs) = rw a at l in
    let h' : length (written i ((ps ++ q ∷ []) ++ qs)) ≤ longest = rw a at h in
    let k' : length (written i ((ps ++ q ∷ []) ++ qs)) ≤ length d = rw a at k in
    let le = beginning_le i (ps ++ q ∷ []) qs in
    let c₁ = choice_front i (ps ++ q ∷ []) qs c' in
    let l₁ = lawful_front i (ps ++ q ∷ []) qs l' in
    let bs : List ℕ = written i (ps ++ q ∷ []) in
    let t = adding i ps d q w c₁ l₁ (omega arith) (omega arith) in
    let al = after_length bs d (omega arith) in
    let w₁ = draft_of i (ps ++ q ∷ []) (draft_after (found bs) d) (drop (length bs) d) c₁ l₁ (omega arith) refl in
    let r = run_adds qs i (ps ++ q ∷ []) (draft_after (found bs) d) w₁ c' l' h' (omega arith) in
    let n : ℕ = length (written i ((ps ++ q ∷ []) ++ qs)) in
    let kept : drop n r.0 ≡ drop n d = r.3 ∙ after_kept bs d n (omega arith) in
    (r.0, then_found _ t ∙ r.1, r.2 ∙ al, subst (λ (y : List Part). drop (length (written i y)) r.0 ≡ drop (length (written i y)) d) (sym a) kept)

-- ---- finishing

pub told_accepted : {A : Type 0} (f : A → ℕ) (o : Outcome A) (n : ℕ) → as_answer f o ≡ Accepted n → (a : A) × (o ≡ found a) × (f a ≡ n)
unfolding as_answer
told_accepted f (refused g) n e = absurd (let z : ◌≡◌ {A = ℕ} 0 1 = cc in omega arith)
told_accepted f (found a) n e = (a, refl, cc)

pub told_found : {A : Type 0} (f : A → ℕ) {o : Outcome A} {a : A} → o ≡ found a → as_answer f o ≡ Accepted (f a)
unfolding as_answer
told_found f e = rw e

-- Finishing accepts exactly where the draft's first bytes are a legal token, and gives their length.
pub finish_exactly : (i : ℕ) (ps : List Part) (d : List ℕ) → Draft i ps d → (n : ℕ)
    → (finish d ≡ Accepted n) ↔ (Legal (written i ps) × (n ≡ length (written i ps)))
unfolding finish
finish_exactly i ps d w n =
    let front = draft_front i ps d w in
    let st = (draft_header i ps d w).1 in
    let whole : reading true (take (stated d) d) ≡ reading true (written i ps) = ap (reading true) front in
    let b = written_bytes i ps w.choice.identifier w.choice.bytes in (
      (λ e.
          let t = told_accepted _ (and_then (reading false d) (λ ss. reading true (take (stated d) d))) n e in
          let f = followed (reading false d) _ t.0 t.1 in
          (read_legal (written i ps) t.0 b (sym whole ∙ f.2), sym t.2 ∙ st)),
      λ l.
          told_found _ (then_found _ w.read ∙ whole ∙ legal_read (written i ps) l.0)
          ∙ ap Accepted (st ∙ sym l.1),
    )

-- The parts of a legal token, added in their order to a draft newly started with its identifier and with room, are each
-- accepted; the draft finishes, begins with the very bytes of the token, and holds what it held after them.
pub rebuilt : (bs : List ℕ) (l : Legal bs) (d : List ℕ) → length bs ≤ length d
    → (start l.id d ≡ found (written l.id []))
    × ((e : List ℕ)
    × (additions l.parts (draft_after (found (written l.id [])) d) ≡ found e)
    × (finish e ≡ Accepted (length bs))
    × (e ≡ bs ++ drop (length bs) d))
unfolding start
rebuilt bs l d h =
    let i : ℕ = l.id in
    let ps : List Part = l.parts in
    let c = l.form.choice in
    let same = l.form.same in
    let lb = ap length same in
    let least = l.at_least in
    let most = l.at_most in
    let known = l.lawful.identifier in
    let s : start i d ≡ found (written i []) =
    need_passed (leb 8 (length d)) _ _ (le-leb 8 (length d) (omega arith)) ∙ need_passed (known_id i) _ _ known in
    let d₁ : List ℕ = draft_after (found (written i [])) d in
    let w₁ = started i d (written i []) c.identifier s in
    let al = after_length (written i []) d (let z : 8 ≤ length d = omega arith in z) in
    let r = run_adds ps i [] d₁ w₁ c l.lawful (omega arith) (omega arith) in
    let w = run_read ps i [] d₁ r.0 w₁ c.bytes r.1 in
    let n = (draft_header i ps r.0 w).1 in
    let front : take (length bs) r.0 ≡ bs = ap (λ (m : ℕ). take m r.0) (sym (n ∙ lb)) ∙ draft_front i ps r.0 w ∙ same in
    let rest : drop (length bs) r.0 ≡ drop (length bs) d =
    subst (λ (m : ℕ). drop m r.0 ≡ drop m d₁) lb r.3
    ∙ after_kept (written i []) d (length bs) (let z : 8 ≤ length bs = omega arith in z) in (
      s,
      (
        r.0,
        r.1,
        (finish_exactly i ps r.0 w (length bs)).1 (subst Legal (sym same) l, sym lb),
        sym (take-append-drop (length bs) r.0) ∙ ap₂ (λ (y z : List ℕ). y ++ z) front rest,
      ),
    )
