-- Whether a section with an id stands in a draft, as stepping by stated lengths finds it. Assumes nothing.
use mathlib.Core.Path.{◌≡◌, refl, sym, ap, ap₂, ◌∙◌, subst}
use mathlib.Core.Bool.{Bool, true, false, ◌||◌}
use mathlib.Core.List.{List, [], ◌∷◌, ◌++◌}
use Prim.Native.Nat.{ℕ, ◌≤◌, ◌<◌}
use native.Mathlib.Omega.{arith}
use lib.Dec.{eqb}
use lib.ListN.{length, take, drop, length-append}
use lib.Seq.{drop_at}
use borrow.Author.Tests.{eq-eqb, ne_eqb}
use Rattle.format.specs.Bytes.{All, Bytes}
use Rattle.format.specs.Parts.{section_id, external}
use Rattle.format.specs.Rules.{Section}
use Rattle.format.specs.Reading.{found, id_of, stated, reading}
use Rattle.format.proofs.Finding.{or_left, or_right}
use Rattle.format.proofs.Grouping.{all_split}
use Rattle.format.proofs.Sound.{GoodSection}
use Rattle.format.proofs.Accepted.{reading_sound}
use Rattle.write_last_part.specs.Tiling.{TiledTo}
use Rattle.write_appended_part.proofs.Restating.{id_front}
use Rattle.format.proofs.Numbering.{stated_front}
use Rattle.write_last_part.proofs.Tiling.{States, laid, passed_then, cut_at}
use Rattle.write_last_part.proofs.LaidSections.{section_bytes, draft_laid}
use Rattle.write_last_part.proofs.LaidSections.{section_id_is}
use Rattle.write_judged_section.specs.Placing.{id_among, PassedTo, here, next, StandsIn}

-- The first of sections laid one after another: its id.
id_first : (x : Bool) (t : Section) (us : List Section) (r : List ℕ) → GoodSection false x t → 4 ≤ length (section_bytes t)
    → r ≡ laid section_bytes (t ∷ us) → id_of r ≡ section_id t.head.kind
id_first x t us r g four e = ap id_of e ∙ id_front (section_bytes t) (laid section_bytes us) (omega arith) ∙ section_id_is x t g

-- Where all are passed, none has the id,
none_there : (x : Bool) (i : ℕ) (ss : List Section) (r : List ℕ) → All (GoodSection false x) ss → All (λ t. States (section_bytes t)) ss
    → r ≡ laid section_bytes ss → PassedTo i [] r → id_among i ss ≡ false
none_there x i [] r g s e p = refl
none_there x i (t ∷ us) r g s e here =
    absurd
    (let l = ap length e in
    let n = length-append (section_bytes t) (laid section_bytes us) in
    let four = s.0.four in
    omega arith)
none_there x i (t ∷ us) r g s e (next other a b p) =
    let st : stated r ≡ length (section_bytes t) = ap stated e ∙ stated_front (section_bytes t) (laid section_bytes us) s.0.four ∙ s.0.says in
    let rest : drop (stated r) r ≡ laid section_bytes us =
    ap₂ (λ (n : ℕ) (y : List ℕ). drop n y) st e ∙ drop_at (section_bytes t) (laid section_bytes us) (length (section_bytes t)) refl in
    ap₂ (λ (u v : Bool). u || v)
    (ne_eqb (section_id t.head.kind) i (λ q. other (id_first x t us r g.0 s.0.four e ∙ q)))
    (none_there x i us (drop (stated r) r) g.1 s.1 rest p)

-- and where one is reached, one has it.
among_back : (i : ℕ) (ts us : List Section) → id_among i us ≡ true → id_among i (ts ++ us) ≡ true
among_back i [] us h = h
among_back i (t ∷ ts) us h = or_right (eqb (section_id t.head.kind) i) _ (among_back i ts us h)

one_there : (x : Bool) (i : ℕ) (ss : List Section) (r z : List ℕ) → All (GoodSection false x) ss → All (λ t. States (section_bytes t)) ss
    → r ≡ laid section_bytes ss → TiledTo z r → 0 < length z → id_of z ≡ i → id_among i ss ≡ true
one_there x i ss r z g s e t h q =
    let c = cut_at section_bytes t ss z s (sym (passed_then t) ∙ e) in
    ap (id_among i) c.whole
    ∙ among_back i c.front c.back
    (go c.back (all_split (GoodSection false x) c.front c.back (subst (All (GoodSection false x)) c.whole g)).1
    (all_split (λ u. States (section_bytes u)) c.front c.back (subst (All (λ u. States (section_bytes u))) c.whole s)).1 c.backs)
  where
    go : (us : List Section) → All (GoodSection false x) us → All (λ u. States (section_bytes u)) us → z ≡ laid section_bytes us → id_among i us ≡ true
    go [] gs ss' f = absurd (let l = ap length f in omega arith)
    go (u ∷ us) gs ss' f =
        or_left (eqb (section_id u.head.kind) i) _
        (eq-eqb (section_id u.head.kind) i (sym (id_first x u us z gs.0 ss'.0.four f) ∙ q))

-- What stepping finds of a draft that reads is what stands in it.
pub stands_told : (d : List ℕ) (ss : List Section) (i : ℕ) (b : Bool) → Bytes d → reading false d ≡ found ss
    → StandsIn (drop 8 (take (stated d) d)) i b → b ≡ id_among i ss
stands_told d ss i true bytes e w =
    let l = draft_laid d ss bytes e in
    let g = (reading_sound false d ss bytes e).good.each in
    sym (one_there (external (id_of d)) i ss (drop 8 (take (stated d) d)) w.0 g l.states l.bytes w.1 w.2 w.3)
stands_told d ss i false bytes e w =
    let l = draft_laid d ss bytes e in
    let g = (reading_sound false d ss bytes e).good.each in
    sym (none_there (external (id_of d)) i ss (drop 8 (take (stated d) d)) g l.states l.bytes w)
