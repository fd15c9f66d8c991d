-- The tests of an addition: its refusals in 01's order, and what passes.
use mathlib.Core.Path.{◌≡◌, sym, ◌∙◌}
use mathlib.Core.Bool.{true, false, ◌&&◌}
use mathlib.Core.List.{List, [], ◌∷◌, ◌++◌}
use Prim.Native.Nat.{ℕ, ◌+◌, ◌≤◌}
use lib.Dec.{leb}
use lib.ListN.{length}
use borrow.Author.Tests.{le-leb, leb-true}
use Rattle.format.specs.Layout.{Fields, fits}
use Rattle.format.specs.Parts.{Kind, layout, Part, size, joins}
use Rattle.format.specs.Rules.{longest, Section}
use Rattle.format.specs.Reading.{Fault, fault, refused, found, stated, reading, parts_of}
use Rattle.format.specs.Writer.{longer, addition}
use Rattle.format.proofs.Finding.{and_split, and_join}
use Rattle.format.proofs.Tests.{found_inj, needed, need_passed, need_failed, followed, then_found, then_refused}

-- The draft's own fault comes first.
pub own_fault_first : (k : Kind) (fs : Fields) (d : List ℕ) (f : Fault) → reading false d ≡ refused f → addition k fs d ≡ refused f
unfolding addition
own_fault_first k fs d f e = then_refused _ e

module _ (k : Kind) (fs : Fields) (d : List ℕ) (ss : List Section) (e : reading false d ≡ found ss) where
  -- Then 24, whatever else holds,
  pub lengths_first : fits [] (layout k) fs ≡ false → addition k fs d ≡ refused (fault 24 (stated d) (stated d))
  unfolding addition
  lengths_first a = then_found _ e ∙ need_failed (fits [] (layout k) fs) _ _ a

  -- then 25,
  pub joining_next : fits [] (layout k) fs ≡ true → joins 0 (parts_of ss ++ record { kind = k; fields = fs } ∷ []) ≡ false
      → addition k fs d ≡ refused (fault 25 (stated d) (stated d))
  unfolding addition
  joining_next a b = then_found _ e ∙ need_passed (fits [] (layout k) fs) _ _ a ∙ need_failed (joins 0 (parts_of ss ++ record { kind = k; fields = fs } ∷ [])) _ _ b

  -- then 23.
  pub room_last : fits [] (layout k) fs ≡ true → joins 0 (parts_of ss ++ record { kind = k; fields = fs } ∷ []) ≡ true
      → (leb (stated d + size (record { kind = k; fields = fs })) longest && leb (stated d + size (record { kind = k; fields = fs })) (length d)) ≡ false
      → addition k fs d ≡ refused (fault 23 (stated d) (stated d))
  unfolding addition
  room_last a b c =
      then_found _ e
      ∙ need_passed (fits [] (layout k) fs) _ _ a
      ∙ need_passed (joins 0 (parts_of ss ++ record { kind = k; fields = fs } ∷ [])) _ _ b
      ∙ need_failed (leb (stated d + size (record { kind = k; fields = fs })) longest && leb (stated d + size (record { kind = k; fields = fs })) (length d)) _ _ c

-- ---- an addition that is accepted

-- What it has passed, in a draft that reads as sections ss.
pub record Passed (d : List ℕ) (p : Part) (ss : List Section) (bs : List ℕ) : Type 0 where
  pub fit : fits [] (layout p.kind) p.fields ≡ true
  pub joins : joins 0 (parts_of ss ++ p ∷ []) ≡ true
  pub most : stated d + size p ≤ longest
  pub read : (ts : List Section) × (reading false (longer d ss p) ≡ found ts)
  pub form : longer d ss p ≡ bs

pub addition_read : (d : List ℕ) (p : Part) (bs : List ℕ) → addition p.kind p.fields d ≡ found bs
    → (ss : List Section) × (reading false d ≡ found ss)
unfolding addition
addition_read d p bs e = let f = followed (reading false d) _ bs e in (f.0, f.1)

pub addition_passed : (d : List ℕ) (p : Part) (ss : List Section) (bs : List ℕ) → reading false d ≡ found ss
    → addition p.kind p.fields d ≡ found bs → Passed d p ss bs
unfolding addition
addition_passed d p ss bs r e =
    let n₁ = needed (fits [] (layout p.kind) p.fields) _ _ bs (sym (then_found _ r) ∙ e) in
    let n₂ = needed (joins 0 (parts_of ss ++ p ∷ [])) _ _ bs n₁.1 in
    let n₃ = needed (leb (stated d + size p) longest && leb (stated d + size p) (length d)) _ _ bs n₂.1 in
    let f = followed (reading false (longer d ss p)) _ bs n₃.1 in
    let m = and_split (leb (stated d + size p) longest) (leb (stated d + size p) (length d)) n₃.0 in
    record { fit = n₁.0; joins = n₂.0; most = leb-true (stated d + size p) longest m.0; read = (f.0, f.1); form = found_inj f.2 }

-- What passes all tests is accepted.
pub addition_found : (d : List ℕ) (p : Part) (ss ts : List Section) → reading false d ≡ found ss
    → fits [] (layout p.kind) p.fields ≡ true → joins 0 (parts_of ss ++ p ∷ []) ≡ true
    → stated d + size p ≤ longest → stated d + size p ≤ length d → reading false (longer d ss p) ≡ found ts
    → addition p.kind p.fields d ≡ found (longer d ss p)
unfolding addition
addition_found d p ss ts r fit join most room read =
    then_found _ r
    ∙ need_passed (fits [] (layout p.kind) p.fields) _ _ fit
    ∙ need_passed (joins 0 (parts_of ss ++ p ∷ [])) _ _ join
    ∙ need_passed (leb (stated d + size p) longest && leb (stated d + size p) (length d)) _ _
    (and_join _ _ (le-leb (stated d + size p) longest most) (le-leb (stated d + size p) (length d) room))
    ∙ then_found _ read
