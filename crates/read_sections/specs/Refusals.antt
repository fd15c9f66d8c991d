-- Internal: the tests of the format's reading as the code answers them: nothing, or the refusal.
use Rattle.std.specs.Prelude.{Bool, not, ◌&&◌, List, [], ◌∷◌, ◌++◌, ℕ, suc, eqb, leb, length, ⊤, Result, Ok, Err}
use Rattle.format.specs.Bytes.{all_zero, bytes_at}
use Rattle.format.specs.Reading.{Outcome, refused, found, stated, Test, test, tested}
use Rattle.format.specs.Rules.{Section}
use Rattle.format.specs.declared.Refusal.{Refusal}

-- what a check answers: nothing where something is found, or the refusal
unfoldable pub whether : {A : Type 0} → Outcome A → Result ⊤ Refusal
whether (refused f) = Err (record { number = f.number; place = f.place })
whether (found a) = Ok tt

-- the tests of the part at a place: the first that fails refuses
unfoldable pub first_refusal : ℕ → List Test → Result ⊤ Refusal
first_refusal at cs = whether (tested {A = ⊤} at cs (found tt))

-- the rows that a section makes: its own and those of its subsections
abbrev pub section_rows : Section → ℕ
section_rows s = suc (length s.subs)

-- the tests of a section's version, length and kind; `seen` says that its kind stands before
unfoldable pub head_checks : ℕ → Bool → List ℕ → List Test
head_checks n seen r =
    test 1 8 (all_zero (bytes_at r 1 1))
    ∷ test 2 6 (leb n (stated r) && leb (stated r) (length r))
    ∷ test 0 9 (not seen)
    ∷ []

-- the tests of a subsection's length in n bytes, its tag and its version; `seen` says that its tag stands before
unfoldable pub sub_head_checks : ℕ → Bool → ℕ → List ℕ → List Test
sub_head_checks m seen n r =
    test 2 12 (leb m (stated r) && leb (stated r) n)
    ∷ test 0 14 (not seen)
    ∷ test 4 8 (all_zero (bytes_at r 4 1))
    ∷ []

-- the tests of a subsection that is always m bytes long and has one reserved byte, up to that byte
unfoldable pub fixed_head_checks : ℕ → Bool → ℕ → List ℕ → List Test
fixed_head_checks m seen n r =
    sub_head_checks m seen n r ++ (test 2 12 (eqb m (stated r)) ∷ test 5 10 (all_zero (bytes_at r 5 1)) ∷ [])
