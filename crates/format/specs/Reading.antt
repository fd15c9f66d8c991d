-- The answer for any bytes: the first fault in 01's order, or the sections that were read, with their rows counted. One
-- definition serves a token and a draft, which is read under all rules but those of refusal 20. It may be read from the end:
-- `answer`, `reading`, `sections`, `section`. That it accepts the legal tokens and no other is proved (Main
-- `accepted_exactly_when_legal`): beside 01 compare the numbers and their order, beside 02, 107, their places.
-- Beside 01: numbers 1 to 21, "Order", the first sentences of "Writer".
--
-- Where 01's order stands. Header: `header_checks`. Section: 6 (four bytes), 7 in `section`; 8, 6 (length), 9 (kind), 15, fields,
-- 9 (Rule ID) in `section_checks`; subsections in `section_rest`; 18, 20 in `after_subsections`; the missing section 14 in
-- `sections`. Subsection: 12 (four bytes), 13 in `subsection`; 12 (length), 14, 8, 12 (inner), fields in `subsection_checks`.
--
-- The names that recur:
-- full    a token is read, and no draft
-- x       it is external
-- at      the place of the part
-- r       the bytes from there on, past the part too
-- n       the bytes that are left of the section
-- before  what was read before
-- d       turns, always enough: the clause without one is never reached (Main `every_refusal`)
use Rattle.std.specs.Prelude.{Bool, true, false, not, ◌&&◌, ◌||◌, List, [], ◌∷◌, ◌++◌, ℕ, zero, suc, ◌+◌, ◌-◌, eqb, leb, length, take, drop}
use Rattle.std.proofs.Math.Option.{Option, none, some}
use Rattle.format.specs.Bytes.{any, number, bytes_at, all_zero}
use Rattle.format.specs.Layout.{code, zeros, own, count, fixed, counted}
use Rattle.format.specs.Slots.{least, Slot, slots, offset_of, slot_bytes, fields_in, end_of}
use Rattle.format.specs.Parts.{Kind, kinds, rule, information, token_parameters, section_id, tag, body, is_subsection, layout, header}
use Rattle.format.specs.Parts.{same_kind, Part, size, external, known_id}
use Rattle.format.specs.Rules.{longest, Check, check, checks, Section, has, same_rule_id, mask_covers, has_required}
use Rattle.format.specs.Answers.{Answer, Accepted, Refused}

-- a refusal: its number; the start of the part at fault, 0 for the header; and its place, or the number that 01 names in its stead
pub record Fault : Type 0 where
  pub number : ℕ
  pub part : ℕ
  pub place : ℕ

abbrev pub fault : ℕ → ℕ → ℕ → Fault
fault n p a = record { number = n; part = p; place = a }

-- what a reading comes to: the first fault, or what was found
pub data Outcome (A : Type 0) : Type 0 where
  refused : Fault → Outcome A
  found : A → Outcome A

-- a test: where it fails the refusal, else the rest
unfoldable pub need : {A : Type 0} → Bool → Fault → Outcome A → Outcome A
need true f rest = rest
need false f rest = refused f

-- a refusal goes straight out, what is found is handed on
unfoldable pub and_then : {A B : Type 0} → Outcome A → (A → Outcome B) → Outcome B
and_then (refused f) next = refused f
and_then (found a) next = next a

-- ---- one part

-- the first kind of the list that passes the test
abbrev pub first_kind : (Kind → Bool) → List Kind → Option Kind
first_kind f [] = none
first_kind f (k ∷ ks) = elim (f k) [ true ↦ some k | false ↦ first_kind f ks ]

-- the kind of the section with this id
abbrev pub section_kind : ℕ → Option Kind
section_kind i = first_kind (λ k. not (is_subsection k) && eqb (section_id k) i) kinds

-- the kind of the subsection with this tag in a section of kind o
abbrev pub subsection_kind : Kind → ℕ → Option Kind
subsection_kind o g = first_kind (λ k. is_subsection k && (eqb (section_id k) (section_id o) && eqb (tag k) g)) kinds

-- the id of a token or a section
abbrev pub id_of : List ℕ → ℕ
id_of r = number (bytes_at r 0 1)

-- the length that a token, a section or a subsection states
abbrev pub stated : List ℕ → ℕ
stated r = number (bytes_at r 2 2)

-- the length of id, version and length, or of tag, length and version
abbrev pub frame_length : Kind → ℕ
frame_length k = elim (is_subsection k) [ false ↦ 4 | true ↦ 5 ]

-- the slots of the fields after these, in bytes that begin with the part
abbrev pub body_slots : Kind → List ℕ → List Slot
body_slots k r = slots [] (body k) r (frame_length k)

-- the slots of all its fields
abbrev pub part_slots : Kind → List ℕ → List Slot
part_slots k r = slots [] (layout k) r 0

-- the length that the part's own fields make: 20 in section 12, 10 in section 14
abbrev pub made_length : Kind → List ℕ → ℕ
made_length k r = end_of (frame_length k) (body_slots k r)

-- the part that the bytes begin with
abbrev pub part_in : Kind → List ℕ → Part
part_in k r = record { kind = k; fields = fields_in r (body_slots k r) }

-- a test: the offset of what it looks at, the refusal, and whether it passes
pub record Test : Type 0 where
  pub offset : ℕ
  pub refusal : ℕ
  pub holds : Bool

abbrev pub test : ℕ → ℕ → Bool → Test
test o n b = record { offset = o; refusal = n; holds = b }

-- the rules on fields that lie in the slots, as tests
abbrev pub located : List Slot → List Check → List Test
located ss [] = []
located ss (c ∷ cs) = test (offset_of ss c.field + c.inside) c.refusal c.holds ∷ located ss cs

-- the tests of what is always 0
abbrev pub zero_checks : List ℕ → List Slot → List Test
zero_checks r [] = []
zero_checks r (s ∷ ss) =
    let rest = zero_checks r ss in
    elim s.item [
      | code w v ↦ rest
      | zeros n q ↦ test s.offset q (all_zero (slot_bytes r s)) ∷ rest
      | own w ↦ rest
      | count w k ↦ rest
      | fixed n ↦ rest
      | counted c ↦ rest
    ]

-- the tests of the part's fields: what is always 0, then the rules. That the fields' numbers rise, but for the modulus
-- before the exponent, is computed over all kinds (proofs/Layouts `layouts_sound`)
abbrev pub field_checks : Bool → Kind → List ℕ → List Test
field_checks x k r = zero_checks r (body_slots k r) ++ located (part_slots k r) (checks x k (part_in k r).fields)

-- the tests one after another
unfoldable pub tested : {A : Type 0} → ℕ → List Test → Outcome A → Outcome A
tested at [] rest = rest
tested at (c ∷ cs) rest = need c.holds (fault c.refusal at (at + c.offset)) (tested at cs rest)

-- ---- subsections

-- the tests of a subsection of kind k, in order: length, tag (`seen`: it stands before), version, inner lengths, fields
abbrev pub subsection_checks : Bool → Kind → Bool → ℕ → List ℕ → List Test
subsection_checks x k seen n r =
    located (part_slots k r)
    (check 1 12 (leb (least (layout k)) (stated r) && leb (stated r) n)
    ∷ check 0 14 (not seen)
    ∷ check 2 8 (all_zero (bytes_at r 4 1))
    ∷ check 1 12 (eqb (made_length k r) (stated r))
    ∷ [])
    ++ field_checks x k r

-- the subsection at the front of r, in a section of kind o
unfoldable pub subsection : Bool → Kind → List Part → ℕ → ℕ → List ℕ → Outcome Part
subsection x o before at n r =
    need (leb 4 n) (fault 12 at at)
    (elim (subsection_kind o (number (bytes_at r 0 2))) [
      | none ↦ refused (fault 13 at at)
      | some k ↦ tested at (subsection_checks x k (has k before) n r) (found (part_in k r))
    ])

-- the subsections that tile the next n bytes, after the earlier ones
unfoldable pub subsections : ℕ → Bool → Kind → List Part → ℕ → ℕ → List ℕ → Outcome (List Part)
subsections zero x o before at n r = refused (fault 0 at at)
subsections (suc d) x o before at zero r = found before
subsections (suc d) x o before at (suc m) r =
    and_then (subsection x o before at (suc m) r)
    (λ p. subsections d x o (before ++ p ∷ []) (at + stated r) (suc m - stated r) (drop (stated r) r))

-- ---- sections

-- sections 12 and 14 have subsections
abbrev pub holds_subs : Kind → Bool
holds_subs k = same_kind rule k || same_kind information k

-- a section of the kind stands before
abbrev pub kind_before : Kind → List Section → Bool
kind_before k ss = any (λ (s : Section). same_kind k s.head.kind) ss

-- a rule with the same Rule ID stands before
abbrev pub rule_before : Part → List Section → Bool
rule_before p ss = any (λ (s : Section). same_kind rule s.head.kind && same_rule_id p s.head) ss

-- the tests of a section of kind k, in order: version, length, kind (`seen`: it stands before), inner lengths, fields, Rule ID
-- (`repeated`: a rule before has the same)
abbrev pub section_checks : Bool → Kind → Bool → Bool → List ℕ → List Test
section_checks x k seen repeated r =
    located (part_slots k r)
    (check 1 8 (all_zero (bytes_at r 1 1))
    ∷ check 2 6 (leb (least (layout k)) (stated r) && leb (stated r) (length r))
    ∷ check 0 9 (same_kind rule k || not seen)
    ∷ check 2 15 (holds_subs k || eqb (made_length k r) (stated r))
    ∷ [])
    ++ (field_checks x k r ++ located (part_slots k r) (check 0 9 (not (same_kind rule k && repeated)) ∷ []))

-- the place of the first subsection of the kind, the subsections beginning at this place
abbrev pub place_of : Kind → ℕ → List Part → ℕ
place_of k at [] = at
place_of k at (p ∷ ps) = elim (same_kind k p.kind) [ true ↦ at | false ↦ place_of k (at + size p) ps ]

-- where m lies in a 0005, before every counted field
abbrev pub mask_offset : ℕ
mask_offset = offset_of (slots [] (layout token_parameters) [] 0) 5

-- the end of a section, its subsections beginning at `first`: 0005 against 0003, then what is required
unfoldable pub after_subsections : Bool → ℕ → ℕ → Section → Outcome Section
after_subsections full at first s =
    need (mask_covers s.subs) (fault 18 (place_of token_parameters first s.subs) (place_of token_parameters first s.subs + mask_offset))
    (need (not full || has_required s) (fault 20 at at) (found s))

-- the rest of the section of kind k at the front of r: the subsections after the m bytes of its own fields, then its end. In
-- sections 11, 13 and 15 m is the stated length (refusal 15), so there are none
unfoldable pub section_rest : Bool → Bool → Kind → ℕ → List ℕ → Outcome Section
section_rest full x k at r =
    let m = made_length k r in
    and_then (subsections (suc (stated r)) x k [] (at + m) (stated r - m) (drop m r))
    (λ ps. after_subsections full at (at + m) (record { head = part_in k r; subs = ps }))

-- the section at the front of r
unfoldable pub section : Bool → Bool → List Section → ℕ → List ℕ → Outcome Section
section full x before at r =
    need (leb 4 (length r)) (fault 6 at at)
    (elim (section_kind (id_of r)) [
      | none ↦ refused (fault 7 at at)
      | some k ↦ tested at (section_checks x k (kind_before k before) (rule_before (part_in k r) before) r) (section_rest full x k at r)
    ])

-- the sections that tile r, after the earlier ones; the missing section 14 comes last
unfoldable pub sections : ℕ → Bool → Bool → List Section → ℕ → List ℕ → Outcome (List Section)
sections zero full x before at r = refused (fault 0 at at)
sections (suc d) full x before at [] = need (not full || kind_before information before) (fault 20 at at) (found before)
sections (suc d) full x before at (b ∷ bs) =
    and_then (section full x before at (b ∷ bs))
    (λ s. sections d full x (before ++ s ∷ []) (at + stated (b ∷ bs)) (drop (stated (b ∷ bs)) (b ∷ bs)))

-- ---- the token and the draft

-- refusal 4: a token's header states its length, at most 3,500; a draft's states 8 to 3,500, and no more than there is
abbrev pub length_allowed : Bool → List ℕ → Bool
length_allowed true bs = leb (length bs) longest && eqb (stated bs) (length bs)
length_allowed false bs = leb 8 (stated bs) && leb (stated bs) longest && leb (stated bs) (length bs)

-- the tests of the header, in order
abbrev pub header_checks : Bool → List ℕ → List Test
header_checks full bs =
    located (slots [] header bs 0)
    (check 0 1 (leb 8 (length bs))
    ∷ check 0 2 (known_id (id_of bs))
    ∷ check 1 3 (all_zero (bytes_at bs 1 1))
    ∷ check 2 4 (length_allowed full bs)
    ∷ check 3 5 (all_zero (bytes_at bs 4 4))
    ∷ [])

-- the reading of a token (true) or of a draft (false): the header, then section by section
unfoldable pub reading : Bool → List ℕ → Outcome (List Section)
reading full bs =
    tested 0 (header_checks full bs)
    (sections (suc (stated bs)) full (external (id_of bs)) [] 8 (drop 8 (take (stated bs) bs)))

-- the parts of the sections, in order
abbrev pub parts_of : List Section → List Part
parts_of [] = []
parts_of (s ∷ ss) = s.head ∷ s.subs ++ parts_of ss

-- the rows that they make, one for each part
abbrev pub row_count : List Section → ℕ
row_count ss = length (parts_of ss)

-- an outcome as an answer: the number and place of the refusal, or what is counted of what was found
unfoldable pub as_answer : {A : Type 0} → (A → ℕ) → Outcome A → Answer
as_answer second (refused f) = Refused f.number f.place
as_answer second (found a) = Accepted (second a)

-- the answer of reading a token
unfoldable pub answer : List ℕ → Answer
answer bs = as_answer row_count (reading true bs)
