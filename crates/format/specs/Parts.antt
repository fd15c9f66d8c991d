-- The twelve kinds of sections and subsections with their layouts, and the written form of an identifier and parts.
-- Beside 01: "Layouts"; for `body` refusals 10 and 11, for `joins` 25, for `kind_number` "Table, views, walk".
use Rattle.std.specs.Prelude.{◌≡◌, Bool, true, false, not, ◌&&◌, ◌||◌, List, [], ◌∷◌, ◌++◌, ℕ, zero, suc, ◌+◌, ◌*◌, ◌^◌, ◌<◌, eqb, length}
use Rattle.format.specs.Bytes.{Bytes, All}
use Rattle.format.specs.Layout.{Item, code, zeros, own, count, fixed, counted, Fields, write, fits}

pub data Kind : Type 0 where
  public_key rule transport_variant transport_rule export_parameters source_rule token_parameters : Kind
  name information protection dates application_data : Kind

abbrev pub kinds : List Kind
kinds =
    public_key
    ∷ rule
    ∷ transport_variant
    ∷ transport_rule
    ∷ export_parameters
    ∷ source_rule
    ∷ token_parameters
    ∷ name
    ∷ information
    ∷ protection
    ∷ dates
    ∷ application_data
    ∷ []

-- the id of the section that the kind is, or that the subsection stands in; and its tag, 0 for a section
abbrev pub ids : Kind → ℕ × ℕ
ids public_key = (0x11, 0)
ids rule = (0x12, 0)
ids transport_variant = (0x12, 0x0001)
ids transport_rule = (0x12, 0x0002)
ids export_parameters = (0x12, 0x0003)
ids source_rule = (0x12, 0x0004)
ids token_parameters = (0x12, 0x0005)
ids name = (0x13, 0)
ids information = (0x14, 0)
ids protection = (0x14, 0x0001)
ids dates = (0x14, 0x0002)
ids application_data = (0x15, 0)

abbrev pub section_id : Kind → ℕ
section_id k = (ids k).0

abbrev pub tag : Kind → ℕ
tag k = (ids k).1

-- the fields from number 3 on (0 to 2 are `frame`, below); over each kind its length in 01 and its fields' numbers. Beside 01
-- compare w in `count w k` and s in `counted s`; that k goes with s is computed over all kinds (proofs/Layouts `layouts_sound`)
abbrev pub body : Kind → List Item
-- 11, length 16+x+y: 3 reserved, 4 x, 5 modulus bits, 6 y, 7 exponent, 8 modulus, 9 flags
body public_key = zeros 2 10 ∷ count 2 1 ∷ fixed 2 ∷ count 2 1 ∷ counted 0 ∷ counted 1 ∷ fixed 4 ∷ []
-- 12, length 20 + its subsections: 3 Rule ID, 4 flags, 5 generated length, 6 key-check, 7 symmetric format, 8 asymmetric format
body rule = fixed 8 ∷ fixed 4 ∷ fixed 1 ∷ fixed 1 ∷ fixed 1 ∷ fixed 1 ∷ []
-- 12/0001, length 8+n: 3 reserved, 4 n, 5 variant
body transport_variant = zeros 2 10 ∷ count 1 0 ∷ counted 0 ∷ []
-- 12/0002, length 14: 3 reserved, 4 Rule ID
body transport_rule = zeros 1 10 ∷ fixed 8 ∷ []
-- 12/0003, length 12+x+c: 3 reserved, 4 flags, 5 minimum, 6 maximum, 7 x, 8 variant, 9 c, 10 CV
body export_parameters =
    zeros 2 10 ∷ zeros 1 11 ∷ fixed 1 ∷ fixed 1 ∷ count 1 0 ∷ counted 0 ∷ count 1 0 ∷ counted 1 ∷ []
-- 12/0004, length 14: 3 reserved, 4 Rule ID
body source_rule = zeros 1 10 ∷ fixed 8 ∷ []
-- 12/0005, length 10+2m+z: 3 reserved, 4 flags, 5 m, 6 mask, 7 template, 8 z, 9 label template
body token_parameters = zeros 2 10 ∷ zeros 1 11 ∷ count 1 0 ∷ counted 0 ∷ counted 0 ∷ count 1 0 ∷ counted 1 ∷ []
-- 13, length 68: 3 name
body name = fixed 64 ∷ []
-- 14, length 10 + its subsections: 3 reserved, 4 flags
body information = zeros 2 10 ∷ fixed 4 ∷ []
-- 14/0001, length 62: 3 reserved, 4 encrypted MAC key, 5 MAC, 6 MKVP
body protection = zeros 1 10 ∷ fixed 32 ∷ fixed 8 ∷ fixed 16 ∷ []
-- 14/0002, length 16: 3 reserved, 4 flags, 5 activation, 6 expiration
body dates = zeros 1 10 ∷ fixed 2 ∷ fixed 4 ∷ fixed 4 ∷ []
-- 15, length 6+x: 3 x, 4 data
body application_data = count 2 0 ∷ counted 0 ∷ []

abbrev pub is_subsection : Kind → Bool
is_subsection k = elim (tag k) [ zero ↦ false | suc n ↦ true ]

-- how a section (false) begins, with its id i, and a subsection (true), with its tag g
abbrev pub frame : Bool → ℕ → ℕ → List Item
frame false i g = code 1 i ∷ zeros 1 8 ∷ own 2 ∷ []
frame true i g = code 2 g ∷ own 2 ∷ zeros 1 8 ∷ []

-- all fields of the kind; their numbers are their places in this list, from 0
abbrev pub layout : Kind → List Item
layout k = frame (is_subsection k) (section_id k) (tag k) ++ body k

-- id, version, length, reserved
abbrev pub header : List Item
header = fixed 1 ∷ zeros 1 3 ∷ own 2 ∷ zeros 4 5 ∷ []

-- the header's id is 1E: the token is external
abbrev pub external : ℕ → Bool
external i = eqb i 0x1E

-- the header's id is 1E or 1F: the token is external or internal
abbrev pub known_id : ℕ → Bool
known_id i = external i || eqb i 0x1F

-- the number of the kind in a row: section id times 65,536 plus tag
abbrev pub kind_number : Kind → ℕ
kind_number k = section_id k * 65536 + tag k

abbrev pub same_kind : Kind → Kind → Bool
same_kind j k = eqb (kind_number j) (kind_number k)

-- 01's part: a kind with the bytes of its chosen fields
pub record Part : Type 0 where
  pub kind : Kind
  pub fields : Fields

-- the bytes that the part itself takes, without its subsections (whatever its length field holds, here 0)
abbrev pub size : Part → ℕ
size p = length (write 0 (layout p.kind) p.fields)

-- the bytes of the subsections at the front of the list
abbrev pub subsections_length : List Part → ℕ
subsections_length [] = 0
subsections_length (p ∷ ps) = elim (is_subsection p.kind) [ true ↦ size p + subsections_length ps | false ↦ 0 ]

-- what the part's own length field states, with the parts after it: a section's covers its subsections
abbrev pub span : Part → List Part → ℕ
span p ps = size p + elim (is_subsection p.kind) as (λ b. ℕ) [ true ↦ 0 | false ↦ subsections_length ps ]

-- the parts in order, field after field
abbrev pub write_parts : List Part → List ℕ
write_parts [] = []
write_parts (p ∷ ps) = write (span p ps) (layout p.kind) p.fields ++ write_parts ps

-- the header and the parts: 01's written form
abbrev pub written : ℕ → List Part → List ℕ
written i ps = write (8 + length (write_parts ps)) header ((i ∷ []) ∷ []) ++ write_parts ps

-- what refusal 25 tests: each subsection follows a section of its own id; o is the id of the section before, 0 for none
abbrev pub joins : ℕ → List Part → Bool
joins o [] = true
joins o (p ∷ ps) =
    (not (is_subsection p.kind) || eqb (section_id p.kind) o) && joins (section_id p.kind) ps

-- 01's choice of identifier and parts: bytes, and nothing that 24 or 25 would refuse
pub record Choice (i : ℕ) (ps : List Part) : Type 0 where
  pub identifier : i < 256
  pub bytes : All (λ (p : Part). All Bytes p.fields) ps
  pub fit : All (λ (p : Part). fits [] (layout p.kind) p.fields ≡ true) ps
  pub joined : joins 0 ps ≡ true

-- each part's own length field can state its length
abbrev pub Stateable : List Part → Type 0
Stateable [] = Unit {0}
Stateable (p ∷ ps) = (span p ps < 256 ^ 2) × Stateable ps

-- the bytes are the written form of the choice; a choice with a length that its field can't state has none
pub record WrittenForm (i : ℕ) (ps : List Part) (bs : List ℕ) : Type 0 where
  pub choice : Choice i ps
  pub parts : Stateable ps
  pub whole : length (written i ps) < 256 ^ 2
  pub same : written i ps ≡ bs
