-- The rules beyond the layout: first those on a part's own fields, each a `Check` with its refusal, then those between parts.
-- Beside 01: "Rules beyond the layout"; for flags, key-check, asymmetric format and MKVP "Layouts"; for `checks` numbers 11, 16 to
-- 19 and 21, and "Order". Beside 02, the change requests: 102, dates.
use Rattle.std.specs.Prelude.{Bool, true, false, not, ◌&&◌, ◌||◌, List, [], ◌∷◌, ℕ, eqb, leb, length, get_or}
use Rattle.format.specs.Bytes.{every, any, number, all_zero, same_bytes}
use Rattle.format.specs.Layout.{Fields}
use Rattle.format.specs.Parts.{Kind, public_key, rule, transport_variant, transport_rule, export_parameters, source_rule, token_parameters}
use Rattle.format.specs.Parts.{name, information, protection, dates, application_data, is_subsection, same_kind, Part}
use Rattle.format.specs.Forms.{between, rule_id_form, rule_id_reach, label_form, label_reach, date_exists, in_order, key_length, fewest_bytes, modulus_form, exponent_form}

-- a rule on a field: the field's number, the byte of the field that a refusal points at, from 0, the refusal, and whether the
-- rule is kept: `check 6 16 b` is field 6, refusal 16, which points at the field's first byte
pub record Check : Type 0 where
  pub field : ℕ
  pub inside : ℕ
  pub refusal : ℕ
  pub holds : Bool

abbrev pub check : ℕ → ℕ → Bool → Check
check f n b = record { field = f; inside = 0; refusal = n; holds = b }

-- refusal 17, which points at byte i of the field
abbrev pub form_check : ℕ → ℕ → Bool → Check
form_check f i b = record { field = f; inside = i; refusal = 17; holds = b }

-- a token is at most this long
abbrev pub longest : ℕ
longest = 3500

-- ---- the conditions on the fields of one part, in 01's order

-- x is 1 to 512
abbrev pub exponent_length : List ℕ → Bool
exponent_length e = between 1 512 (length e)

-- modulus bits 512 to 4,096
abbrev pub modulus_bits_allowed : ℕ → Bool
modulus_bits_allowed bits = between 512 4096 bits

-- 00000000, 80000000 or C0000000
abbrev pub key_flags : List ℕ → Bool
key_flags f = eqb (number f) 0 || eqb (number f) 0x80000000 || eqb (number f) 0xC0000000

-- 0 or 1: the flags of section 12 (generate, export), of section 14 and of 14/0002
abbrev pub zero_or_one : List ℕ → Bool
zero_or_one f = leb (number f) 1

-- the generated length is 8, 16 or 24 for a generate rule, any byte for an export rule
abbrev pub generated_length_allowed : List ℕ → List ℕ → Bool
generated_length_allowed flags g = eqb (number flags) 1 || key_length (number g)

-- key-check and asymmetric format are 0 to 2
abbrev pub zero_to_two : List ℕ → Bool
zero_to_two f = leb (number f) 2

-- the symmetric format is 0 for generate and 1 for export
abbrev pub symmetric_format_allowed : List ℕ → List ℕ → Bool
symmetric_format_allowed flags f = eqb (number f) (number flags)

-- x is 0 or 8 to 255, and if not 0 at least the maximum
abbrev pub variant_length : List ℕ → List ℕ → Bool
variant_length maximum v = eqb (length v) 0 || (between 8 255 (length v) && leb (number maximum) (length v))

-- c, and m, is 0, 8 or 16
abbrev pub control_length : List ℕ → Bool
control_length f = eqb (length f) 0 || eqb (length f) 8 || eqb (length f) 16

-- z is 0 or 64
abbrev pub label_length : List ℕ → Bool
label_length f = eqb (length f) 0 || eqb (length f) 64

-- the MKVP of an external token is all zero
abbrev pub mkvp_allowed : Bool → List ℕ → Bool
mkvp_allowed x f = not x || all_zero f

-- 02, 102: the dates of a 14/0002 are judged only when its flags are 1
abbrev pub dates_judged : List ℕ → Bool
dates_judged flags = eqb (number flags) 1

-- the rules on the chosen fields f of a kind, in the order in which they are tested; x: the token is external. A rule on 01's
-- x, y, c, m or z is one on the length of the field that it counts, for m the mask
abbrev pub checks : Bool → Kind → Fields → List Check
checks x public_key f =
    let bits = number (get_or f 0 []) in
    let exponent = get_or f 1 [] in
    let modulus = get_or f 2 [] in
    let flags = get_or f 3 [] in
    check 4 16 (exponent_length exponent)  -- 01's x
    ∷ check 5 16 (modulus_bits_allowed bits)
    ∷ check 6 16 (fewest_bytes bits (length modulus))  -- 01's y
    ∷ check 8 16 (modulus_form bits modulus)
    ∷ check 7 16 (exponent_form exponent modulus)
    ∷ check 9 11 (key_flags flags)
    ∷ []
checks x rule f =
    let rule_id = get_or f 0 [] in
    let flags = get_or f 1 [] in
    let generated = get_or f 2 [] in
    let key_check = get_or f 3 [] in
    let symmetric = get_or f 4 [] in
    let asymmetric = get_or f 5 [] in
    form_check 3 (rule_id_reach rule_id) (rule_id_form rule_id)
    ∷ check 4 11 (zero_or_one flags)
    ∷ check 5 11 (generated_length_allowed flags generated)
    ∷ check 6 11 (zero_to_two key_check)
    ∷ check 7 11 (symmetric_format_allowed flags symmetric)
    ∷ check 8 11 (zero_to_two asymmetric)
    ∷ []
-- f: 0 variant
checks x transport_variant f = []
-- f: 0 Rule ID
checks x transport_rule f = form_check 4 (rule_id_reach (get_or f 0 [])) (rule_id_form (get_or f 0 [])) ∷ []
checks x export_parameters f =
    let minimum = get_or f 0 [] in
    let maximum = get_or f 1 [] in
    let variant = get_or f 2 [] in
    let cv = get_or f 3 [] in
    check 5 18 (key_length (number minimum))
    ∷ check 6 18 (key_length (number maximum))
    ∷ check 6 18 (leb (number minimum) (number maximum))
    ∷ check 7 18 (variant_length maximum variant)  -- 01's x
    ∷ check 9 18 (control_length cv)  -- 01's c
    ∷ []
-- f: 0 Rule ID
checks x source_rule f = form_check 4 (rule_id_reach (get_or f 0 [])) (rule_id_form (get_or f 0 [])) ∷ []
checks x token_parameters f =
    let mask = get_or f 0 [] in
    let label = get_or f 2 [] in
    check 5 18 (control_length mask)  -- 01's m
    ∷ check 8 18 (label_length label)  -- 01's z
    ∷ form_check 9 (label_reach label) (eqb (length label) 0 || label_form label)
    ∷ []
-- f: 0 name
checks x name f = []
-- f: 0 flags
checks x information f = check 4 11 (zero_or_one (get_or f 0 [])) ∷ []
-- f: 0 encrypted MAC key, 1 MAC, 2 MKVP
checks x protection f = check 6 21 (mkvp_allowed x (get_or f 2 [])) ∷ []
-- both dates exist and are in order where they are judged; else they are any bytes
checks x dates f =
    let flags = get_or f 0 [] in
    let activation = get_or f 1 [] in
    let expiration = get_or f 2 [] in
    check 4 11 (zero_or_one flags)
    ∷ check 5 19 (not (dates_judged flags) || date_exists activation)
    ∷ check 6 19 (not (dates_judged flags) || date_exists expiration)
    ∷ check 6 19 (not (dates_judged flags) || in_order activation expiration)
    ∷ []
-- f: 0 data
checks x application_data f = []

-- ---- the rules between parts

-- a section and its subsections, in order
pub record Section : Type 0 where
  pub head : Part
  pub subs : List Part

-- the subsections at the front of the list
abbrev pub front_subs : List Part → List Part
front_subs [] = []
front_subs (p ∷ ps) = elim (is_subsection p.kind) [ true ↦ p ∷ front_subs ps | false ↦ [] ]

-- the sections of a list of parts, each with the subsections that follow it (by `joins` none stands before the first section)
abbrev pub sections_of : List Part → List Section
sections_of [] = []
sections_of (p ∷ ps) =
    elim (is_subsection p.kind) [
      | true ↦ sections_of ps
      | false ↦ record { head = p; subs = front_subs ps } ∷ sections_of ps
    ]

-- a part of the kind is among these
abbrev pub has : Kind → List Part → Bool
has k ps = any (λ (p : Part). same_kind k p.kind) ps

-- the parts of the kind among these
abbrev pub of_kind : Kind → List Part → List Part
of_kind k [] = []
of_kind k (p ∷ ps) = elim (same_kind k p.kind) [ true ↦ p ∷ of_kind k ps | false ↦ of_kind k ps ]

abbrev pub same_rule_id : Part → Part → Bool
same_rule_id p q = same_bytes (get_or p.fields 0 []) (get_or q.fields 0 [])

-- only section 12 may repeat, with different Rule IDs
abbrev pub may_both_stand : Section → Section → Bool
may_both_stand s t =
    not (same_kind s.head.kind t.head.kind)
    || (same_kind rule s.head.kind && not (same_rule_id s.head t.head))

-- each subsection tag stands at most once in its section
abbrev pub other_kind : Part → Part → Bool
other_kind p q = not (same_kind p.kind q.kind)

-- m of a 0005: the length of its mask
abbrev pub mask_length : Part → ℕ
mask_length p = length (get_or p.fields 0 [])

-- the minimum of a 0003
abbrev pub minimum_of : Part → ℕ
minimum_of p = number (get_or p.fields 0 [])

-- if m is not 0 and the rule has a 0003, m is at least its minimum; p is the 0005, q the 0003, each at most one
abbrev pub mask_covers : List Part → Bool
mask_covers subs =
    every
    (λ (p : Part).
    eqb (mask_length p) 0 || every (λ (q : Part). leb (minimum_of q) (mask_length p)) (of_kind export_parameters subs))
    (of_kind token_parameters subs)

-- an export rule has a 0003, and section 14 its 0001; chosen field 1 of a rule is its flags
abbrev pub has_required : Section → Bool
has_required s =
    let exports = same_kind rule s.head.kind && eqb (number (get_or s.head.fields 1 [])) 1 in
    (not exports || has export_parameters s.subs)
    && (not (same_kind information s.head.kind) || has protection s.subs)
