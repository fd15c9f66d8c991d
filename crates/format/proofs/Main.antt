-- The theorems about the definitions, each beside the sentence that it answers; the proofs stand in the files named by
-- the `use` lines. Lists of numbers below 256 (`Bytes`) are lists of bytes. Assumes nothing.
use mathlib.Core.Path.{◌≡◌, refl, sym, subst}
use mathlib.Core.Bool.{Bool, true, false, ◌&&◌}
use mathlib.Core.List.{List, [], ◌∷◌, ◌++◌}
use mathlib.Core.Logic.{◌↔◌, ◌⊎◌}
use mathlib.Core.Option.{some}
use Prim.Native.Nat.{ℕ, suc, ◌+◌, ◌*◌, ◌/◌, ◌^◌, ◌≤◌, ◌<◌}
use lib.Dec.{leb}
use lib.ListN.{length, take, drop, get_elem?, replicate}
use Rattle.format.specs.Bytes.{All, Bytes, big_endian, number, bytes_at}
use Rattle.format.specs.Layout.{Fields, write, fits}
use Rattle.format.specs.Slots.{Slot, slot_bytes, fields_in}
use Rattle.format.specs.Parts.{Kind, rule, dates, is_subsection, layout, Part, size, written, write_parts, joins, WrittenForm}
use Rattle.format.specs.Forms.{rule_id_form, rule_id_reach, label_form, label_reach, date_exists, in_order}
use Rattle.format.specs.Rules.{longest, Check, checks, Section, of_kind}
use Rattle.format.specs.Legal.{Lawful, Complete, Legal, rule_count, rules_of_all, joined}
use Rattle.format.specs.Reading.{Fault, fault, Outcome, refused, found, stated, reading, parts_of, answer}
use Rattle.format.specs.Table.{Placed, after_header, placed, rows, columns, row_numbers, table_of, table_answer, table_after}
use Rattle.format.specs.Views.{field_at, view, view_answer, next_place, step_at}
use Rattle.format.specs.GivenNumbers.{number_of, second_of, offset_of, length_of, step_number, row_kind}
use Rattle.format.specs.Writer.{write_answer, draft_after, start, addition, finish, date_fields}
use Rattle.format.specs.Claims.{answer_numbers, step_numbers, IsRow, Tiles, subs_of, rule_rows, rule_numbers, following, last_of, slots_of, chosen_views, views_from, walk, walk_place, additions, InPart, Stops, restate, sections_end, lacking_at}
use Rattle.format.specs.Examples.{token_t, Holds, starred, spring_token}
use Rattle.format.specs.PlaceExamples.{places_read}
use Rattle.format.specs.TableExamples.{two_rules, two_rules_table}
use Rattle.format.specs.DateExamples.{with_dates, dates_read}
use Rattle.format.specs.Answers.{Accepted, Refused, End, Stopped}
use Rattle.format.proofs.Numbers as Numbers
use Rattle.format.proofs.Accepted as Accepting
use Rattle.format.proofs.Unique as Unique
use Rattle.format.proofs.Runs as Runs
use Rattle.format.proofs.Rows as Rows
use Rattle.format.proofs.Tables as Tables
use Rattle.format.proofs.Tiling as Tiling
use Rattle.format.proofs.Owners as Owners
use Rattle.format.proofs.RuleNumbers as RuleNumbers
use Rattle.format.proofs.Viewing as Viewing
use Rattle.format.proofs.Walking as Walking
use Rattle.format.proofs.Writing as Writing
use Rattle.format.proofs.Additions as Additions
use Rattle.format.proofs.Finishing as Finishing
use Rattle.format.proofs.RuleIdPlaces as RuleIdPlaces
use Rattle.format.proofs.LabelPlaces as LabelPlaces
use Rattle.format.proofs.Numbering as Numbering
use Rattle.format.proofs.GivenNumbers as GivenNumbers
use Rattle.format.proofs.Refusing as Refusing
use Rattle.format.proofs.Dates as Dates
use Rattle.format.proofs.Examples as Examples

-- ---- demand 2, of the definitions

-- "A buffer is accepted exactly when it is a legal token as 01 defines it": the answer is 0 with n exactly when the bytes
-- are a legal token with n rows.
pub accepted_exactly_when_legal : (bs : List ℕ) (n : ℕ) → Bytes bs
    → (answer bs ≡ Accepted n) ↔ ((l : Legal bs) × (n ≡ length (rows l.parts)))
accepted_exactly_when_legal bs n b = Tables.accepted_exactly bs n b

-- In the paper's numbers: reading gives 0 exactly for the legal tokens.
pub number_0_exactly_when_legal : (bs : List ℕ) → Bytes bs → (number_of (answer bs) ≡ 0) ↔ Legal bs
number_0_exactly_when_legal bs b = Tables.zero_exactly bs b

-- Beside 0 stands the count of rows; any other number is 1 to 21, and beside it a place within the bytes.
pub reading_in_numbers : (bs : List ℕ) → Bytes bs
    → ((l : Legal bs) → answer_numbers (answer bs) ≡ 0 ∷ length (rows l.parts) ∷ [])
    × ((Legal bs → ⊥) → (1 ≤ number_of (answer bs)) × (number_of (answer bs) ≤ 21) × (second_of (answer bs) ≤ length bs))
reading_in_numbers bs b = Tables.reading_numbers bs b

-- "[..] and the lent table has room": reading into a table accepts exactly the legal tokens whose rows have room in it.
pub accepted_into_table : (bs t : List ℕ) (n : ℕ) → Bytes bs
    → (table_answer bs t ≡ Accepted n) ↔ ((l : Legal bs) × (n ≡ length (rows l.parts)) × (columns * n ≤ length t))
accepted_into_table bs t n b = Tables.table_exactly bs t n b

-- The table then holds the rows of the token's parts, and after them what it held.
pub table_holds_rows : (bs t : List ℕ) (l : Legal bs) → columns * length (rows l.parts) ≤ length t
    → table_after bs t ≡ table_of (rows l.parts) ++ drop (columns * length (rows l.parts)) t
table_holds_rows bs t l h = Tables.table_holds bs t l h

-- "23 is given exactly when the token is legal and four times the rows exceeds the table", five times with 02's 108; "its
-- second number is the rows needed."
pub no_room : (bs t : List ℕ) (n : ℕ) → Bytes bs
    → (table_answer bs t ≡ Refused 23 n) ↔ ((l : Legal bs) × (n ≡ length (rows l.parts)) × (length t < columns * n))
no_room bs t n b = Tables.no_room bs t n b

-- "A refusal changes nothing lent": a refused reading, 23 too, leaves the table as it was.
pub table_kept : (bs t : List ℕ) (n p : ℕ) → table_answer bs t ≡ Refused n p → table_after bs t ≡ t
table_kept bs t n p e = Tables.table_kept bs t n p e

-- In the paper's numbers: 0 exactly for a legal token that has room and 23 exactly for one that has none, beside both the
-- rows; for an illegal token the numbers of reading it; a number that is not 0 leaves the table as it was.
pub table_in_numbers : (bs t : List ℕ) → Bytes bs
    → ((number_of (table_answer bs t) ≡ 0) ↔ ((l : Legal bs) × (columns * length (rows l.parts) ≤ length t)))
    × ((number_of (table_answer bs t) ≡ 23) ↔ ((l : Legal bs) × (length t < columns * length (rows l.parts))))
    × ((l : Legal bs) → second_of (table_answer bs t) ≡ length (rows l.parts))
    × ((Legal bs → ⊥) → answer_numbers (table_answer bs t) ≡ answer_numbers (answer bs))
    × ((number_of (table_answer bs t) ≡ 0 → ⊥) → table_after bs t ≡ t)
table_in_numbers bs t b = Tables.table_numbers bs t b

-- "each once, in order": the rows' own bytes tile the token from byte 8 to its end.
pub rows_tile : (bs : List ℕ) (l : Legal bs) → Tiles 8 (placed after_header l.parts) (length bs)
rows_tile bs l = Tiling.rows_tile bs l

-- A row's offset and length are those of its part with its subsections, in the token's own bytes.
pub row_bytes : (bs : List ℕ) (l : Legal bs) (k : ℕ) (x : Placed) → IsRow bs l k x
    → bytes_at bs x.row.offset x.row.length ≡ write_parts (x.part ∷ subs_of x.part (drop (suc k) l.parts))
row_bytes bs l k x r = Tiling.row_bytes bs l k x r

-- "row of the owning section (its own for a section)": the owner of a section's row is that row, and the owner of any row is
-- the row of a section which covers it.
pub owner_of_a_row : (bs : List ℕ) (l : Legal bs) (k : ℕ) (x : Placed) → IsRow bs l k x
    → (is_subsection x.part.kind ≡ false → x.row.owner ≡ k)
    × ((y : Placed)
    × IsRow bs l x.row.owner y
    × (is_subsection y.part.kind ≡ false)
    × (y.row.offset ≤ x.row.offset)
    × (x.row.offset + x.row.length ≤ y.row.offset + y.row.length))
owner_of_a_row bs l k x r = Owners.row_owner_is bs l k x r

-- Refusal and legality exclude each other.
pub legal_not_refused : (bs : List ℕ) → Legal bs → (n p : ℕ) → answer bs ≡ Refused n p → ⊥
legal_not_refused bs l n p e = Tables.legal_not_refused bs l n p e

-- "Any bytes may come in, and every call ends with an answer": an acceptance, or a refusal with a number from 1 to 21.
pub every_answer : (bs : List ℕ) → ((n : ℕ) × (answer bs ≡ Accepted n)) ⊎ ((n : ℕ) × (p : ℕ) × (answer bs ≡ Refused n p) × (1 ≤ n) × (n ≤ 21))
every_answer bs = Tables.every_answer bs

-- The same of drafts: a refusal's number is from 1 to 21, and its place is within the part at fault; it is that of a byte of the
-- token, but for 1, given of fewer than eight bytes, and 20, which for the missing section 14 stands at the end.
pub every_refusal : (full : Bool) (bs : List ℕ) (f : Fault) → reading full bs ≡ refused f
    → (1 ≤ f.number) × (f.number ≤ 21) × InPart bs f × (f.place ≤ length bs) × ((f.number ≡ 1 → ⊥) → (f.number ≡ 20 → ⊥) → f.place < length bs)
every_refusal full bs f e =
    let p = Numbering.refusal_placed full bs f e in
    (p.listed.first, p.listed.last, p.listed.inside, p.listed.within, p.before)

-- 02, 107: "for 17 the first byte at which no legal form can continue". Of a Rule ID, and of a label template, that has not its
-- form: the bytes before the place begin one of that length that has it, and with the byte at the place they begin none.
pub rule_id_place : (bs : List ℕ) → 1 ≤ length bs → rule_id_form bs ≡ false → Stops rule_id_form bs (rule_id_reach bs)
rule_id_place bs h e = RuleIdPlaces.rule_id_place bs h e

pub label_place : (bs : List ℕ) → 1 ≤ length bs → label_form bs ≡ false → Stops label_form bs (label_reach bs)
label_place bs h e = LabelPlaces.label_place bs h e

-- Where each number points, by examples.
pub places_by_example : All Holds places_read
places_by_example = Examples.places_read_is

-- "A legal token never has more than 300 rows; that is to be shown."
pub at_most_300_rows : (bs : List ℕ) (l : Legal bs) → length (rows l.parts) ≤ 300
at_most_300_rows bs l = subst (λ (n : ℕ). n ≤ 300) (sym (Rows.row_count_is l.parts)) (Rows.few_rows bs l)

-- So a table of 1,500 numbers has room for any.
pub table_of_1500 : (bs t : List ℕ) (l : Legal bs) → 1500 ≤ length t → table_answer bs t ≡ Accepted (length (rows l.parts))
table_of_1500 bs t l h = Tables.room_for_any bs t l (at_most_300_rows bs l) h

-- ---- demand 3

-- "each legal token is the written form, as 01 builds it, of one choice of identifier and parts and of no other."
pub one_choice_and_no_other : (bs : List ℕ) (l : Legal bs)
    → WrittenForm l.id l.parts bs × ((i : ℕ) (ps : List Part) → WrittenForm i ps bs → (i ≡ l.id) × (ps ≡ l.parts))
one_choice_and_no_other bs l = (l.form, λ i ps w. Unique.one_choice i l.id ps l.parts bs w l.form)

-- What is written from a choice that keeps the rules is legal; that it has 80 bytes follows.
pub written_from_rules_is_legal : (i : ℕ) (ps : List Part) (bs : List ℕ) → WrittenForm i ps bs → length bs ≤ longest → Lawful i ps → Complete ps
    → Legal bs
written_from_rules_is_legal i ps bs w h l c = Accepting.written_legal i ps bs w h l c

-- "No legal token is the beginning of a longer legal one."
pub no_longer_legal_token : (t r : List ℕ) → Legal t → Legal (t ++ r) → r ≡ []
no_longer_legal_token t r a b = Runs.prefix_free t r a b

-- "Any two finite lists of legal tokens, the empty list among them, give the same bytes when laid end to end exactly when
-- they are the same list, the same tokens in the same order."
pub same_bytes_same_list : (ts us : List (List ℕ)) → All Legal ts → All Legal us → (joined ts ≡ joined us) ↔ (ts ≡ us)
same_bytes_same_list ts us a b = Runs.same_bytes_same_list ts us a b

-- "So a run joined from legal tokens has one cutting and one count of rules", the sum over its tokens.
pub one_count_of_rules : (ts us : List (List ℕ)) (a : All Legal ts) (b : All Legal us) → joined ts ≡ joined us
    → rules_of_all ts a ≡ rules_of_all us b
one_count_of_rules ts us a b e = Runs.one_count ts us a b e

-- "Its count of rules is the number of its sections 12; a list's is the sum over its tokens."
pub count_of_rules : (ps : List Part) → rule_count ps ≡ length (of_kind rule ps)
count_of_rules ps = Runs.count_of_sections ps

pub count_over_a_list : (t : List ℕ) (ts : List (List ℕ)) (l : Legal t) (ls : All Legal ts)
    → (rules_of_all [] tt ≡ 0) × (rules_of_all (t ∷ ts) (l, ls) ≡ rule_count l.parts + rules_of_all ts ls)
count_over_a_list t ts l ls = (refl, refl)

-- It is the count of the table's rows whose kind is that of section 12, which the desk bills from.
pub count_by_rows : (bs : List ℕ) (l : Legal bs) → rule_rows (rows l.parts) ≡ rule_count l.parts
count_by_rows bs l = Runs.count_of_rows after_header l.parts

-- 02, 108: "for a rule and its subsections the rule's place among the rules, from 1": the numbers of the rows of rules are 1, 2,
-- .. up to the count of rules, in order,
pub rules_numbered : (bs : List ℕ) (l : Legal bs) → rule_numbers (rows l.parts) ≡ following 0 (rule_count l.parts)
rules_numbered bs l = RuleNumbers.rules_numbered l.parts

-- so that the last rule's number is the count that the desk bills;
pub last_rule_number : (bs : List ℕ) (l : Legal bs) → last_of 0 (rule_numbers (rows l.parts)) ≡ rule_count l.parts
last_rule_number bs l = RuleNumbers.last_number l.parts

-- a subsection has the number of its owner's row, and "elsewhere 0": so has a row of any other section.
pub rule_of_a_row : (bs : List ℕ) (l : Legal bs) (k : ℕ) (x : Placed) → IsRow bs l k x
    → ((y : Placed) → IsRow bs l x.row.owner y → x.row.rule ≡ y.row.rule)
    × ((x.row.kind / 65536 ≡ 0x12 → ⊥) → x.row.rule ≡ 0)
rule_of_a_row bs l k x r = RuleNumbers.row_rule_is bs l k x r

-- The table of a token with two rules and a name between them.
pub table_by_example : table_after two_rules (replicate 32 9) ≡ two_rules_table ++ (9 ∷ 9 ∷ [])
table_by_example = Examples.table_read

-- ---- views and the walk

-- "A view is the part of the caller's own bytes that a field occupies, asked for by row and field number. Its partner
-- question gives 0": field number j of a row's layout has its slot's bytes in the token as its view.
pub view_of_a_field : (bs : List ℕ) (l : Legal bs) (k j : ℕ) (x : Placed) → IsRow bs l k x → j < length (layout x.part.kind)
    → (s : Slot) × (get_elem? (slots_of bs x) j ≡ some s)
    × (view bs k j ≡ slot_bytes (drop x.row.offset bs) s)
    × (view_answer bs k j ≡ Accepted 0)
view_of_a_field bs l k j x r h = Viewing.view_field bs l k j x r h

-- Cutting a row by its layout gives the fields of the part that it came from.
pub row_gives_its_fields : (bs : List ℕ) (l : Legal bs) (k : ℕ) (x : Placed) → IsRow bs l k x
    → fields_in (drop x.row.offset bs) (slots_of bs x) ≡ x.part.fields
row_gives_its_fields bs l k x r = Viewing.cut_row bs l k x r

-- So the fields of that part are the views of the row's chosen fields, in their order.
pub fields_are_views : (bs : List ℕ) (l : Legal bs) (k : ℕ) (x : Placed) → IsRow bs l k x
    → x.part.fields ≡ chosen_views bs k 0 (layout x.part.kind)
fields_are_views bs l k x r = Viewing.fields_viewed bs l k x r

-- The views of all fields of a row, laid end to end, are its part's own bytes: nothing overlaps or is left over.
pub views_tile_the_row : (bs : List ℕ) (l : Legal bs) (k : ℕ) (x : Placed) → IsRow bs l k x
    → views_from bs k 0 (length (layout x.part.kind)) ≡ write x.row.length (layout x.part.kind) x.part.fields
views_tile_the_row bs l k x r = Viewing.views_tile bs l k x r

-- "22: no such row or field; place 0", and the view is empty.
pub no_such_field : (bs : List ℕ) (l : Legal bs) (k j : ℕ) (x : Placed) → IsRow bs l k x → length (layout x.part.kind) ≤ j
    → (view bs k j ≡ []) × (view_answer bs k j ≡ Refused 22 0)
no_such_field bs l k j x r h = Viewing.view_no_field bs l k j x r h

pub no_such_row : (bs : List ℕ) (l : Legal bs) (k j : ℕ) → length l.parts ≤ k → (view bs k j ≡ []) × (view_answer bs k j ≡ Refused 22 0)
no_such_row bs l k j h = Viewing.view_no_row bs l k j h

-- "Here and in the walk an illegal token refuses first, with its own number."
pub illegal_view : (bs : List ℕ) (f : Fault) (k j : ℕ) → reading true bs ≡ refused f
    → (view bs k j ≡ []) × (view_answer bs k j ≡ Refused f.number f.place)
illegal_view bs f k j e = Viewing.view_refused bs f k j e

pub illegal_step : (bs : List ℕ) (f : Fault) (at : ℕ) → reading true bs ≡ refused f → step_at bs at ≡ Stopped f.number f.place
illegal_step bs f at e = Walking.step_refused bs f at e

-- A view in the paper's numbers: 0 exactly where a legal token has the row and the row the field, 22 exactly where one of
-- them is not there, beside both 0; for an illegal token the numbers of reading it.
pub view_in_numbers : (bs : List ℕ) (k j : ℕ) → Bytes bs
    → ((number_of (view_answer bs k j) ≡ 0) ↔ ((l : Legal bs) × ((x : Placed) × IsRow bs l k x × (j < length (layout x.part.kind)))))
    × ((number_of (view_answer bs k j) ≡ 22) ↔ ((l : Legal bs) × ((x : Placed) → IsRow bs l k x → length (layout x.part.kind) ≤ j)))
    × (Legal bs → second_of (view_answer bs k j) ≡ 0)
    × ((Legal bs → ⊥) → answer_numbers (view_answer bs k j) ≡ answer_numbers (answer bs))
view_in_numbers bs k j b = Viewing.view_numbers bs k j b

-- Where the field lies: its slot's offset in the token and its length, both 0 where the number is not 0.
pub field_in_numbers : (bs : List ℕ) (k j : ℕ)
    → ((l : Legal bs) (x : Placed) (s : Slot) → IsRow bs l k x → get_elem? (slots_of bs x) j ≡ some s
    → (offset_of (field_at bs k j) ≡ x.row.offset + s.offset) × (length_of (field_at bs k j) ≡ s.width))
    × ((number_of (view_answer bs k j) ≡ 0 → ⊥) → (offset_of (field_at bs k j) ≡ 0) × (length_of (field_at bs k j) ≡ 0))
field_in_numbers bs k j = Viewing.field_numbers bs k j

-- From place 8, following the next places, the records are the rows of the table in order, and then the end.
pub walk_gives_the_rows : (bs : List ℕ) (l : Legal bs)
    → (walk (suc (length l.parts)) bs 8 ≡ rows l.parts) × (step_at bs (walk_place (length l.parts) bs 8) ≡ End)
walk_gives_the_rows bs l = Walking.walk_all bs l

-- "the end at the token's length, 22 at any other place."
pub end_at_the_length : (bs : List ℕ) → Legal bs → step_at bs (length bs) ≡ End
end_at_the_length bs l = Walking.step_at_end bs l

pub no_row_begins_there : (bs : List ℕ) (l : Legal bs) (at : ℕ)
    → ((k : ℕ) (x : Placed) → IsRow bs l k x → at ≡ x.row.offset → ⊥) → (at ≡ length bs → ⊥) → step_at bs at ≡ Stopped 22 0
no_row_begins_there bs l at a b = Walking.step_nowhere bs l at a b

-- "each step answers one record, the end or a refusal: the row that begins there with the next row's place", in the paper's
-- numbers: 0, 0, the row's five and that place; at the end 0s; at any other place 22 and 0s; for an illegal token the
-- numbers of reading it and 0s.
pub step_in_numbers : (bs : List ℕ) → Bytes bs
    → ((l : Legal bs) (k : ℕ) (x : Placed) → IsRow bs l k x
    → step_numbers (step_at bs x.row.offset)
    ≡ 0 ∷ 0 ∷ row_numbers x.row ++ (next_place (length bs) (drop (suc k) (rows l.parts)) ∷ []))
    × (Legal bs → step_numbers (step_at bs (length bs)) ≡ replicate 8 0)
    × ((l : Legal bs) (at : ℕ) → ((k : ℕ) (x : Placed) → IsRow bs l k x → at ≡ x.row.offset → ⊥) → (at ≡ length bs → ⊥)
    → step_numbers (step_at bs at) ≡ 22 ∷ replicate 7 0)
    × ((at : ℕ) → (Legal bs → ⊥) → step_numbers (step_at bs at) ≡ answer_numbers (answer bs) ++ replicate 6 0)
step_in_numbers bs b = Walking.step_numbers_is bs b

-- So 0 with kind 0 is given exactly at the end, and 22 exactly at a place that is neither a row's nor the end.
pub step_by_its_numbers : (bs : List ℕ) (at : ℕ) → Bytes bs
    → (((step_number (step_at bs at) ≡ 0) × (row_kind (step_at bs at) ≡ 0)) ↔ (Legal bs × (at ≡ length bs)))
    × ((step_number (step_at bs at) ≡ 22)
    ↔ ((l : Legal bs) × ((k : ℕ) (x : Placed) → IsRow bs l k x → at ≡ x.row.offset → ⊥) × (at ≡ length bs → ⊥)))
step_by_its_numbers bs at b = Walking.step_exactly bs at b

-- ---- the writer

-- "What the writer finishes, its draft touched by nothing else since the start, is a legal token whose parts are the ones
-- added, in that order": after a start and any accepted additions the draft's first bytes, as many as its header states,
-- are the written form of the identifier and the parts added,
pub draft_holds_what_was_added : (i : ℕ) (ps : List Part) (d bs e : List ℕ) → i < 256 → All (λ (p : Part). All Bytes p.fields) ps
    → start i d ≡ found bs → additions ps (draft_after (found bs) d) ≡ found e
    → (take (stated e) e ≡ written i ps) × (stated e ≡ length (written i ps))
draft_holds_what_was_added i ps d bs e h b s a =
    let w = Writing.run_read ps i [] (draft_after (found bs) d) e (Writing.started i d bs h s) b a in
    (Writing.draft_front i ps e w, (Writing.draft_header i ps e w).1)

-- and finishing accepts exactly when that is a legal token, with its length.
pub finished_exactly_when_legal : (i : ℕ) (ps : List Part) (d bs e : List ℕ) (n : ℕ) → i < 256 → All (λ (p : Part). All Bytes p.fields) ps
    → start i d ≡ found bs → additions ps (draft_after (found bs) d) ≡ found e
    → (finish e ≡ Accepted n) ↔ (Legal (written i ps) × (n ≡ length (written i ps)))
finished_exactly_when_legal i ps d bs e n h b s a =
    Writing.finish_exactly i ps e (Writing.run_read ps i [] (draft_after (found bs) d) e (Writing.started i d bs h s) b a) n

-- In the paper's numbers: 0 exactly then, and beside it that length.
pub finished_in_numbers : (i : ℕ) (ps : List Part) (d bs e : List ℕ) → i < 256 → All (λ (p : Part). All Bytes p.fields) ps
    → start i d ≡ found bs → additions ps (draft_after (found bs) d) ≡ found e
    → ((number_of (finish e) ≡ 0) ↔ Legal (written i ps)) × (Legal (written i ps) → second_of (finish e) ≡ length (written i ps))
finished_in_numbers i ps d bs e h b s a =
    Finishing.finished_numbers i ps e (Writing.run_read ps i [] (draft_after (found bs) d) e (Writing.started i d bs h s) b a)

-- Of any lent draft, whatever was done with it: what finishing accepts is a legal token with the length given back,
pub finished_is_legal : (d : List ℕ) (n : ℕ) → Bytes d → finish d ≡ Accepted n → Legal (take n d)
finished_is_legal d n b e = Finishing.finish_legal d n b e

-- and "Finishing gives the draft's own fault, else the reading's 20": exactly where a required part is missing, at the first
-- section that lacks one, and for a missing section 14, which comes last, at the token's length.
pub finish_refuses_with_20 : (d : List ℕ) (n p : ℕ) → Bytes d
    → (finish d ≡ Refused n p)
    ↔ (((f : Fault) × (reading false d ≡ refused f) × (n ≡ f.number) × (p ≡ f.place))
    ⊎ ((ss : List Section)
    × (reading false d ≡ found ss)
    × (Complete (parts_of ss) → ⊥)
    × (n ≡ 20)
    × (p ≡ lacking_at (stated d) 8 ss)))
finish_refuses_with_20 d n p b = Finishing.finish_refuses d n p b

-- "else L": in the paper's numbers 0 exactly where the draft's first L bytes are a legal token, and beside it L; 20 exactly
-- where the draft reads and a required part is missing, with its place; else the draft's own number and place.
pub finish_in_numbers : (d : List ℕ) → Bytes d
    → ((number_of (finish d) ≡ 0) ↔ Legal (take (stated d) d))
    × (Legal (take (stated d) d) → second_of (finish d) ≡ stated d)
    × ((number_of (finish d) ≡ 20) ↔ ((ss : List Section) × (reading false d ≡ found ss) × (Complete (parts_of ss) → ⊥)))
    × ((ss : List Section) → reading false d ≡ found ss → (Complete (parts_of ss) → ⊥) → second_of (finish d) ≡ lacking_at (stated d) 8 ss)
    × ((f : Fault) → reading false d ≡ refused f → answer_numbers (finish d) ≡ f.number ∷ f.place ∷ [])
finish_in_numbers d b = Finishing.finish_numbers d b

-- "Its first L bytes [..] read as a token under all rules but 20": a draft's own fault is never 20.
pub draft_never_20 : (d : List ℕ) (f : Fault) → reading false d ≡ refused f → f.number ≡ 20 → ⊥
draft_never_20 d f e = Numbering.draft_not_20 d f e

-- "Refusals in order: the draft's own fault; 24; 25; 23".
pub own_fault_first : (k : Kind) (fs : Fields) (d : List ℕ) (f : Fault) → reading false d ≡ refused f → addition k fs d ≡ refused f
own_fault_first k fs d f e = Refusing.own_fault_first k fs d f e

pub then_24_25_23 : (p : Part) (d : List ℕ) (ss : List Section) → reading false d ≡ found ss
    → (fits [] (layout p.kind) p.fields ≡ false → addition p.kind p.fields d ≡ refused (fault 24 (stated d) (stated d)))
    × (fits [] (layout p.kind) p.fields ≡ true → joins 0 (parts_of ss ++ p ∷ []) ≡ false
    → addition p.kind p.fields d ≡ refused (fault 25 (stated d) (stated d)))
    × (fits [] (layout p.kind) p.fields ≡ true → joins 0 (parts_of ss ++ p ∷ []) ≡ true
    → (leb (stated d + size p) longest && leb (stated d + size p) (length d)) ≡ false
    → addition p.kind p.fields d ≡ refused (fault 23 (stated d) (stated d)))
then_24_25_23 p d ss e =
    (Refusing.lengths_first p.kind p.fields d ss e, Refusing.joining_next p.kind p.fields d ss e, Refusing.room_last p.kind p.fields d ss e)

-- In the paper's numbers: a start or an addition gives 0 and the draft's length, or the refusal's number and place.
pub writing_in_numbers : (o : Outcome (List ℕ))
    → ((bs : List ℕ) → o ≡ found bs → answer_numbers (write_answer o) ≡ 0 ∷ length bs ∷ [])
    × ((f : Fault) → o ≡ refused f → answer_numbers (write_answer o) ≡ f.number ∷ f.place ∷ [])
writing_in_numbers o = GivenNumbers.outcome_told length o

-- "Adding the parts of any legal token in their order, to a draft newly started with its identifier and with room, gives
-- back its very bytes", and leaves what stood after them.
pub legal_token_rebuilt : (bs : List ℕ) (l : Legal bs) (d : List ℕ) → length bs ≤ length d
    → (start l.id d ≡ found (written l.id []))
    × ((e : List ℕ)
    × (additions l.parts (draft_after (found (written l.id [])) d) ≡ found e)
    × (finish e ≡ Accepted (length bs))
    × (e ≡ bs ++ drop (length bs) d))
legal_token_rebuilt bs l d h = Writing.rebuilt bs l d h

-- The calls of five kinds take numbers (Writer `rule_fields` and its like): any field is the bytes of the number that it
-- states, which its length can state.
pub field_of_its_number : (f : List ℕ) → Bytes f → (big_endian (length f) (number f) ≡ f) × (number f < 256 ^ length f)
field_of_its_number f b = (Numbers.big_endian_number f b, Numbers.number_lt f b)

-- "A refusal changes nothing lent, nor does any call past what it writes".
pub refused_call_changes_nothing : (f : Fault) (d : List ℕ) → draft_after (refused f) d ≡ d
refused_call_changes_nothing f d = refl

pub nothing_past_what_is_written : (bs d : List ℕ) → drop (length bs) (draft_after (found bs) d) ≡ drop (length bs) d
nothing_past_what_is_written bs d = lib.Seq.drop-append_seam bs (drop (length bs) d)

-- "An accepted addition changes the added bytes, the header's length and, for a subsection, its section's length": in any
-- lent draft, and no other byte.
pub added_section_changes : (d : List ℕ) (p : Part) (bs : List ℕ) → Bytes d → is_subsection p.kind ≡ false
    → addition p.kind p.fields d ≡ found bs
    → bs ≡ restate 0 (stated d + size p) (take (stated d) d) ++ write (size p) (layout p.kind) p.fields
added_section_changes d p bs b f e = Additions.section_changes d p bs b f e

pub added_subsection_changes : (d : List ℕ) (p : Part) (bs : List ℕ) → Bytes d → is_subsection p.kind ≡ true
    → addition p.kind p.fields d ≡ found bs
    → (ts : List Section)
    × (t : Section)
    × (reading false d ≡ found (ts ++ t ∷ []))
    × (bs
    ≡ restate (sections_end ts) (stated (drop (sections_end ts) d) + size p) (restate 0 (stated d + size p) (take (stated d) d))
    ++ write (size p) (layout p.kind) p.fields)
added_subsection_changes d p bs b f e = Additions.sub_changes d p bs b f e

-- ---- request 102

-- "Now the dates are judged only when the flags are 1": the rules on the fields of a 14/0002 hold exactly where the flags are
-- 0, whatever the dates are, or 1 and both dates exist, the activation not after the expiration.
pub dates_judged_only_with_flags_1 : (x : Bool) (flags activation expiration : List ℕ)
    → All (λ (c : Check). c.holds ≡ true) (checks x dates (flags ∷ activation ∷ expiration ∷ []))
    ↔ ((number flags ≡ 0)
    ⊎ ((number flags ≡ 1) × (date_exists activation ≡ true) × (date_exists expiration ≡ true) × (in_order activation expiration ≡ true)))
dates_judged_only_with_flags_1 x flags a e = Dates.judged_exactly x flags a e

-- "with flags 0 they are kept and the views give them": so the theorems on legal tokens speak of these too, whatever bytes
-- their dates are.
pub dates_kept_with_flags_0 : (activation expiration : List ℕ) → Bytes activation → Bytes expiration → length activation ≡ 4 → length expiration ≡ 4
    → Legal (with_dates 0 activation expiration)
    × (view (with_dates 0 activation expiration) 2 5 ≡ activation)
    × (view (with_dates 0 activation expiration) 2 6 ≡ expiration)
dates_kept_with_flags_0 a e b c h k = let v = Dates.kept_viewed a e h k in (Dates.kept_legal a e b c h k, v.0, v.1)

-- "and the writer follows."
pub dates_added_with_flags_0 : (activation expiration : List ℕ) → length activation ≡ 4 → length expiration ≡ 4
    → addition dates (date_fields 0 activation expiration) (token_t ++ replicate 16 0) ≡ found (with_dates 0 activation expiration)
dates_added_with_flags_0 a e h k = Dates.kept_added a e h k

-- "Two customers leave both dates zero and set the flags to 0": such a token is accepted; with flags 1 it is 19.
pub dates_by_example : All Holds dates_read
dates_by_example = Dates.dates_read_is

-- ---- examples

-- "The starred examples are shown of the definitions, gathered into a single table under one claim".
pub starred_examples : All Holds starred
starred_examples = Examples.starred_hold

-- "A rule section stated a length shorter than its subsections": such a block is refused, at the subsection.
pub spring_refused : answer spring_token ≡ Refused 12 102
spring_refused = Examples.spring_refused

-- "a reader that refuses everything (a legal token exists)".
pub a_legal_token_exists : Legal token_t
a_legal_token_exists = Examples.legal_T
