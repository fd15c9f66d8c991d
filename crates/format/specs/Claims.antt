-- What the theorems of proofs/Main speak of beyond the definitions of the format; each comment names those that use it.
-- Beside proofs/Main. `set l k x` is l with x for element k; in Main `(x : A) × B` says that there is an x with B.
use Rattle.std.specs.Prelude.{◌≡◌, Bool, true, false, List, [], ◌∷◌, ◌++◌, ◌⊎◌, ℕ, zero, suc, ◌+◌, ◌/◌, ◌%◌, ◌≤◌, ◌<◌, eqb, length, take, drop, set, Ok, Err, Some, None}
use Rattle.std.proofs.Math.Option.{some}
use Rattle.std.proofs.Math.ListN.{get_elem?}
use Rattle.format.specs.Bytes.{how_many}
use Rattle.format.specs.Layout.{Item, code, zeros, own, count, fixed, counted, Fields}
use Rattle.format.specs.Slots.{Slot, slots}
use Rattle.format.specs.Parts.{Part, is_subsection, layout, size, write_parts}
use Rattle.format.specs.Rules.{Section, front_subs, has_required}
use Rattle.format.specs.Legal.{Legal}
use Rattle.format.specs.Reading.{Fault, Outcome, found, and_then, stated, parts_of}
use Rattle.format.specs.Table.{Placed, after_header, placed}
use Rattle.format.specs.Views.{view, step_at, place_after}
use Rattle.format.specs.GivenNumbers.{number_of, second_of, step_number, step_second, row_kind, row_offset, row_length, row_owner, row_rule, next_of}
use Rattle.format.specs.Writer.{draft_after, addition}
use Rattle.format.specs.Answers.{Answer, Step}
use Rattle.format.specs.declared.Row.{Row}

-- ---- answers in 01's numbers

-- The two numbers of an answer. In `reading_in_numbers`, `table_in_numbers`, `view_in_numbers`, `step_in_numbers`,
-- `finish_in_numbers`, `writing_in_numbers`.
abbrev pub answer_numbers : Answer → List ℕ
answer_numbers a = number_of a ∷ second_of a ∷ []

-- The numbers of a step of the walk: its two, the row's, the next row's place. In `step_in_numbers`.
abbrev pub step_numbers : Step → List ℕ
step_numbers s =
    step_number s ∷ step_second s ∷ row_kind s ∷ row_offset s ∷ row_length s ∷ row_owner s ∷ row_rule s ∷ next_of s ∷ []

-- ---- rows

-- Row number k of the token is x. In `row_bytes`, `owner_of_a_row`, `rule_of_a_row`, and in what is said of views and of steps at a row.
abbrev pub IsRow : (bs : List ℕ) → Legal bs → ℕ → Placed → Type 0
IsRow bs l k x = get_elem? (placed after_header l.parts) k ≡ some x

-- The rows from place `at` on lie one after another, each as long as its part without its subsections, and end at e.
-- In `rows_tile`.
abbrev pub Tiles : ℕ → List Placed → ℕ → Type 0
Tiles at [] e = at ≡ e
Tiles at (x ∷ xs) e = (x.row.offset ≡ at) × Tiles (at + size x.part) xs e

-- The subsections of a part, the parts after it given: those in front of the next section, and none for a subsection.
-- In `row_bytes`.
abbrev pub subs_of : Part → List Part → List Part
subs_of p ps = elim (is_subsection p.kind) [ true ↦ [] | false ↦ front_subs ps ]

-- How many of the rows are those of rules, sections 12. In `count_by_rows`.
abbrev pub rule_rows : List Row → ℕ
rule_rows rs = how_many (λ (r : Row). eqb 0x120000 r.kind) rs

-- The numbers of the rules in those rows, in order. In `rules_numbered`, `last_rule_number`.
abbrev pub rule_numbers : List Row → List ℕ
rule_numbers [] = []
rule_numbers (r ∷ rs) = elim (eqb 0x120000 r.kind) [ true ↦ r.rule ∷ rule_numbers rs | false ↦ rule_numbers rs ]

-- The n numbers that follow k: k + 1, k + 2, .. In `rules_numbered`.
abbrev pub following : ℕ → ℕ → List ℕ
following k zero = []
following k (suc n) = suc k ∷ following (suc k) n

-- The last of these numbers, and k where there is none. In `last_rule_number`.
abbrev pub last_of : ℕ → List ℕ → ℕ
last_of k [] = k
last_of k (n ∷ ns) = last_of n ns

-- ---- the views of a row

-- The slots of a row in the token, its offset the first. In `view_of_a_field`, `row_gives_its_fields`.
abbrev pub slots_of : List ℕ → Placed → List Slot
slots_of bs x = slots [] (layout x.part.kind) (drop x.row.offset bs) 0

-- The views of a row's chosen fields, l being its layout from field number j on. In `fields_are_views`.
abbrev pub chosen_views : List ℕ → ℕ → ℕ → List Item → Fields
chosen_views bs k j [] = []
chosen_views bs k j (code w v ∷ l) = chosen_views bs k (suc j) l
chosen_views bs k j (zeros n q ∷ l) = chosen_views bs k (suc j) l
chosen_views bs k j (own w ∷ l) = chosen_views bs k (suc j) l
chosen_views bs k j (count w c ∷ l) = chosen_views bs k (suc j) l
chosen_views bs k j (fixed n ∷ l) = view bs k j ∷ chosen_views bs k (suc j) l
chosen_views bs k j (counted s ∷ l) = view bs k j ∷ chosen_views bs k (suc j) l

-- The views of a row's fields from number j on, n of them, laid end to end. In `views_tile_the_row`.
abbrev pub views_from : List ℕ → ℕ → ℕ → ℕ → List ℕ
views_from bs k j zero = []
views_from bs k j (suc n) = view bs k j ++ views_from bs k (suc j) n

-- ---- the walk

-- The records from a place on, following each one's next place, in d turns at most. In `walk_gives_the_rows`.
abbrev pub walk : ℕ → List ℕ → ℕ → List Row
walk zero bs at = []
walk (suc d) bs at = elim (step_at bs at) [ Ok (Some s) ↦ s.row ∷ walk d bs s.next | Ok None ↦ [] | Err r ↦ [] ]

-- The place that d steps lead to. In `walk_gives_the_rows`.
abbrev pub walk_place : ℕ → List ℕ → ℕ → ℕ
walk_place zero bs at = at
walk_place (suc d) bs at = walk_place d bs (place_after at (step_at bs at))

-- ---- the writer

-- The parts added one after another to a draft; what is found is the draft as it then is. In
-- `draft_holds_what_was_added`, `finished_exactly_when_legal`, `legal_token_rebuilt`.
unfoldable pub additions : List Part → List ℕ → Outcome (List ℕ)
additions [] d = found d
additions (p ∷ ps) d = and_then (addition p.kind p.fields d) (λ bs. additions ps (draft_after (found bs) d))

-- The place of a refusal is within the part at fault: one of the four bytes that hold its id or tag and its length, or before
-- the end that it states. In `every_refusal`.
abbrev pub InPart : List ℕ → Fault → Type 0
InPart bs f = (f.part ≤ f.place) × ((f.place < f.part + 4) ⊎ (f.place < f.part + stated (drop f.part bs)))

-- The first n bytes of these can be gone on with to as many that have the form, and n bytes and one cannot, however many follow.
-- In `rule_id_place`, `label_place`.
abbrev pub Stops : (List ℕ → Bool) → List ℕ → ℕ → Type 0
Stops form bs n =
    (n < length bs)
    × ((t : List ℕ) × (length (take n bs ++ t) ≡ length bs) × (form (take n bs ++ t) ≡ true))
    × ((t : List ℕ) → form (take (suc n) bs ++ t) ≡ true → ⊥)

-- A new length n in the part that begins at place at: in its bytes 2 and 3. In `added_section_changes`,
-- `added_subsection_changes`.
abbrev pub restate : ℕ → ℕ → List ℕ → List ℕ
restate at n bs = set (set bs (at + 2) (n / 256 % 256)) (at + 3) (n % 256)

-- The place of the section after these. In `added_subsection_changes`.
abbrev pub sections_end : List Section → ℕ
sections_end ss = 8 + length (write_parts (parts_of ss))

-- The place of refusal 20: the first of these sections that lacks what it requires, the first of them standing at place `at`;
-- where none does, e, the token's length, for the missing section 14. In `finish_refuses_with_20`, `finish_in_numbers`.
abbrev pub lacking_at : ℕ → ℕ → List Section → ℕ
lacking_at e at [] = e
lacking_at e at (s ∷ ss) =
    elim (has_required s) [ true ↦ lacking_at e (at + length (write_parts (s.head ∷ s.subs))) ss | false ↦ at ]
