-- The listing of a token, from what reading it into a table answers and leaves there.
use Rattle.std.proofs.Common.{◌≡◌, true, ℕ, ◌*◌, ◌≤◌, List, [], ◌++◌, arith, length, refl, sym, ap, ap₂, ◌∙◌, append-nil}
use Rattle.format.specs.Bytes.{Bytes}
use Rattle.format.specs.Rules.{Section}
use Rattle.format.specs.Legal.{Legal}
use Rattle.format.specs.Reading.{Outcome, Fault, refused, found, id_of, reading, parts_of, row_count, as_answer, answer}
use Rattle.format.specs.Table.{rows, columns, table_reading, table_answer, table_after}
use Rattle.format.specs.Lines.{first_line}
use Rattle.format.specs.Answers.{Answer, Accepted, Refused}
use Rattle.format.specs.declared.Row.{Row}
use Rattle.format.proofs.Accepted.{legal_read}
use Rattle.format.proofs.Tests.{then_refused}
use Rattle.format.proofs.Viewing.{legal_parts, read_parts}
use Rattle.format.proofs.Main.{accepted_exactly_when_legal, accepted_into_table, table_holds_rows}
use Rattle.list_token.specs.Listing.{rows_read, row_lines, table_lines, listing}
use Rattle.list_token.proofs.Lines.{rows_lines}

-- from the answer and the rows
listed : (bs : List ℕ) (a : Answer) (rs : List Row) → answer bs ≡ a → rows_read bs ≡ rs
    → listing bs ≡ first_line (id_of bs) (length bs) a ++ row_lines 0 rs
unfolding listing
listed bs a rs e f = ap₂ (λ x xs. first_line (id_of bs) (length bs) x ++ row_lines 0 xs) e f

-- the rows of what was read
rows_of : (bs : List ℕ) {o : Outcome (List Section)} → reading true bs ≡ o
    → rows_read bs ≡ elim o as (λ y. List Row) [ refused f ↦ [] | found ss ↦ rows (parts_of ss) ]
rows_of bs e = ap (λ o. elim o as (λ y. List Row) [ refused f ↦ [] | found ss ↦ rows (parts_of ss) ]) e

-- an accepted token: the first line and those of the table's rows, which have room in it
pub accepted_listing : (bs t : List ℕ) (n : ℕ) → Bytes bs → table_answer bs t ≡ Accepted n
    → (listing bs ≡ first_line (id_of bs) (length bs) (Accepted n) ++ table_lines (table_after bs t) 0 n) × (columns * n ≤ length t)
accepted_listing bs t n b e =
    let w = (accepted_into_table bs t n b).0 e in
    let l = w.0 in
    let room : columns * length (rows l.parts) ≤ length t = (let same = w.1 in let fits = w.2 in omega arith) in
    let told : answer bs ≡ Accepted n = (accepted_exactly_when_legal bs n b).1 (l, w.1) in
    let lines : table_lines (table_after bs t) 0 n ≡ row_lines 0 (rows l.parts) =
    ap (table_lines (table_after bs t) 0) w.1 ∙ rows_lines (table_after bs t) _ 0 (rows l.parts) (table_holds_rows bs t l room) in (
      listed bs (Accepted n) (rows l.parts) told (rows_of bs (legal_read bs l) ∙ ap rows (legal_parts bs l))
          ∙ ap (λ xs. first_line (id_of bs) (length bs) (Accepted n) ++ xs) (sym lines),
      w.2,
    )

-- a fault is answered alike with a table and without
own_answer : (bs t : List ℕ) (f : Fault) → reading true bs ≡ refused f → answer bs ≡ table_answer bs t
unfolding answer table_answer table_reading as_answer
own_answer bs t f e = ap (as_answer row_count) e ∙ sym (ap (as_answer row_count) (then_refused _ e))

-- a refused one, where the table would have room: the first line
pub refused_listing : (bs t : List ℕ) (n p : ℕ) → Bytes bs → ((l : Legal bs) → columns * length (rows l.parts) ≤ length t)
    → table_answer bs t ≡ Refused n p → listing bs ≡ first_line (id_of bs) (length bs) (Refused n p)
refused_listing bs t n p b room e = go (reading true bs) refl
  where
    go : (o : Outcome (List Section)) → reading true bs ≡ o → listing bs ≡ first_line (id_of bs) (length bs) (Refused n p)
    go (refused f) r = listed bs (Refused n p) [] (own_answer bs t f r ∙ e) (rows_of bs r) ∙ append-nil _
    go (found ss) r =
        let l = (read_parts bs ss b r).0 in
        let a : table_answer bs t ≡ Accepted (length (rows l.parts)) = (accepted_into_table bs t _ b).1 (l, refl, room l) in
        let z : ◌≡◌ {A = ℕ} 0 1 = cc in
        absurd (omega arith)
