-- The writer's calls on a lent draft: start and addition come to a refusal or to the bytes that the draft then begins with;
-- finish changes nothing and is an answer.
-- Beside 01: "Writer", 23 to 25. Here d is the lent draft.
use Rattle.std.specs.Prelude.{true, false, ◌&&◌, List, [], ◌∷◌, ◌++◌, ℕ, ◌+◌, leb, length, take, drop}
use Rattle.format.specs.Bytes.{big_endian}
use Rattle.format.specs.Layout.{Fields, fits}
use Rattle.format.specs.Parts.{Kind, layout, Part, size, written, joins, known_id}
use Rattle.format.specs.Rules.{longest, Section}
use Rattle.format.specs.Reading.{Outcome, refused, found, fault, need, and_then, id_of, stated, reading, parts_of, as_answer}
use Rattle.format.specs.Answers.{Answer}

-- the answer of a call that writes: the refusal, or the draft's length
abbrev pub write_answer : Outcome (List ℕ) → Answer
write_answer o = as_answer length o

-- what the lent draft then holds: the new bytes and after them what it held, or what it held
abbrev pub draft_after : Outcome (List ℕ) → List ℕ → List ℕ
draft_after (refused f) d = d
draft_after (found bs) d = bs ++ drop (length bs) d

-- starting writes the header: the written form of the identifier and no parts
unfoldable pub start : ℕ → List ℕ → Outcome (List ℕ)
start i d = need (leb 8 (length d)) (fault 23 0 0) (need (known_id i) (fault 2 0 0) (found (written i [])))

-- the draft longer by one part: the written form of its identifier, its parts and the added one
abbrev pub longer : List ℕ → List Section → Part → List ℕ
longer d ss p = written (id_of d) (parts_of ss ++ p ∷ [])

-- an addition: the draft's own fault; 24; 25; 23; then what reading the longer draft gives
unfoldable pub addition : Kind → Fields → List ℕ → Outcome (List ℕ)
addition k fs d =
    and_then (reading false d)
    (λ ss.
    let p : Part = record { kind = k; fields = fs } in
    need (fits [] (layout k) fs) (fault 24 (stated d) (stated d))
    (need (joins 0 (parts_of ss ++ p ∷ [])) (fault 25 (stated d) (stated d))
    (need (leb (stated d + size p) longest && leb (stated d + size p) (length d)) (fault 23 (stated d) (stated d))
    (and_then (reading false (longer d ss p)) (λ ts. found (longer d ss p))))))

-- finishing changes no byte: the draft's own fault, else the reading's 20, else the draft's length
unfoldable pub finish : List ℕ → Answer
finish d = as_answer (λ ss. stated d) (and_then (reading false d) (λ ss. reading true (take (stated d) d)))

-- ---- the values of each addition as the fields of its kind

-- The calls of these five kinds take numbers, each in a type as wide as its field; those of the other seven take bytes alone,
-- in 01's order

abbrev pub public_key_fields : ℕ → List ℕ → List ℕ → ℕ → Fields
public_key_fields bits exponent modulus flags = big_endian 2 bits ∷ exponent ∷ modulus ∷ big_endian 4 flags ∷ []

abbrev pub rule_fields : List ℕ → ℕ → ℕ → ℕ → ℕ → ℕ → Fields
rule_fields rule_id flags generated key_check symmetric asymmetric =
    rule_id
    ∷ big_endian 4 flags
    ∷ big_endian 1 generated
    ∷ big_endian 1 key_check
    ∷ big_endian 1 symmetric
    ∷ big_endian 1 asymmetric
    ∷ []

abbrev pub export_fields : ℕ → ℕ → List ℕ → List ℕ → Fields
export_fields minimum maximum variant vector = big_endian 1 minimum ∷ big_endian 1 maximum ∷ variant ∷ vector ∷ []

abbrev pub information_fields : ℕ → Fields
information_fields flags = big_endian 4 flags ∷ []

abbrev pub date_fields : ℕ → List ℕ → List ℕ → Fields
date_fields flags activation expiration = big_endian 2 flags ∷ activation ∷ expiration ∷ []
