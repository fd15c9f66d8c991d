-- The starred examples hold, and the smallest token is legal; its listing, and the spring bill's token.
use mathlib.Core.Path.{◌≡◌, refl}
use mathlib.Core.List.{List, [], ◌∷◌, ◌++◌}
use Prim.Native.Nat.{ℕ, suc}
use lib.Dec.{lit<, lit≤}
use lib.ListN.{replicate}
use Rattle.format.specs.Parts.{Part, information, protection}
use Rattle.format.specs.Legal.{Legal}
use Rattle.format.specs.Table.{rows, table_reading, table_after}
use Rattle.format.specs.Lines.{text, first_line, row_line}
use Rattle.format.specs.Answers.{Refused}
use Rattle.format.specs.declared.Row.{Row}
use Rattle.format.specs.Bytes.{All, number, bytes_at, all_zero, same_bytes}
use Rattle.format.specs.Forms.{rule_id_form, rule_id_reach, label_form, label_reach, date_exists, modulus_form, exponent_form}
use Rattle.format.specs.Reading.{answer, as_answer, reading, sections, section, section_rest, after_subsections, subsections, subsection, tested, need, and_then}
use Rattle.format.proofs.Numbers.{bytes_zeros}
use Rattle.format.specs.Examples.{token_t, Holds, starred, spring_token}
use Rattle.format.specs.PlaceExamples.{places_read}
use Rattle.format.specs.TableExamples.{two_rules, two_rules_table}

pub starred_hold : All Holds starred
unfolding answer as_answer reading sections section section_rest after_subsections subsections subsection tested need and_then number bytes_at all_zero same_bytes date_exists rule_id_form rule_id_reach
starred_hold = (refl, (refl, (refl, (refl, (refl, (λ b. refl, (refl, (refl, (refl, (refl, (refl, tt)))))))))))

pub places_read_is : All Holds places_read
unfolding answer as_answer reading sections section section_rest after_subsections subsections subsection tested need and_then number bytes_at all_zero same_bytes rule_id_form rule_id_reach label_form label_reach modulus_form exponent_form
places_read_is = (refl, (refl, (refl, (refl, (refl, (refl, (refl, (refl, (refl, (refl, (refl, (refl, (refl, (refl, (refl, (refl, (refl, (refl, (refl, (refl, (refl, (refl, (refl, (refl, (refl, (refl, (refl, (refl, (refl, (refl, (refl, (refl, (refl, (refl, (refl, (refl, tt))))))))))))))))))))))))))))))))))))

-- the parts of the smallest token
abbrev pub parts_t : List Part
parts_t =
    record { kind = information; fields = replicate 4 0 ∷ [] }
    ∷ record { kind = protection; fields = replicate 32 0 ∷ replicate 8 0 ∷ replicate 16 0 ∷ [] }
    ∷ []

-- the lines of rows, numbered from n on
abbrev row_lines : ℕ → List Row → List ℕ
row_lines n [] = []
row_lines n (r ∷ rs) = row_line n r ++ row_lines (suc n) rs

-- the listing of the smallest token, line by line
pub listing_T :
    first_line 0x1E 80 (answer token_t) ++ row_lines 0 (rows parts_t)
    ≡ text "token external 80 bytes 2 rows\n0 14 - 8 72 0 0\n1 14 0001 18 62 0 0\n"
unfolding answer as_answer reading sections section section_rest after_subsections subsections subsection tested need and_then number bytes_at all_zero same_bytes first_line row_line
listing_T = refl

-- the table of the token with two rules, lent with room for two numbers more, and what stood in those
pub table_read : table_after two_rules (replicate 32 9) ≡ two_rules_table ++ (9 ∷ 9 ∷ [])
unfolding table_after table_reading reading sections section section_rest after_subsections subsections subsection tested need and_then number bytes_at all_zero same_bytes rule_id_form
table_read = refl

-- The spring bill's token is refused.
pub spring_refused : answer spring_token ≡ Refused 12 102
unfolding answer as_answer reading sections section section_rest after_subsections subsections subsection tested need and_then number bytes_at all_zero same_bytes rule_id_form
spring_refused = refl

-- The smallest token is legal, and its parts are those two.
pub legal_T : Legal token_t
unfolding number all_zero
legal_T = record {
  id = 0x1E;
  parts = parts_t;
  form = record {
    choice = record { identifier = lit< tt; bytes = ((bytes_zeros 4, tt), ((bytes_zeros 32, (bytes_zeros 8, (bytes_zeros 16, tt))), tt)); fit = (refl, (refl, tt)); joined = refl };
    parts = (lit< tt, (lit< tt, tt));
    whole = lit< tt;
    same = refl;
  };
  at_least = lit≤ tt;
  at_most = lit≤ tt;
  lawful = record {
    identifier = refl;
    fields = ((refl, tt), ((refl, tt), tt));
    sections = (tt, tt);
    tags = ((tt, tt), tt);
    masks = (refl, tt);
  };
  complete = record { section14 = refl; within = (refl, tt) };
}
