-- Internal: what the page of characters (src/page.rt) must be.
-- Beside 02, request 104: "Each entry is shown, once over all 256, to have exactly the marks 01 gives that value."
use Rattle.std.specs.Prelude.{◌≡◌, Bool, true, false, not, ◌&&◌, ◌||◌, List, [], ◌∷◌, ℕ, suc, eqb, length}
use Rattle.format.specs.Forms.{letter, digit, rule_sign, label_sign, star, space}
use Rattle.read_characters.specs.Classes.{letter_class, digit_class, rule_class, label_class, star_class, space_class, other_class}

-- both or neither
abbrev pub same : Bool → Bool → Bool
same x true = x
same x false = not x

-- the entry c has the marks of a character that is, or is not, a letter, a digit, a rule sign, a label sign, a star, a space
abbrev pub marks : ℕ → Bool → Bool → Bool → Bool → Bool → Bool → Bool
marks c l d r g t p =
    same (eqb c letter_class) l
    && same (eqb c digit_class) d
    && same (eqb c rule_class) r
    && same (eqb c label_class) g
    && same (eqb c star_class) t
    && same (eqb c space_class) p
    && same (eqb c other_class) (not (l || d || r || g || t || p))

-- it has exactly the marks that the format gives the byte value b
abbrev pub has_marks : ℕ → ℕ → Bool
has_marks b c = marks c (letter b) (digit b) (rule_sign b) (label_sign b) (star b) (space b)

-- so have the entries of the values from b on
abbrev pub have_marks : ℕ → List ℕ → Bool
have_marks b [] = true
have_marks b (c ∷ cs) = has_marks b c && have_marks (suc b) cs

-- 256 entries, each with the marks of its value
unfoldable pub is_page : List ℕ → Bool
is_page cs = eqb (length cs) 256 && have_marks 0 cs

-- the marks are the page's
abbrev pub IsPage : List ℕ → Type 0
IsPage cs = is_page cs ≡ true
