-- Internal: the classes of characters, each numbered by its mark on the page (src/page.rt).
use Rattle.std.specs.Prelude.{Bool, true, false, ℕ}
use Rattle.format.specs.Forms.{between, letter, digit, rule_sign, label_sign, star, space}

-- a: a letter
abbrev pub letter_class : ℕ
letter_class = 0x61

-- d: a digit
abbrev pub digit_class : ℕ
digit_class = 0x64

-- h: hyphen and underscore
abbrev pub rule_class : ℕ
rule_class = 0x68

-- @: # $ @
abbrev pub label_class : ℕ
label_class = 0x40

-- *: a star
abbrev pub star_class : ℕ
star_class = 0x2A

-- s: a space
abbrev pub space_class : ℕ
space_class = 0x73

-- . : any other character
abbrev pub other_class : ℕ
other_class = 0x2E

-- the class k of a character that passes the test, else the class that later tests give
unfoldable pub pick : Bool → ℕ → ℕ → ℕ
pick true k later = k
pick false k later = later

-- the class of a character
unfoldable pub class_of : ℕ → ℕ
class_of b =
    pick (letter b) letter_class
    (pick (digit b) digit_class
    (pick (rule_sign b) rule_class
    (pick (label_sign b) label_class (pick (star b) star_class (pick (space b) space_class other_class)))))

-- the character is of one of the classes lo to hi
unfoldable pub of_class : ℕ → ℕ → ℕ → Bool
of_class lo hi b = between lo hi (class_of b)
