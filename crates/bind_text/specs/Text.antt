-- What a text of numbers says: a list on each line, its words in decimal, one or more spaces between them.
--     parts b s          the parts of some bytes between those that are b; where b comes last, no part stands after it
--     lines_of text       the lines of a text: its parts between line ends (byte 0A)
--     fields_of line      the numbers of a line, as their digits: its parts between spaces that are not empty
--     value_of digits     the number that digits say in decimal; zeros in front are taken
--     list_of line        the list of a line: the numbers of its fields
--     lists_in text       the lists of a text, one for each line; an empty line is a list of no words
--     is_other b          a byte that no such text has: it is neither a digit nor a space nor a line end
--     has_other text      some byte is such
--     text_of lists       the text of lists: a line for each, its words in decimal, one space between them
-- Theorem (proofs/Text):
--     text-read          the text of lists that each have a word says these lists
-- Assumes nothing.
use Rattle.std.specs.Prelude.{Bool, false, cond, not, ◌||◌, ◌&&◌, List, [], ◌∷◌, ◌++◌, map, ℕ, ◌+◌, ◌-◌, ◌*◌, eqb, leb, length}
use Rattle.report_text.specs.Text.{decimal, line}

-- the bytes of a text, in ASCII
abbrev pub ⟨line-end⟩ : ℕ
⟨line-end⟩ = 10

abbrev pub ⟨space⟩ : ℕ
⟨space⟩ = 32

abbrev pub ⟨0⟩ : ℕ
⟨0⟩ = 48

abbrev pub ⟨9⟩ : ℕ
⟨9⟩ = 57

-- a byte in front of the first part
unfoldable pub onto : ℕ → List (List ℕ) → List (List ℕ)
onto x [] = (x ∷ []) ∷ []
onto x (part ∷ rest) = (x ∷ part) ∷ rest

unfoldable pub parts : ℕ → List ℕ → List (List ℕ)
parts b [] = []
parts b (x ∷ s) = cond (eqb x b) ([] ∷ parts b s) (onto x (parts b s))

unfoldable pub lines_of : List ℕ → List (List ℕ)
lines_of text = parts ⟨line-end⟩ text

-- the parts that are not empty
unfoldable pub filled_of : List (List ℕ) → List (List ℕ)
filled_of [] = []
filled_of (part ∷ rest) = cond (eqb (length part) 0) (filled_of rest) (part ∷ filled_of rest)

unfoldable pub fields_of : List ℕ → List (List ℕ)
fields_of line = filled_of (parts ⟨space⟩ line)

-- the number that n and further digits say
unfoldable pub value_from : ℕ → List ℕ → ℕ
value_from n [] = n
value_from n (x ∷ digits) = value_from (10 * n + (x - ⟨0⟩)) digits

unfoldable pub value_of : List ℕ → ℕ
value_of digits = value_from 0 digits

unfoldable pub list_of : List ℕ → List ℕ
list_of line = map value_of (fields_of line)

unfoldable pub lists_in : List ℕ → List (List ℕ)
lists_in text = map list_of (lines_of text)

unfoldable pub is_other : ℕ → Bool
is_other x = not (eqb x ⟨line-end⟩ || (eqb x ⟨space⟩ || (leb ⟨0⟩ x && leb x ⟨9⟩)))

unfoldable pub has_other : List ℕ → Bool
has_other [] = false
has_other (x ∷ text) = is_other x || has_other text

unfoldable pub text_of : List (List ℕ) → List ℕ
text_of [] = []
text_of (c ∷ lists) = line (map decimal c) ++ text_of lists
