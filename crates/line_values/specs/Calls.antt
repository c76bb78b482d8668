-- What the call on a line of algebra refuses, answers and writes; s is the album's bytes, line those of the line, out what the result slice
-- holds on entry.
--     lacks_number       a number among tokens is that of no list of an album of so many
--     lacks_operand      an operand of the line, reached or not, is the number of no list of the album
--     line_rows          the refusals that the inputs alone decide, in their order: 12 and 13 go before 3
--     line_value         what the line's tree comes to over the album's lists
--     late_of            of a value: the refusal of its first refusing operation, or Ok
--     list_in            its list; none when refused
--     line_outcome k     the first of the rows that apply, and after them the number of the first refusing operation
--     line_answer k      the naive degree of the list that the tree comes to
--     line_written k     its words, zeros after them
-- Assumes nothing.
use Rattle.std.specs.Prelude.{Bool, false, not, ◌||◌, List, [], ◌∷◌, ℕ, eqb, leb, length, Ok, Err}
use Rattle.algebra.specs.PrimeField.{PrimeField}
use Rattle.refusal.specs.Limits.{max_lists}
use Rattle.refusal.specs.Refusal.{Reply, reply, written, Outcome}
use Rattle.refusal.specs.Lowest.{Condition, ◌given-when◌, lowest, or_else}
use Rattle.refusal.specs.declared.Refusal.TheVariants.{Count, Contents, Line, Nesting, Index, LooseWord, Misfit}
use Rattle.field.specs.Fields.{modulus, field_at, longest}
use Rattle.lists.specs.Degrees.{naive_degree}
use Rattle.lists.specs.Refused.{has_loose, any_of}
use Rattle.lists.specs.Padded.{padded}
use Rattle.album_layout.specs.Layout.{count, wrong_count, broken_layout, lists_of}
use Rattle.lines.specs.declared.Token.{Token}
use Rattle.lines.specs.declared.Token.TheVariants.{Number, Plus, Minus, Times, Derive, Open, Close, Wrong}
use Rattle.lines.specs.Grammar.{tokens}
use Rattle.lines.specs.Reader.{Reading, reads, outside, reading_of}
use Rattle.lines.specs.Lines.{outside_grammar, too_deep}
use Rattle.line_values.specs.Values.{Valued, value, refused, value_of}

unfoldable pub lacks_number : ℕ → List Token → Bool
lacks_number lists [] = false
lacks_number lists (Number n ∷ ts) = leb lists n || lacks_number lists ts
lacks_number lists (Plus ∷ ts) = lacks_number lists ts
lacks_number lists (Minus ∷ ts) = lacks_number lists ts
lacks_number lists (Times ∷ ts) = lacks_number lists ts
lacks_number lists (Derive ∷ ts) = lacks_number lists ts
lacks_number lists (Open ∷ ts) = lacks_number lists ts
lacks_number lists (Close ∷ ts) = lacks_number lists ts
lacks_number lists (Wrong ∷ ts) = lacks_number lists ts

unfoldable pub lacks_operand : (s line : List ℕ) → Bool
lacks_operand s line = lacks_number (count s) (tokens line)

unfoldable pub line_rows : (p most : ℕ) → (s line out : List ℕ) → List Condition
line_rows p most s line out =
    Count given-when wrong_count max_lists s ∷
    Contents given-when broken_layout s ∷
    Line given-when outside_grammar line ∷
    Nesting given-when too_deep line ∷
    Index given-when lacks_operand s line ∷
    LooseWord given-when any_of (has_loose p) (lists_of s) ∷
    Misfit given-when not (eqb (length out) most) ∷
    []

-- of a reading; the empty list where there is none, which 12 goes before
abbrev pub value_in : (F : PrimeField) (most : ℕ) → List (List ℕ) → Reading → Valued
value_in F most lists (reads e) = value_of F most lists e
value_in F most lists outside = value []

unfoldable pub line_value : (F : PrimeField) (most : ℕ) → (s line : List ℕ) → Valued
line_value F most s line = value_in F most (lists_of s) (reading_of (tokens line))

abbrev pub late_of : Valued → Outcome
late_of (value c) = Ok tt
late_of (refused why) = Err why

abbrev pub list_in : Valued → List ℕ
list_in (value c) = c
list_in (refused why) = []

abbrev pub line_outcome : (k : ℕ) → (s line out : List ℕ) → Outcome
line_outcome k s line out = or_else (lowest (line_rows (modulus k) (longest k) s line out)) (late_of (line_value (field_at k) (longest k) s line))

abbrev pub line_answer : (k : ℕ) → (s line out : List ℕ) → Reply
line_answer k s line out = reply (line_outcome k s line out) (naive_degree (list_in (line_value (field_at k) (longest k) s line)) ∷ [])

abbrev pub line_written : (k : ℕ) → (s line out : List ℕ) → List ℕ
line_written k s line out = written (line_outcome k s line out) (padded (longest k) (list_in (line_value (field_at k) (longest k) s line))) out
