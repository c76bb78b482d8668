-- What writing the value of a line of algebra as text refuses, answers and writes. The input is a line, byte 0A, then the bytes of an album.
--     line_of input            the line: the bytes before the first byte 0A, all of them where there is none
--     album_in input            the album: the bytes behind it, none where there is none
--     text_for                  the text of an outcome: the words of the value in decimal, one space between them, or the refused line
--     value_text k s l          the text of the value of the line l over the album s; k is the number of a field
--     line_text k input         the text of the input's line over its album
--     line_text_rows            a slice of other than max_text bytes (10); a refused line or album is no refusal here: its text says so
--     line_text_answer k        the number of bytes of the text
--     line_text_written k       the text, zeros after it
-- Theorems, each in the module of proofs/ that is named:
--     parts_join                      a line without byte 0A, that byte and an album are read as this line and this album (Parts)
--     of-the-line, of-no-line-end     two texts, by computation (Examples)
-- Assumes nothing.
use Rattle.std.specs.Prelude.{cond, List, [], ◌∷◌, map, ℕ, eqb, length, replicate, Ok, Err}
use Rattle.refusal.specs.Refusal.{Reply, reply, written, Outcome}
use Rattle.refusal.specs.Lowest.{Condition, lowest}
use Rattle.field.specs.Fields.{field_at, longest}
use Rattle.lists.specs.Padded.{padded}
use Rattle.report_text.specs.Text.{decimal, line}
use Rattle.report_text.specs.Report.{refused_line}
use Rattle.report_text.specs.Calls.{max_text, report_rows}
use Rattle.line_values.specs.Calls.{line_value, list_in, line_outcome}

abbrev pub ⟨line-end⟩ : ℕ
⟨line-end⟩ = 10

unfoldable pub line_of : List ℕ → List ℕ
line_of [] = []
line_of (x ∷ input) = cond (eqb x ⟨line-end⟩) [] (x ∷ line_of input)

unfoldable pub album_in : List ℕ → List ℕ
album_in [] = []
album_in (x ∷ input) = cond (eqb x ⟨line-end⟩) input (album_in input)

-- c is the list of a value that is not refused
abbrev pub text_for : Outcome → (c : List ℕ) → List ℕ
text_for (Ok _) c = line (map decimal c)
text_for (Err why) c = refused_line why

-- the value is had in a slice that fits: misfit (10) is refused for the text's slice alone
unfoldable pub value_text : (k : ℕ) → (s l : List ℕ) → List ℕ
value_text k s l = text_for (line_outcome k s l (replicate (longest k) 0)) (list_in (line_value (field_at k) (longest k) s l))

unfoldable pub line_text : (k : ℕ) → (input : List ℕ) → List ℕ
line_text k input = value_text k (album_in input) (line_of input)

abbrev pub line_text_rows : List ℕ → List Condition
line_text_rows out = report_rows out

abbrev pub line_text_answer : (k : ℕ) → (input out : List ℕ) → Reply
line_text_answer k input out = reply (lowest (line_text_rows out)) (length (line_text k input) ∷ [])

abbrev pub line_text_written : (k : ℕ) → (input out : List ℕ) → List ℕ
line_text_written k input out = written (lowest (line_text_rows out)) (padded max_text (line_text k input)) out
