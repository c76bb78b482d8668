-- What writing the report on an album refuses, answers and writes; s is the album's bytes.
--     max_text             the result slice's bytes, more than the longest report has: a word of h takes at most six, five digits and a
--                         space, and the other lines take less than two for each word of the longest list
--     report_rows          a slice of other than so many bytes (10); a refused album is no refusal here: its report says so
--     report_answer k      the number of bytes of the report; k is the number of a field
--     report_written k     the report, zeros after it
--     text_reply           what the answer says: the number of bytes of the text
-- Assumes nothing.
use Rattle.refusal.specs.declared.Refusal.{Refusal}
use Rattle.std.specs.Prelude.{not, List, [], ◌∷◌, ℕ, ◌*◌, eqb, length, Result}
use Rattle.refusal.specs.Limits.{max_words}
use Rattle.refusal.specs.Refusal.{Reply, reply, written, value_reply}
use Rattle.refusal.specs.Lowest.{Condition, ◌given-when◌, lowest}
use Rattle.refusal.specs.declared.Refusal.TheVariants.{Misfit}
use Rattle.field.specs.Fields.{modulus, field_at}
use Rattle.lists.specs.Padded.{padded}
use Rattle.report_text.specs.Report.{report_of}

abbrev pub max_text : ℕ
max_text = 8 * max_words

unfoldable pub report_rows : List ℕ → List Condition
report_rows out = Misfit given-when not (eqb (length out) max_text) ∷ []

abbrev pub report_answer : (k : ℕ) → (s out : List ℕ) → Reply
report_answer k s out = reply (lowest (report_rows out)) (length (report_of (modulus k) (field_at k) s) ∷ [])

abbrev pub report_written : (k : ℕ) → (s out : List ℕ) → List ℕ
report_written k s out = written (lowest (report_rows out)) (padded max_text (report_of (modulus k) (field_at k) s)) out

abbrev pub text_reply : Result ℕ Refusal → Reply
text_reply = value_reply (λ size. size)
