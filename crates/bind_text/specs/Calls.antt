-- What making an album from a text refuses, answers and writes.
--     max_input         the most bytes of a text: 16 for each word of the largest album, where five digits and a space would do
--     text_refusals     1 for a wrong number of lines; 2 for a byte that no text has, or a text above max_input; 4 for a line of no words, or
--                      of more than a list may have
--     bind_rows         these; 5 for a number that is p or more; 10 for a target shorter than the largest album
--     bind_answer k     the number of bytes of the album; k is the number of a field
--     bind_written k    the album of the text's lists, at the front of the target
-- Assumes nothing.
use Rattle.std.specs.Prelude.{◌||◌, List, [], ◌∷◌, ◌++◌, ℕ, ◌*◌, ltb, length}
use Rattle.refusal.specs.Limits.{max_lists, max_words, max_bytes}
use Rattle.refusal.specs.Refusal.{Reply, reply, written}
use Rattle.refusal.specs.Lowest.{Condition, ◌given-when◌, lowest}
use Rattle.refusal.specs.declared.Refusal.TheVariants.{Count, Contents, Length, LooseWord, Misfit}
use Rattle.field.specs.Fields.{modulus}
use Rattle.lists.specs.Refused.{wrong_length, has_loose, any_of}
use Rattle.album_layout.specs.Written.{album_of}
use Rattle.album_writer.specs.Calls.{wrong_lists, over_front}
use Rattle.bind_text.specs.Text.{lines_of, lists_in, has_other}

abbrev pub max_input : ℕ
max_input = 16 * (max_lists * max_words)

unfoldable pub text_refusals : List ℕ → List Condition
text_refusals text =
    Count given-when wrong_lists (length (lines_of text)) ∷
    Contents given-when (ltb max_input (length text) || has_other text) ∷
    Length given-when any_of (wrong_length max_words) (lists_in text) ∷
    []

unfoldable pub bind_rows : ℕ → (text out : List ℕ) → List Condition
bind_rows p text out =
    text_refusals text ++ (LooseWord given-when any_of (has_loose p) (lists_in text) ∷ Misfit given-when ltb (length out) max_bytes ∷ [])

abbrev pub bind_answer : (k : ℕ) → (text out : List ℕ) → Reply
bind_answer k text out = reply (lowest (bind_rows (modulus k) text out)) (length (album_of (lists_in text)) ∷ [])

abbrev pub bind_written : (k : ℕ) → (text out : List ℕ) → List ℕ
bind_written k text out = written (lowest (bind_rows (modulus k) text out)) (over_front (album_of (lists_in text)) out) out
