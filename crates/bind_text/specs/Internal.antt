-- What the functions behind a text need and find.
--     lines_left         the lines that an iterator over a text's lines has left
--     words_left         the numbers that an iterator over a line's numbers has left, as their digits
--     capped n           a number as a word: the largest word where it is larger, and so as loose as the number is
--     Sound              a text that is not refused with 1 or 4
--     Loaded             n words and the degrees of a text's lists stand at the front of two buffers
-- Assumes nothing.
use Rattle.std.specs.Prelude.{◌≡◌, false, List, map, ℕ, ◌≤◌, min, length, take}
use Rattle.refusal.specs.Limits.{max_lists, max_words}
use Rattle.lists.specs.Degrees.{naive_degree}
use Rattle.lists.specs.Refused.{wrong_length, any_of}
use Rattle.album_writer.specs.Cut.{joined}
use Rattle.bind_text.specs.declared.Lines.{Lines}
use Rattle.bind_text.specs.declared.Words.{Words}
use Rattle.bind_text.specs.Text.{lines_of, fields_of, lists_in}

abbrev pub lines_left : Lines → List (List ℕ)
lines_left s = lines_of s.0.now

abbrev pub words_left : Words → List (List ℕ)
words_left s = fields_of s.0.now

abbrev pub capped : ℕ → ℕ
capped n = min n 65535

pub record Sound (text : List ℕ) : Type 0 where
  pub few : length (lines_of text) ≤ max_lists
  pub each : any_of (wrong_length max_words) (lists_in text) ≡ false

pub record Loaded (text words degrees : List ℕ) (n : ℕ) : Type 0 where
  pub size : n ≡ length (joined (lists_in text))
  pub read : take n words ≡ map capped (joined (lists_in text))
  pub told : take (length (lines_of text)) degrees ≡ map naive_degree (lists_in text)
