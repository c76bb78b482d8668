-- Writing an album and reading it, in terms of what the calls answer and write.
--     ReadBack         the bytes s, written from words and degrees, and read: s has a list for each degree; of list i `check` refuses
--                      nothing, and `read_list` answers its naive degree and writes its words, zeros after them; and s is `size` bytes long
--     WrittenAgain     the album s, written again from the words and the degrees of its own lists: the answer is its length, and its bytes
--                      stand at the front of the target, which is otherwise as it was
-- Theorems (proofs/RoundTrip):
--     written-then-read     what `write_album` writes is read back
--     read-then-written     an album that the reader accepts is written again, byte for byte
-- Assumes nothing.
use Rattle.std.specs.Prelude.{◌≡◌, List, [], ◌∷◌, map, ℕ, ◌<◌, length, get_or, Ok}
use Rattle.refusal.specs.Limits.{max_words}
use Rattle.refusal.specs.Refusal.{reply}
use Rattle.lists.specs.Degrees.{naive_degree}
use Rattle.lists.specs.Padded.{padded}
use Rattle.album_layout.specs.Layout.{count, lists_of}
use Rattle.album_layout.specs.Calls.{check_answer}
use Rattle.album_reader.specs.Calls.{read_answer, read_written}
use Rattle.album_writer.specs.Cut.{cut_by, joined}
use Rattle.album_writer.specs.Calls.{over_front, write_answer, write_written}

pub record ReadBack (words degrees s : List ℕ) (size : ℕ) : Type 0 where
  pub lists : lists_of s ≡ cut_by degrees words
  pub number : count s ≡ length degrees
  pub checked : (i : ℕ) → i < length degrees → check_answer 0 s i ≡ reply (Ok tt) []
  pub degree : (i : ℕ) → i < length degrees → (out : List ℕ) → length out ≡ max_words → read_answer 0 s i out ≡ reply (Ok tt) (get_or degrees i 0 ∷ [])
  pub read : (i : ℕ) → i < length degrees → (out : List ℕ) → length out ≡ max_words
      → read_written 0 s i out ≡ padded max_words (get_or (cut_by degrees words) i [])
  pub whole : length s ≡ size

pub record WrittenAgain (s out : List ℕ) : Type 0 where
  pub answer : write_answer 0 (joined (lists_of s)) (map naive_degree (lists_of s)) out ≡ reply (Ok tt) (length s ∷ [])
  pub bytes : write_written 0 (joined (lists_of s)) (map naive_degree (lists_of s)) out ≡ over_front s out
