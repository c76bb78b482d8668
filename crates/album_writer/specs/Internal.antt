-- What the functions need and write that work on an album to be written, where nothing is refused.
--     entries_by       the entries of lists of given naive degrees whose first body starts at a place, two words each
--     Low              no degree is above the limit
--     album_by         the album, from the degrees and the words
--     Room             a slice that just holds it
-- Theorem (proofs/Cut):
--     album-is        it is the album of the lists that the degrees cut from the words
-- Assumes nothing.
use Rattle.std.specs.Prelude.{◌≡◌, List, [], ◌∷◌, ◌++◌, ℕ, ◌+◌, ◌*◌, ◌≤◌, length, get_or}
use Rattle.refusal.specs.Limits.{max_degree, max_lists, max_words}
use Rattle.lists.specs.Bytes.{bytes_of}
use Rattle.album_layout.specs.Layout.{entry_at}

unfoldable pub entries_by : ℕ → List ℕ → List ℕ
entries_by at [] = []
entries_by at (d ∷ degrees) = d ∷ at ∷ entries_by (at + 2 * (d + 1)) degrees

abbrev pub Low : List ℕ → Type 0
Low degrees = (k : ℕ) → get_or degrees k 0 ≤ max_degree

unfoldable pub album_by : (words degrees : List ℕ) → List ℕ
album_by words degrees = length degrees ∷ bytes_of (entries_by (entry_at (length degrees)) degrees) ++ bytes_of words

pub record Room (words degrees out : List ℕ) : Type 0 where
  pub few : length degrees ≤ max_lists
  pub low : Low degrees
  pub short : length words ≤ max_lists * max_words
  pub size : length out ≡ entry_at (length degrees) + 2 * length words
