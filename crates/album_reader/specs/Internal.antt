-- What the functions find and hold that work on the lists of an album; s is its bytes, and out the slice that a list is read to.
--     words_read    the number of words that entry i names; 0 where the slice is too short for them
--     left_at       these words, zeros after them; what the slice held where it is too short
--     Held         x is a slice of `most` words that holds a list of n words, which no call refuses, and zeros after it
-- Theorem: read_held, in an album that passed, list i is read so that the slice holds it.
-- Assumes nothing.
use Rattle.std.specs.Prelude.{◌≡◌, cond, List, ℕ, ltb, length}
use Rattle.lists.specs.Bytes.{word_count, words_of}
use Rattle.lists.specs.Refused.{IsList}
use Rattle.lists.specs.Padded.{padded}
use Rattle.album_layout.specs.Internal.{body_at}

unfoldable pub words_read : List ℕ → ℕ → List ℕ → ℕ
words_read s i out = cond (ltb (length out) (word_count (body_at s i))) 0 (word_count (body_at s i))

unfoldable pub left_at : List ℕ → ℕ → List ℕ → List ℕ
left_at s i out = cond (ltb (length out) (word_count (body_at s i))) out (padded (length out) (words_of (body_at s i)))

pub record Held (p most : ℕ) (x : List ℕ) (n : ℕ) (c : List ℕ) : Type 0 where
  pub listed : IsList p most c
  pub words : n ≡ length c
  pub slice : x ≡ padded most c
