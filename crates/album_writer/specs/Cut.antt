-- Several lists in one buffer of words, told by their naive degrees.
--     words_for degrees       the number of words that lists of these naive degrees have together: each degree plus 1
--     cut_by degrees words    the lists: each takes its degree plus 1 words of the buffer, one after the other
--     joined lists            the words of the lists, one after the other
-- Theorems (proofs/Cut):
--     joined-cut     words that are as many as the degrees say are those of the lists cut from them
--     degrees-cut    the naive degrees of these lists are the given ones
--     cut-joined     lists of at least one word are cut from their own words by their own naive degrees
-- Assumes nothing.
use Rattle.std.specs.Prelude.{List, [], ◌∷◌, ◌++◌, ℕ, ◌+◌, take, drop}

unfoldable pub words_for : List ℕ → ℕ
words_for [] = 0
words_for (d ∷ degrees) = d + 1 + words_for degrees

unfoldable pub cut_by : (degrees words : List ℕ) → List (List ℕ)
cut_by [] words = []
cut_by (d ∷ degrees) words = take (d + 1) words ∷ cut_by degrees (drop (d + 1) words)

unfoldable pub joined : List (List ℕ) → List ℕ
joined [] = []
joined (c ∷ lists) = c ++ joined lists
