-- Words as bytes: two bytes to a word, low byte first.
--     byte_values         the number of values of a byte
--     Bytes s             every number of a list is a byte
--     word_at s at        the word at a place of some bytes
--     words_at s at n     n words that stand one after the other from a place on
--     odd_bytes s         the number of bytes is odd, so they are no words
--     word_count s        the number of whole words
--     words_of s          the words of some bytes
--     bytes_of words      the bytes of some words
-- Theorems (proofs/Bytes):
--     words-of-bytes     the bytes of some words read back as these words
--     bytes-words        the bytes of words of 16 bits are bytes
-- Assumes nothing.
use Rattle.std.specs.Prelude.{Bool, List, [], ◌∷◌, ℕ, ◌+◌, ◌*◌, ◌/◌, ◌%◌, ◌<◌, eqb, length, get_or}
use Rattle.lists.specs.Tabulate.{tabulate}

abbrev pub byte_values : ℕ
byte_values = 256

abbrev pub Bytes : List ℕ → Type 0
Bytes s = (k : ℕ) → get_or s k 0 < byte_values

abbrev pub word_at : List ℕ → ℕ → ℕ
word_at s at = get_or s at 0 + byte_values * get_or s (at + 1) 0

unfoldable pub words_at : List ℕ → (at n : ℕ) → List ℕ
words_at s at n = tabulate n (λ j. word_at s (at + 2 * j))

unfoldable pub odd_bytes : List ℕ → Bool
odd_bytes s = eqb (length s % 2) 1

unfoldable pub word_count : List ℕ → ℕ
word_count s = length s / 2

unfoldable pub words_of : List ℕ → List ℕ
words_of s = words_at s 0 (word_count s)

unfoldable pub bytes_of : List ℕ → List ℕ
bytes_of [] = []
bytes_of (w ∷ words) = w % byte_values ∷ w / byte_values ∷ bytes_of words
