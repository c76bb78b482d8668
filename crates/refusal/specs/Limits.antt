-- The limits of lists, albums and lines of algebra. Definitions and laws take a limit as a parameter; contracts name it from here.
--     max_degree     the largest naive degree of a list
--     max_words      the largest number of words of a list
--     few_words      the number of words of a small buffer
--     max_lists      the largest number of lists of an album
--     entry_bytes    the number of bytes of an album's entry
--     max_bytes      the largest number of bytes of an album
--     max_line       the largest number of bytes of a line of algebra
--     max_open       the largest number of parentheses that are open together in it
-- Assumes nothing.
use Rattle.std.specs.Prelude.{ℕ, ◌+◌, ◌*◌}

abbrev pub max_degree : ℕ
max_degree = 1023

abbrev pub max_words : ℕ
max_words = 1024

abbrev pub few_words : ℕ
few_words = 256

abbrev pub max_lists : ℕ
max_lists = 16

abbrev pub entry_bytes : ℕ
entry_bytes = 4

-- the count, and for each list an entry and a body of words of 2 bytes: 32,833
abbrev pub max_bytes : ℕ
max_bytes = 1 + max_lists * (entry_bytes + 2 * max_words)

abbrev pub max_line : ℕ
max_line = 256

abbrev pub max_open : ℕ
max_open = 32
