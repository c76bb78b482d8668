-- What the workers of the three calls tell.
--     bad_list        4 applies to a list, given as bytes
--     room_of         the words of a result slice, or a number that never fits where it is no result: odd, or more than `most` words
--     gcd_room        `most` words for h, or 0 where h or the answer does not fit
-- Assumes nothing.
use Rattle.std.specs.Prelude.{Bool, cond, ◌&&◌, ◌||◌, List, ℕ, ◌*◌, eqb, ltb, length}
use Rattle.lists.specs.Refused.{wrong_length}
use Rattle.lists.specs.Bytes.{odd_bytes, word_count, words_of}

unfoldable pub bad_list : ℕ → List ℕ → Bool
bad_list most s = odd_bytes s || wrong_length most (words_of s)

unfoldable pub room_of : (most never : ℕ) → List ℕ → ℕ
room_of most never s = cond (odd_bytes s || ltb most (word_count s)) never (word_count s)

unfoldable pub gcd_room : ℕ → (h answer : List ℕ) → ℕ
gcd_room most h answer = cond (eqb (length h) (2 * most) && eqb (length answer) 6) most 0
