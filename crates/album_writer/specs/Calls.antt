-- What writing an album refuses, answers and writes. The words of all lists stand one after the other; degrees are the lists' naive degrees.
--     wrong_lists          a number of lists that no album has: 0, or above the limit
--     has_high most        a degree is above the limit
--     write_rows           1 for a wrong number of degrees, 2 for a degree above the limit, 4 where the words are not as many as each degree
--                         plus 1 together, 5 for a loose word, 10 for a target shorter than the largest album; a longer one is taken
--     over_front           what a target holds with new bytes at its front: every byte after them is what it was
--     write_answer k       the number of bytes of the album; k is the number of a field
--     write_written k      the album of the lists, at the front of the target
--     written_reply        what the answer says: the number of bytes
-- Assumes nothing.
use Rattle.refusal.specs.declared.Refusal.{Refusal}
use Rattle.std.specs.Prelude.{Bool, false, not, ◌||◌, List, [], ◌∷◌, ◌++◌, ℕ, eqb, ltb, length, drop, Result}
use Rattle.refusal.specs.Limits.{max_degree, max_lists, max_bytes}
use Rattle.refusal.specs.Refusal.{Reply, reply, written, value_reply}
use Rattle.refusal.specs.Lowest.{Condition, ◌given-when◌, lowest}
use Rattle.refusal.specs.declared.Refusal.TheVariants.{Count, Contents, Length, LooseWord, Misfit}
use Rattle.field.specs.Fields.{modulus}
use Rattle.lists.specs.Refused.{has_loose}
use Rattle.album_layout.specs.Written.{album_of}
use Rattle.album_writer.specs.Cut.{words_for, cut_by}

unfoldable pub wrong_lists : ℕ → Bool
wrong_lists n = eqb n 0 || ltb max_lists n

unfoldable pub has_high : ℕ → List ℕ → Bool
has_high most [] = false
has_high most (d ∷ degrees) = ltb most d || has_high most degrees

unfoldable pub write_rows : ℕ → (words degrees out : List ℕ) → List Condition
write_rows p words degrees out =
    Count given-when wrong_lists (length degrees) ∷
    Contents given-when has_high max_degree degrees ∷
    Length given-when not (eqb (length words) (words_for degrees)) ∷
    LooseWord given-when has_loose p words ∷
    Misfit given-when ltb (length out) max_bytes ∷
    []

abbrev pub over_front : (new old : List ℕ) → List ℕ
over_front new old = new ++ drop (length new) old

abbrev pub write_answer : (k : ℕ) → (words degrees out : List ℕ) → Reply
write_answer k words degrees out = reply (lowest (write_rows (modulus k) words degrees out)) (length (album_of (cut_by degrees words)) ∷ [])

abbrev pub write_written : (k : ℕ) → (words degrees out : List ℕ) → List ℕ
write_written k words degrees out =
    written (lowest (write_rows (modulus k) words degrees out)) (over_front (album_of (cut_by degrees words)) out) out

abbrev pub written_reply : Result ℕ Refusal → Reply
written_reply = value_reply (λ size. size)
