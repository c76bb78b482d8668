-- The layout of an album, byte by byte, and the lists that its bytes say.
--     count             byte 0: the number N of lists
--     entry_at           where entry k stands: after the count and k entries of entry_bytes bytes
--     degree_at          the naive degree that entry k names: its first two bytes
--     offset_at          the offset that entry k names: the two bytes after these
--     start_at           where body k has to start: after the contents and the bodies before it
--     offsets_agree      the first k entries name those places
--     degrees_fit        the first k entries name naive degrees of at most the limit
--     wrong_count        the album is empty, or its first byte is 0 or above the limit
--     broken_layout      the album breaks another rule: an entry names another place or a degree above the limit, or the album does not end
--                       with its last body
--     nth_list           the words of list k
--     lists_from         n lists, from number k on
--     lists_of           the lists of the album, in order
-- Assumes nothing.
use Rattle.std.specs.Prelude.{Bool, true, ◌&&◌, ◌||◌, not, List, [], ◌∷◌, ℕ, zero, suc, ◌+◌, ◌*◌, eqb, leb, ltb, length, get_or}
use Rattle.refusal.specs.Limits.{max_degree, entry_bytes}
use Rattle.lists.specs.Bytes.{word_at, words_at}

abbrev pub count : List ℕ → ℕ
count s = get_or s 0 0

abbrev pub entry_at : ℕ → ℕ
entry_at k = 1 + entry_bytes * k

abbrev pub degree_at : List ℕ → ℕ → ℕ
degree_at s k = word_at s (entry_at k)

abbrev pub offset_at : List ℕ → ℕ → ℕ
offset_at s k = word_at s (entry_at k + 2)

unfoldable pub start_at : List ℕ → ℕ → ℕ
start_at s zero = entry_at (count s)
start_at s (suc k) = start_at s k + 2 * (degree_at s k + 1)

unfoldable pub offsets_agree : List ℕ → ℕ → Bool
offsets_agree s zero = true
offsets_agree s (suc k) = eqb (offset_at s k) (start_at s k) && offsets_agree s k

unfoldable pub degrees_fit : ℕ → List ℕ → ℕ → Bool
degrees_fit most s zero = true
degrees_fit most s (suc k) = leb (degree_at s k) most && degrees_fit most s k

unfoldable pub wrong_count : ℕ → List ℕ → Bool
wrong_count most s = eqb (length s) 0 || (eqb (count s) 0 || ltb most (count s))

unfoldable pub broken_layout : List ℕ → Bool
broken_layout s = not (eqb (length s) (start_at s (count s)) && (offsets_agree s (count s) && degrees_fit max_degree s (count s)))

unfoldable pub nth_list : List ℕ → ℕ → List ℕ
nth_list s k = words_at s (start_at s k) (degree_at s k + 1)

unfoldable pub lists_from : List ℕ → (k n : ℕ) → List (List ℕ)
lists_from s k zero = []
lists_from s k (suc n) = nth_list s k ∷ lists_from s (suc k) n

unfoldable pub lists_of : List ℕ → List (List ℕ)
lists_of s = lists_from s 0 (count s)
