-- What extent and trim answer and refuse: the rows of document 01's table for each call. f is the list that the call is handed, out what
-- the result slice holds on entry.
--     extent_reply                    what an extent's answer says: the extent, or no value for a zero list
--     searched_reply                  what the same answer says of the search: how many words it read
--     extent_values                   the extent of a list that is not zero; a zero list has none
--     extent_rows     of extent
--     trim_rows         all zero (9) where the list is zero; the result has the extent plus 1 words
--     extent_answer                    what a search for the extent answers
--     searched_answer                  what it answers of the words that it read: `searched`, the power plus 1, or n+1 for a zero list
--     trim_answer, trim_written        what a trim answers, and what its slice holds at the end
-- Assumes nothing.
use Rattle.std.specs.Prelude.{Result, Ok, Err, option_map, option_to_list, cond, not, List, [], ◌∷◌, ◌++◌, ℕ, eqb, length}
use Rattle.refusal.specs.Refusal.{Reply, number, reply, written}
use Rattle.field.specs.Fields.{modulus, field_at, longest}
use Rattle.lists.specs.Operations.{trim}
use Rattle.refusal.specs.Lowest.{Condition, ◌given-when◌, lowest}
use Rattle.refusal.specs.declared.Refusal.{Refusal}
use Rattle.refusal.specs.declared.Refusal.TheVariants.{AllZero, Misfit}
use Rattle.lists.specs.Degrees.{significant, extent, searched}
use Rattle.lists.specs.Refused.{list_refusals}
use Rattle.list_extent.specs.declared.Search.{Search}

abbrev pub extent_reply : Result Search Refusal → Reply
extent_reply (Ok search) = record { number = 0; values = option_to_list (option_map (λ e. e.0) search.extent) }
extent_reply (Err why) = record { number = number why; values = [] }

abbrev pub searched_reply : Result Search Refusal → Reply
searched_reply (Ok search) = record { number = 0; values = search.read.0 ∷ [] }
searched_reply (Err why) = record { number = number why; values = [] }

unfoldable pub extent_values : List ℕ → List ℕ
extent_values f = cond (eqb (significant f) 0) [] (extent f ∷ [])

unfoldable pub extent_rows : (p most : ℕ) → List ℕ → List Condition
extent_rows p most f = list_refusals p most (f ∷ [])

unfoldable pub trim_rows : (p most : ℕ) → (f out : List ℕ) → List Condition
trim_rows p most f out =
    list_refusals p most (f ∷ []) ++
    (AllZero given-when eqb (significant f) 0 ∷
    Misfit given-when not (eqb (length out) (significant f)) ∷
    [])

-- what a search for the extent answers, over field k
abbrev pub extent_answer : (k : ℕ) → List ℕ → Reply
extent_answer k f = reply (lowest (extent_rows (modulus k) (longest k) f)) (extent_values f)

-- what it answers of the words that it read; refused, nothing
abbrev pub searched_answer : (k : ℕ) → List ℕ → Reply
searched_answer k f = reply (lowest (extent_rows (modulus k) (longest k) f)) (searched f ∷ [])

-- what a trim answers and writes
abbrev pub trim_answer : (k : ℕ) → (f out : List ℕ) → Reply
trim_answer k f out = reply (lowest (trim_rows (modulus k) (longest k) f out)) []

abbrev pub trim_written : (k : ℕ) → (f out : List ℕ) → List ℕ
trim_written k f out = written (lowest (trim_rows (modulus k) (longest k) f out)) (trim (field_at k) f) out
