-- The two counters of a list of words c_0 to c_n: its naive degree and its extent. They are never confused: the code has a struct for each.
--     naive_degree c         document 01's naive degree, n
--     significant_in n c     the number of words up to the last one that is not 0, among the first n
--     significant c          the same among all: the extent plus 1, and 0 for a zero list
--     extent c               document 01's extent of a list that is not zero: the largest k with c_k not 0
--     power c                document 01's power of a list that is not zero: n minus the extent
--     searched c             order 3: how many words the search for the extent reads: the power plus 1, or all n+1 of a zero list
-- Theorems (proofs/Extents):
--     extent-largest          the extent is the largest k whose word is not 0
--     power-exact             the power is the exact number of factors 1-t of the meaning
--     extent-searched         the words from c_extent on are as many as the search reads
--     significant-is-size     the number of significant words is the size of the scaled form
-- Assumes nothing.
use Rattle.std.specs.Prelude.{cond, List, ℕ, zero, suc, ◌-◌, eqb, get_or, length}

unfoldable pub naive_degree : List ℕ → ℕ
naive_degree c = length c - 1

-- among the first n words
unfoldable pub significant_in : ℕ → List ℕ → ℕ
significant_in zero c = 0
significant_in (suc n) c = cond (eqb (get_or c n 0) 0) (significant_in n c) (suc n)

unfoldable pub significant : List ℕ → ℕ
significant c = significant_in (length c) c

unfoldable pub extent : List ℕ → ℕ
extent c = significant c - 1

unfoldable pub power : List ℕ → ℕ
power c = naive_degree c - extent c

unfoldable pub searched : List ℕ → ℕ
searched c = cond (eqb (significant c) 0) (length c) (suc (power c))
