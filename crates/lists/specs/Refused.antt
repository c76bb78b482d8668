-- What a call refuses in the lists that it is handed, whatever it does with them.
--     wrong_length most c      refusal 4, length: the list has 0 words, or more than the limit
--     has_loose p c            refusal 5, loose word: a word of the list is p or more
--     any_of test lists        the test holds of a list among several
--     list_refusals p most     the rows of document 01's table for the lists that a call is handed
--     IsList p most c          a list that no call refuses: 1 to `most` words, each below p
-- Theorems (proofs/Judged):
--     judged                     the lowest number that applies, as the chain of tests that the code makes
--     one-listed, two-listed     the lists of a call that refuses nothing are such lists
--     one_passes                 such a list is not refused
-- Assumes nothing.
use Rattle.std.specs.Prelude.{Bool, false, ◌||◌, List, [], ◌∷◌, ℕ, ◌≤◌, ◌<◌, leb, ltb, eqb, length, get_or}
use Rattle.refusal.specs.Lowest.{Condition, ◌given-when◌}
use Rattle.refusal.specs.declared.Refusal.TheVariants.{Length, LooseWord}

unfoldable pub wrong_length : ℕ → List ℕ → Bool
wrong_length most c = eqb (length c) 0 || ltb most (length c)

unfoldable pub has_loose : ℕ → List ℕ → Bool
has_loose p [] = false
has_loose p (x ∷ c) = leb p x || has_loose p c

abbrev pub any_of : (List ℕ → Bool) → List (List ℕ) → Bool
any_of test [] = false
any_of test (c ∷ lists) = test c || any_of test lists

unfoldable pub list_refusals : ℕ → ℕ → List (List ℕ) → List Condition
list_refusals p most lists =
    Length given-when any_of (wrong_length most) lists ∷
    LooseWord given-when any_of (has_loose p) lists ∷
    []

pub record IsList (p most : ℕ) (c : List ℕ) : Type 0 where
  pub some : 0 < length c
  pub short : length c ≤ most
  pub words : (k : ℕ) → get_or c k 0 < p
