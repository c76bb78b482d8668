-- The words of a product in whole numbers, and how the factors stand where it is formed by rows.
--     term_of a b k j                        word k of row j: word j of the first factor times word k - j of the second
--     word_sum a b k                         word k of the product of two lists
--     remainders p n a b                     the first n of these words, reduced
--     front b                                a list behind 15 zeros
--     Ready p a b w x                        the factors are laid: the first in x, with zeros behind it, the second in w
-- Theorems, each in the module of proofs/ that is named:
--     convolution-is     the words, reduced, are the product (Convolution)
--     ready              what the layout loops leave is laid (Laying)
--     rows_are           the rows of what is laid are these words modulo p (Laying)
-- Assumes nothing.
use Rattle.std.specs.Prelude.{List, ◌++◌, ℕ, suc, ◌-◌, ◌*◌, ◌%◌, length, get_or, replicate}
use Rattle.lists.specs.Tabulate.{tabulate}
use Rattle.lists.specs.Words.{ZeroFrom}
use Rattle.word_pairs.specs.Pairs.{Odd}
use Rattle.word_grid.specs.Grid.{Laid, sum_to}

unfoldable pub term_of : (a b : List ℕ) → (k j : ℕ) → ℕ
term_of a b k j = get_or a j 0 * get_or b (k - j) 0

unfoldable pub word_sum : (a b : List ℕ) → ℕ → ℕ
word_sum a b k = sum_to (suc k) (term_of a b k)

unfoldable pub remainders : (p n : ℕ) → (a b : List ℕ) → List ℕ
remainders p n a b = tabulate n (λ k. word_sum a b k % p)

unfoldable pub front : List ℕ → List ℕ
front b = replicate 15 0 ++ b

pub record Ready (p : ℕ) (a b w x : List ℕ) : Type 0 where
  pub odd : Odd w
  pub laid : Laid p a (front b) w x
  pub zero : ZeroFrom (length a) x
