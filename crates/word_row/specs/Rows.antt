-- A row on words, for every input.
--     row_at p x m y i           word i of x + m · y modulo p, where y reaches; else word i of x
--     row p x m y               the words of x + m · y
--     minus_product p a m       -a · m modulo p
--     Partway p old m y x i     the words of x below i are those of the row, and the rest is as it was
--     row_from p k x m y        the words of x + m · u^k · y: the row step from word k on
-- Theorems (proofs/RowWords):
--     row_within, row-beyond                        a word of a row, where y reaches and where it does not
--     row_from-low, row_from-at, row_from-above     a word of the row step from word k on
-- Assumes nothing.
use Rattle.std.specs.Prelude.{◌≡◌, ℕ, ◌+◌, ◌-◌, ◌*◌, ◌%◌, ◌<◌, ◌≤◌, cond, List, ◌++◌, length, take, drop, nat_lt, slice_index}
use Rattle.lists.specs.Tabulate.{tabulate}

unfoldable pub row_at : (p : ℕ) → List ℕ → ℕ → List ℕ → ℕ → ℕ
row_at p x m y i = cond (nat_lt i (length y)) ((slice_index x i + m * slice_index y i) % p) (slice_index x i)

unfoldable pub row : (p : ℕ) → List ℕ → ℕ → List ℕ → List ℕ
row p x m y = tabulate (length x) (row_at p x m y)

unfoldable pub minus_product : (p a m : ℕ) → ℕ
minus_product p a m = (p - a * m % p) % p

pub record Partway (p : ℕ) (old : List ℕ) (m : ℕ) (y x : List ℕ) (i : ℕ) : Type 0 where
  pub size : length x ≡ length old
  pub done : (j : ℕ) → j < i → slice_index x j ≡ row_at p old m y j
  pub rest : (j : ℕ) → i ≤ j → slice_index x j ≡ slice_index old j

unfoldable pub row_from : (p k : ℕ) → List ℕ → ℕ → List ℕ → List ℕ
row_from p k x m y = take k x ++ row p (drop k x) m y
