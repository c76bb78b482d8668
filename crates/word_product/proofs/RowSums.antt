-- A word of the product as a sum of its rows.
--     dot-start, dot-next, dot-end     before the first row that has a word there, one row more, and after the last
-- Assumes nothing.
use mathlib.Core.Path.{◌≡◌, ap, ◌∙◌}
use mathlib.Core.List.{List}
use Prim.Native.Nat.{ℕ, suc, ◌+◌, ◌-◌, ◌*◌, ◌≤◌, min}
use native.Mathlib.Nat.{mul-zero, zero-mul}
use native.Mathlib.Numerals.{add-one}
use native.Mathlib.Omega.{arith}
use lib.ListN.{length, get_or, get_or-eq_default}
use Rattle.word_grid.specs.Grid.{sum_to}
use Rattle.word_grid.proofs.Rows.{sum-zero, sum_more}
use Rattle.word_product.specs.Sums.{term_of, word_sum}

pub second-out : (a b : List ℕ) (k j : ℕ) → length b ≤ k - j → term_of a b k j ≡ 0
unfolding term_of
second-out a b k j h = ap (λ y. get_or a j 0 * y) (get_or-eq_default b 0 h) ∙ mul-zero _

pub first_out : (a b : List ℕ) (k j : ℕ) → length a ≤ j → term_of a b k j ≡ 0
unfolding term_of
first_out a b k j h = ap (λ x. x * get_or b (k - j) 0) (get_or-eq_default a 0 h) ∙ zero-mul _

pub dot-start : (a b : List ℕ) (k i : ℕ) → i ≡ k + 1 - length b → sum_to i (term_of a b k) ≡ 0
dot-start a b k i e = sum-zero i _ (λ j h. second-out a b k j (omega arith))

pub dot-next : (a b : List ℕ) (k j : ℕ) → sum_to (j + 1) (term_of a b k) ≡ sum_to j (term_of a b k) + get_or a j 0 * get_or b (k - j) 0
unfolding sum_to term_of
dot-next a b k j = ap (λ n. sum_to n (term_of a b k)) (add-one j)

pub dot-end : (a b : List ℕ) (k i : ℕ) → i ≡ min (k + 1) (length a) → sum_to i (term_of a b k) ≡ word_sum a b k
unfolding word_sum
dot-end a b k i e = sum_more i (suc k) _ (omega arith) (λ j l h. first_out a b k j (omega arith))
