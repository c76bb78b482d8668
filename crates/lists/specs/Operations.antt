-- The operations on lists, by document 01 and the formulas of document 002 that it names. Of each operation f, fAt is the rule of its words.
--     product f g           formula (6): word k is the sum over j of C(d,j) · C(e,k-j) / C(d+e,k) · f_j · g_(k-j)
--     raise n f             formula (4): word k is the sum over j of C(d,j) · C(n-d,k-j) / C(n,k) · f_j
--     larger_degree f g     the larger of two naive degrees
--     sum_of f g            word by word, the shorter list raised first
--     difference_of f g     the same with differences
--     trim f                the top zeros removed: the same scaled form, naive degree equal to the extent
--     derivative c          n(c_(k+1) - c_k), of n words, and [0] for n = 0
--     evaluate c x          the value P(x) at a word x
-- Theorems, each in the module of proofs/ that is named:
--     product-meaning                     the product means the product (Products)
--     raise-meaning                       the raised list means the same (Raises)
--     sum-meaning, difference-meaning     the sum and the difference mean the sum and the difference (Sums)
--     trim-meaning                        the meaning is (1-t)^power times that of the trimmed list (Trims)
--     derivative-meaning                  the derivative means the derivative (Calculus)
--     evaluate-meaning                    the value of a list at x is the value of its meaning (Calculus)
-- Assumes nothing.
use Rattle.std.specs.Prelude.{cond, List, [], ◌∷◌, ℕ, suc, ◌+◌, ◌-◌, max, eqb, length}
use Rattle.algebra.specs.Ring.{pow}
use Rattle.algebra.specs.Sum.{total}
use Rattle.algebra.specs.PrimeField.{PrimeField, scalars, residue, value, inverse}
use Rattle.lists.specs.Tabulate.{tabulate}
use Rattle.lists.specs.Degrees.{naive_degree, significant}
use Rattle.lists.specs.Lists.{word, binomial, scaled_coefficient, scaled, unscaled}

module _ (F : PrimeField) where
  open scalars F use {Carrier as K, one as 𝟙, neg as ⊖◌, add as ◌⊕◌, mul as ◌⊗◌}

  infixl 65 ◌⊕◌
  infixl 70 ◌⊗◌
  infix 80 ⊖◌
  unfoldable pub product_at : (f g : List ℕ) → ℕ → K
  product_at f g k =
      total (scalars F) (suc k)
      (λ j. binomial F (naive_degree f) j ⊗ binomial F (naive_degree g) (k - j) ⊗ inverse F (binomial F (naive_degree f + naive_degree g) k) ⊗ word F f j ⊗ word F g (k - j))

  unfoldable pub product : (f g : List ℕ) → List ℕ
  product f g = tabulate (suc (naive_degree f + naive_degree g)) (λ k. value F (product_at f g k))

  unfoldable pub raise_at : ℕ → List ℕ → ℕ → K
  raise_at n f k =
      total (scalars F) (suc k)
      (λ j. binomial F (naive_degree f) j ⊗ binomial F (n - naive_degree f) (k - j) ⊗ inverse F (binomial F n k) ⊗ word F f j)

  unfoldable pub raise : ℕ → List ℕ → List ℕ
  raise n f = tabulate (suc n) (λ k. value F (raise_at n f k))

  -- the naive degree of a sum
  unfoldable pub larger_degree : (f g : List ℕ) → ℕ
  larger_degree f g = max (naive_degree f) (naive_degree g)

  unfoldable pub sum_of : (f g : List ℕ) → List ℕ
  sum_of f g =
      tabulate (suc (larger_degree f g))
      (λ k. value F (word F (raise (larger_degree f g) f) k ⊕ word F (raise (larger_degree f g) g) k))

  unfoldable pub difference_of : (f g : List ℕ) → List ℕ
  difference_of f g =
      tabulate (suc (larger_degree f g))
      (λ k. value F (word F (raise (larger_degree f g) f) k ⊕ ⊖ word F (raise (larger_degree f g) g) k))

  unfoldable pub trim : List ℕ → List ℕ
  trim f = unscaled F (significant f) (scaled F f)

  unfoldable pub derivative_at : List ℕ → ℕ → K
  derivative_at c k = residue F (naive_degree c) ⊗ (word F c (suc k) ⊕ ⊖ word F c k)

  unfoldable pub derivative : List ℕ → List ℕ
  derivative c = cond (eqb (naive_degree c) 0) (0 ∷ []) (tabulate (naive_degree c) (λ k. value F (derivative_at c k)))

  unfoldable pub evaluate_at : List ℕ → K → K
  evaluate_at c x =
      total (scalars F) (length c)
      (λ k. scaled_coefficient F c k ⊗ pow (scalars F) x k ⊗ pow (scalars F) (𝟙 ⊕ ⊖ x) (naive_degree c - k))

  unfoldable pub evaluate : List ℕ → ℕ → ℕ
  evaluate c x = value F (evaluate_at c (residue F x))
