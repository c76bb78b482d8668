-- The product of two series on words, and the lengths that fit.
--     convolve_fits most a b out     the slices' lengths fit
--     convolution F a b              the words of the product of two series that two lists of words are
--     convolved_into                 what the result slice holds at the end: the product where it fits, else what it held
-- Theorems (proofs/Convolution):
--     convolution-is         the words of the product in whole numbers, reduced, are this
--     length-convolution     it has one word less than both lists together
--     convolution-turned     the factors may be exchanged
-- Assumes nothing.
use Rattle.std.specs.Prelude.{Bool, cond, ◌&&◌, List, ℕ, ◌+◌, ◌-◌, leb, eqb, length}
use Rattle.algebra.specs.PrimeField.{PrimeField, value}
use Rattle.lists.specs.Tabulate.{tabulate}
use Rattle.lists.specs.Words.{series_of}

unfoldable pub convolve_fits : ℕ → (a b out : List ℕ) → Bool
convolve_fits most a b out = leb (length a) most && (leb (length b) most && eqb (length out + 1) (length a + length b))

unfoldable pub convolution : PrimeField → (a b : List ℕ) → List ℕ
convolution F a b =
    tabulate (length a + length b - 1)
    (λ k. value F (F.series.coeff (F.series.ring.mul (series_of F a) (series_of F b)) k))

abbrev pub convolved_into : PrimeField → (most : ℕ) → (a b out : List ℕ) → List ℕ
convolved_into F most a b out = cond (convolve_fits most a b out) (convolution F a b) out
