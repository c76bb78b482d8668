-- The words of a product in whole numbers, reduced, are those of the product of the series.
--     length-remainders, get_or-remainders     the words of the product, reduced
-- Theorems:
--     convolution-is         the words of the product in whole numbers, reduced, are those of the product of the series
--     convolution-turned     the factors may be exchanged
--     convolve-is            what is written where the lengths fit
-- Assumes nothing.
use mathlib.Core.Path.{◌≡◌, sym, ap, ap₂, ◌∙◌}
use mathlib.Core.Bool.{cond}
use mathlib.Core.List.{List}
use Prim.Native.Nat.{ℕ, zero, suc, ◌+◌, ◌-◌, ◌%◌, ◌≤◌, ◌<◌}
use native.Mathlib.Nat.{mod-lt}
use native.Mathlib.Omega.{arith}
use lib.ListN.{length, get_or}
use borrow.Author.Tests.{eq-eqb, le-leb}
use Rattle.algebra.specs.RingLaws as R
use Rattle.algebra.specs.Sum.{total}
use Rattle.algebra.proofs.Sum.{total-zero, total-snoc, total_ext, coeff-product}
use Rattle.algebra.specs.PrimeField.{PrimeField, scalars, positive, residue, value}
use Rattle.algebra.proofs.PrimeField.{residue-0, residue-add, residue-mul, residue-mod}
use Rattle.lists.specs.Tabulate.{tabulate}
use Rattle.lists.proofs.Tabulate.{length-tabulate, get_or-tabulate, tabulate-ext}
use Rattle.lists.specs.Words.{series_of}
use Rattle.lists.proofs.Words.{coeff-series_of, value-is}
use Rattle.word_grid.specs.Grid.{sum_to}
use Rattle.word_product.specs.Convolution.{convolve_fits, convolution}
use Rattle.word_product.specs.Sums.{term_of, word_sum, remainders}

pub length-remainders : (p n : ℕ) (a b : List ℕ) → length (remainders p n a b) ≡ n
unfolding remainders
length-remainders p n a b = length-tabulate n _

pub get_or-remainders : (p n : ℕ) (a b : List ℕ) (k : ℕ) → k < n → get_or (remainders p n a b) k 0 ≡ word_sum a b k % p
unfolding remainders
get_or-remainders p n a b k l = get_or-tabulate n _ k l

module _ (F : PrimeField) where
  residue-sum : (n : ℕ) (f : ℕ → ℕ) → residue F (sum_to n f) ≡ total (scalars F) n (λ j. residue F (f j))
  unfolding sum_to
  residue-sum zero f = residue-0 F ∙ sym (total-zero (scalars F) _)
  residue-sum (suc n) f =
      residue-add F _ _ ∙ ap (λ x. (scalars F).add x (residue F (f n))) (residue-sum n f) ∙ sym (total-snoc (scalars F) n _)

  -- word k of the product
  product_at : (a b : List ℕ) → ℕ → ℕ
  product_at a b k = value F (F.series.coeff (F.series.ring.mul (series_of F a) (series_of F b)) k)

  module _ (a b : List ℕ) where
    coefficient-is : (k : ℕ) → residue F (word_sum a b k) ≡ F.series.coeff (F.series.ring.mul (series_of F a) (series_of F b)) k
    unfolding word_sum term_of
    coefficient-is k =
        residue-sum (suc k) (term_of a b k)
        ∙ sym
        (coeff-product F.series (series_of F a) (series_of F b) k
        ∙ total_ext (scalars F) (suc k) _ (λ j. residue F (term_of a b k j))
        (λ j l. ap₂ (λ y z. (scalars F).mul y z) (coeff-series_of F a j) (coeff-series_of F b (k - j)) ∙ sym (residue-mul F _ _)))

    pub convolution-is : {m : ℕ} → F.p ≡ m → (n : ℕ) → n + 1 ≡ length a + length b → remainders m n a b ≡ convolution F a b
    unfolding remainders convolution product_at
    convolution-is {m} q n e = tabulate-ext n _ _ word ∙ ap (λ i. tabulate i (product_at a b)) (omega arith)
      where
        word : (k : ℕ) → k < n → word_sum a b k % m ≡ product_at a b k
        word k j =
            ap (λ i. word_sum a b k % i) (sym q)
            ∙ value-is F (word_sum a b k % F.p) _ (mod-lt (word_sum a b k) (positive F))
            (residue-mod F (word_sum a b k) ∙ coefficient-is k)

  pub length-convolution : (a b : List ℕ) → length (convolution F a b) ≡ length a + length b - 1
  unfolding convolution
  length-convolution a b = length-tabulate (length a + length b - 1) _

  pub convolution-turned : (a b : List ℕ) → convolution F b a ≡ convolution F a b
  unfolding convolution
  convolution-turned a b =
      ap₂ (λ n s. tabulate n (λ k. value F (F.series.coeff s k))) turned (R.mul_comm F.series.ring (series_of F b) (series_of F a))
    where
      turned : length b + length a - 1 ≡ length a + length b - 1
      turned = omega arith

  pub convolve-is : (most : ℕ) (a b s : List ℕ) {s' : List ℕ} → length a ≤ most → length b ≤ most → length s + 1 ≡ length a + length b
      → s' ≡ cond (convolve_fits most a b s) (convolution F a b) s → s' ≡ convolution F a b
  unfolding convolve_fits
  convolve-is most a b s l h e q =
      q ∙ rw (le-leb (length a) most l, le-leb (length b) most h, eq-eqb (length s + 1) (length a + length b) e)
