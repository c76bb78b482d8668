-- A product taken off words is a product of series taken off, as far as the words are known, for every prime field F.
--     terms                 the first coefficients of a series, as a sum
-- Theorems:
--     length-less_product    the number of words stays
--     less-product-low       the words of s - q · t
-- Assumes nothing.
use mathlib.Core.Path.{◌≡◌, refl, sym, ◌∙◌, ap, ap₂, subst}
use mathlib.Core.List.{List}
use Prim.Native.Nat.{ℕ, zero, suc, ◌≤◌, ◌<◌}
use native.Mathlib.Nat as N
use native.Mathlib.Decide.{dec_lt, ℕ_discrete}
use native.Mathlib.Omega.{arith}
use lib.ListN.{length, get_or}
use Rattle.algebra.specs.RingLaws as R
use Rattle.algebra.specs.RingLaws.{RING}
use Rattle.algebra.specs.Series.{t}
use Rattle.algebra.proofs.Series.{ext, coeff-add}
use Rattle.algebra.specs.Polynomial.{Below, monomial}
use Rattle.algebra.proofs.Polynomial.{below-mono, below-0, below-add, below-monomial, coeff-monomial}
use Rattle.algebra.specs.Sum.{sum}
use Rattle.algebra.proofs.Sum.{sum-zero, sum-suc}
use Rattle.algebra.proofs.Division.{coeff-monomial-low}
use Rattle.algebra.specs.PrimeField.{PrimeField, scalars}
use Rattle.lists.specs.Words.{Low}
use Rattle.lists.proofs.Words.{Carries, carries-below}
use Rattle.word_division.specs.Reduction.{negated, less_product_to, less_product}
use Rattle.word_row.proofs.RowWords.{length-row_from}
use Rattle.word_division.proofs.Rows.{row_low, minus}

length-less_product_to : (p k : ℕ) (s q t : List ℕ) → length (less_product_to p k s q t) ≡ length s
unfolding less_product_to
length-less_product_to p zero s q t = refl
length-less_product_to p (suc k) s q t =
    length-row_from p k (less_product_to p k s q t) (negated p (get_or q k 0)) t ∙ length-less_product_to p k s q t

pub length-less_product : (p : ℕ) (s q t : List ℕ) → length (less_product p s q t) ≡ length s
unfolding less_product
length-less_product p s q t = length-less_product_to p (length q) s q t

module _ (F : PrimeField) where
  open scalars F use {Carrier as K, zero as 𝟘, neg as ⊖◌, add as ◌⊕◌, mul as ◌⊗◌}

  infixl 65 ◌⊕◌
  infixl 70 ◌⊗◌
  infix 80 ⊖◌
  open F.series.ring use {Carrier as S, zero as 0ˢ, neg as -ˢ◌, add as ◌+ˢ◌, mul as ◌*ˢ◌}

  infixl 65 ◌+ˢ◌
  infixl 70 ◌*ˢ◌
  infix 80 -ˢ◌
  -- c below n, as the sum of its terms
  terms : ℕ → S → S
  terms n c = sum F.series n (λ k. monomial F.series (F.series.coeff c k) k)

  below-terms : (n : ℕ) (c : S) → Below F.series n (terms n c)
  unfolding terms
  below-terms zero c = rw (sum-zero F.series) (below-0 F.series 0)
  below-terms (suc n) c =
      rw (sum-suc F.series)
      (below-add F.series (below-mono F.series (N.le-suc n) (below-terms n c)) (below-monomial F.series _ n))

  coeff-terms : (n : ℕ) (c : S) (j : ℕ) → j < n → F.series.coeff (terms n c) j ≡ F.series.coeff c j
  unfolding terms
  coeff-terms zero c j l = absurd (omega arith)
  coeff-terms (suc n) c j l =
      ap (λ s. F.series.coeff s j) (sum-suc F.series n _) ∙ coeff-add F.series _ _ j
      ∙ go (ℕ_discrete j n) (coeff-terms n c j)
    where
      go : Dec (j ≡ n) → (j < n → F.series.coeff (terms n c) j ≡ F.series.coeff c j)
          → F.series.coeff (terms n c) j ⊕ F.series.coeff (monomial F.series (F.series.coeff c n) n) j ≡ F.series.coeff c j
      go (yes e) ih =
          rw e
          (ap₂ (λ a b. a ⊕ b) ((below-terms n c).at n (N.le_refl n)) (coeff-monomial F.series _ n) ∙ R.zero-add (scalars F) _)
      go (no e) ih =
          ap₂ (λ a b. a ⊕ b) (ih (omega arith)) (coeff-monomial-low F.series (F.series.coeff c n) n j (omega arith)) ∙ R.add-zero (scalars F) _

  terms-all : (n : ℕ) {c : S} → Below F.series n c → terms n c ≡ c
  terms-all n {c} h = ext F.series _ _ λ j. go j (dec_lt j n)
    where
      go : (j : ℕ) → Dec (j < n) → F.series.coeff (terms n c) j ≡ F.series.coeff c j
      go j (yes l) = coeff-terms n c j l
      go j (no l) = (below-terms n c).at j (omega arith) ∙ sym (h.at j (omega arith))

  module _ (n : ℕ) {s q t : List ℕ} {a b c : S} (ls : Low F n s a) (lt : Low F n t b) (cq : Carries F q c)
      (ns : n ≤ length s) (nt : n ≤ length t) where
    less-terms-low : (k : ℕ) → Low F n (less_product_to F.p k s q t) (a +ˢ -ˢ (terms k c *ˢ b))
    unfolding less_product_to terms
    less-terms-low zero = subst (λ z. Low F n s z) (sym (ap (λ z. a +ˢ -ˢ (z *ˢ b)) (sum-zero F.series _) ∙ none a b)) ls
      where
        none : (a b : S) → a +ˢ -ˢ (0ˢ *ˢ b) ≡ a
        none a b = simp RING
    less-terms-low (suc k) =
        subst (λ z. Low F n (less_product_to F.p (suc k) s q t) z)
        (minus F (get_or q k 0) k (a +ˢ -ˢ (terms k c *ˢ b)) b (cq.at k)
        ∙ one a (terms k c) (monomial F.series (F.series.coeff c k) k) b
        ∙ ap (λ z. a +ˢ -ˢ (z *ˢ b)) (sym (sum-suc F.series k _)))
        (row_low F n k (negated F.p (get_or q k 0)) (less-terms-low k) lt
        (let words = length-less_product_to F.p k s q t in omega arith) nt)
      where
        one : (a x y b : S) → a +ˢ -ˢ (x *ˢ b) +ˢ -ˢ (y *ˢ b) ≡ a +ˢ -ˢ ((x +ˢ y) *ˢ b)
        one a x y b = simp RING

    pub less-product-low : Low F n (less_product F.p s q t) (a +ˢ -ˢ (c *ˢ b))
    unfolding less_product
    less-product-low =
        subst (λ z. Low F n (less_product_to F.p (length q) s q t) (a +ˢ -ˢ (z *ˢ b))) (terms-all (length q) (carries-below F cq))
        (less-terms-low (length q))
