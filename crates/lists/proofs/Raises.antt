-- A list raised to a higher naive degree: its product with a list of ones.
--     ones n                                            the list of n + 1 ones
--     coeff-⟨1+u⟩^, scaled-ones                         its scaled form is (1+u)^n, whose coefficients are the binomial coefficients
--     meaning-ones                                      so it means 1
--     length-raise, naive-raise, coefficients-raise     length and words of a raised list
-- Theorems:
--     raise-product     formula (4) is the product with a list of ones
--     raise-meaning     the raised list means the same
--     raise-same        a list raised to its own naive degree is itself
-- Assumes nothing.
use mathlib.Core.Path.{◌≡◌, refl, sym, ◌∙◌, ap, ap₂}
use mathlib.Core.List.{List}
use Prim.Native.Nat.{ℕ, zero, suc, ◌+◌, ◌-◌, ◌≤◌, ◌<◌}
use native.Mathlib.Decide.{dec_lt}
use native.Mathlib.Omega.{arith}
use lib.ListN.{get_or, length}
use Rattle.algebra.specs.RingLaws as R
use Rattle.algebra.specs.Ring.{pow}
use Rattle.algebra.specs.RingLaws.{Ac, RING}
use Rattle.algebra.proofs.Ring.{pow-zero, pow-suc}
use Rattle.algebra.specs.Series.{t}
use Rattle.algebra.proofs.Series.{ext, coeff-add, coeff-1_zero, coeff-1_suc, C-one, coeff-t-mul-zero, coeff-t-mul-suc}
use Rattle.algebra.specs.Polynomial.{Below}
use Rattle.algebra.proofs.Polynomial.{below-C}
use Rattle.algebra.specs.Homogenise.{hom}
use Rattle.algebra.proofs.Homogenise.{hom-zero}
use Rattle.algebra.specs.Substitute.{⟨1+u⟩}
use Rattle.algebra.proofs.Substitute.{elevate}
use Rattle.algebra.proofs.Sum.{total_ext}
use Rattle.algebra.proofs.Choose.{choose-zero, choose-0-suc, pascal}
use Rattle.algebra.specs.PrimeField.{PrimeField, scalars, residue, value, inverse}
use Rattle.algebra.proofs.PrimeField.{value-lt, residue-0, residue-1, residue-add}
use Rattle.lists.specs.Tabulate.{tabulate}
use Rattle.lists.proofs.Tabulate.{length-tabulate, get_or-tabulate, tabulate-ext}
use Rattle.lists.specs.Degrees.{naive_degree}
use Rattle.lists.specs.Lists.{Coefficients, word, binomial, meaning, scaled}
use Rattle.lists.specs.Operations.{product_at, product, raise_at, raise}
use Rattle.lists.proofs.Scaled.{length-naive, naive-length, coefficients, binomial-above, coeff-scaled-at, meaning-hom}
use Rattle.lists.proofs.Unscaled.{meaning-injective}
use Rattle.lists.proofs.Products.{product-meaning}

unfoldable pub ones : ℕ → List ℕ
ones n = tabulate (suc n) (λ k. 1)

pub length-ones : (n : ℕ) → length (ones n) ≡ suc n
unfolding ones
length-ones n = length-tabulate (suc n) _

pub naive-ones : (n : ℕ) → naive_degree (ones n) ≡ n
naive-ones n = naive-length (ones n) n (length-ones n)

pub get_or-ones : (n k : ℕ) → k < suc n → get_or (ones n) k 0 ≡ 1
unfolding ones
get_or-ones n k l = get_or-tabulate (suc n) _ k l

module _ (F : PrimeField) where
  open scalars F use {Carrier as K, zero as 𝟘, one as 𝟙, add as ◌⊕◌, mul as ◌⊗◌}
  open F.series.ring use {Carrier as S, one as 1ˢ, add as ◌+ˢ◌, mul as ◌*ˢ◌}

  infixl 65 ◌⊕◌
  infixl 70 ◌⊗◌
  infixl 65 ◌+ˢ◌
  infixl 70 ◌*ˢ◌
  ⟨1+u⟩-mul : (s : S) → ⟨1+u⟩ F.series *ˢ s ≡ s +ˢ t F.series *ˢ s
  unfolding ⟨1+u⟩
  ⟨1+u⟩-mul s = simp RING

  -- the coefficients of (1+u)^n are the binomial coefficients
  pub coeff-⟨1+u⟩^ : (n k : ℕ) → F.series.coeff (pow F.series.ring (⟨1+u⟩ F.series) n) k ≡ binomial F n k
  unfolding binomial
  coeff-⟨1+u⟩^ zero zero =
      ap (λ s. F.series.coeff s 0) (pow-zero F.series.ring _) ∙ coeff-1_zero F.series
      ∙ sym (ap (residue F) (choose-zero 0) ∙ residue-1 F)
  coeff-⟨1+u⟩^ zero (suc k) =
      ap (λ s. F.series.coeff s (suc k)) (pow-zero F.series.ring _) ∙ coeff-1_suc F.series k
      ∙ sym (ap (residue F) (choose-0-suc k) ∙ residue-0 F)
  coeff-⟨1+u⟩^ (suc n) zero =
      ap (λ s. F.series.coeff s 0) (pow-suc F.series.ring _ n ∙ ⟨1+u⟩-mul _) ∙ coeff-add F.series _ _ 0
      ∙ ap₂ (λ x y. x ⊕ y) (coeff-⟨1+u⟩^ n 0) (coeff-t-mul-zero F.series _) ∙ R.add-zero (scalars F) _
      ∙ ap (residue F) (choose-zero n ∙ sym (choose-zero (suc n)))
  coeff-⟨1+u⟩^ (suc n) (suc k) =
      ap (λ s. F.series.coeff s (suc k)) (pow-suc F.series.ring _ n ∙ ⟨1+u⟩-mul _) ∙ coeff-add F.series _ _ (suc k)
      ∙ ap₂ (λ x y. x ⊕ y) (coeff-⟨1+u⟩^ n (suc k)) (coeff-t-mul-suc F.series _ k ∙ coeff-⟨1+u⟩^ n k)
      ∙ R.add_comm (scalars F) _ _ ∙ sym (ap (residue F) (pascal n k) ∙ residue-add F _ _)

  word_ones : (n k : ℕ) → k < suc n → word F (ones n) k ≡ 𝟙
  unfolding word
  word_ones n k l = ap (residue F) (get_or-ones n k l) ∙ residue-1 F

  binomial-ones : (n k : ℕ) → binomial F n k ⊗ word F (ones n) k ≡ binomial F n k
  binomial-ones n k = go (dec_lt k (suc n))
    where
      go : Dec (k < suc n) → binomial F n k ⊗ word F (ones n) k ≡ binomial F n k
      go (yes l) = ap (λ x. binomial F n k ⊗ x) (word_ones n k l) ∙ R.mul-one (scalars F) _
      go (no l) =
          let none : binomial F n k ≡ 𝟘 = binomial-above F n k (omega arith) in
          ap (λ x. x ⊗ word F (ones n) k) none ∙ R.zero-mul (scalars F) _ ∙ sym none

  pub scaled-ones : (n : ℕ) → scaled F (ones n) ≡ pow F.series.ring (⟨1+u⟩ F.series) n
  scaled-ones n =
      ext F.series _ _ λ k. coeff-scaled-at F n (ones n) k (naive-ones n) ∙ R.mul_comm (scalars F) _ _ ∙ binomial-ones n k
      ∙ sym (coeff-⟨1+u⟩^ n k)

  pub meaning-ones : (n : ℕ) → meaning F (ones n) ≡ 1ˢ
  meaning-ones n =
      meaning-hom F (ones n) ∙ ap₂ (hom F.series) (naive-ones n ∙ e) (scaled-ones n ∙ sym (R.mul-one F.series.ring _))
      ∙ elevate F.series 0 n one ∙ hom-zero F.series 1ˢ ∙ rw (coeff-1_zero F.series) (C-one F.series)
    where
      e : n ≡ n + 0
      e = omega arith

      one : Below F.series 1 1ˢ
      one = rw (C-one F.series) at (below-C F.series 𝟙)

  pub length-raise : (n : ℕ) (f : List ℕ) → length (raise F n f) ≡ suc n
  unfolding raise
  length-raise n f = length-tabulate _ _

  pub naive-raise : (n : ℕ) (f : List ℕ) → naive_degree (raise F n f) ≡ n
  naive-raise n f = naive-length (raise F n f) n (length-raise n f)

  pub coefficients-raise : (n : ℕ) (f : List ℕ) → n < F.p → Coefficients F (raise F n f)
  coefficients-raise n f l =
      coefficients F (rw (length-raise n f) l) (λ k j. small k (rw (length-raise n f) at j))
    where
      small : (k : ℕ) → k < suc n → get_or (raise F n f) k 0 < F.p
      small k j = unfold raise in rw (get_or-tabulate (suc n) (λ k. value F (raise_at F n f k)) k j) (value-lt F _)

  full : (n : ℕ) (f : List ℕ) → naive_degree f ≤ n → naive_degree f + naive_degree (ones (n - naive_degree f)) ≡ n
  full n f l = let e = naive-ones (n - naive_degree f) in omega arith

  regroup : (a b c x y : K) → a ⊗ (b ⊗ y) ⊗ c ⊗ x ≡ a ⊗ b ⊗ c ⊗ x ⊗ y
  regroup a b c x y = simp Ac

  raise_at-is : (n m : ℕ) (f : List ℕ) (k : ℕ) → n - naive_degree f ≡ m → naive_degree f + naive_degree (ones m) ≡ n
      → raise_at F n f k ≡ product_at F f (ones m) k
  unfolding raise_at product_at
  raise_at-is n m f k e q = total_ext (scalars F) (suc k) _ _ (λ j i. part j ∙ ap₂ (λ d i. with-ones j d i) (sym (naive-ones m)) (sym q))
    where
      with-ones : (j d i : ℕ) → K
      with-ones j d i =
          binomial F (naive_degree f) j ⊗ binomial F d (k - j) ⊗ inverse F (binomial F i k) ⊗ word F f j ⊗ word F (ones m) (k - j)

      over : K
      over = inverse F (binomial F n k)

      part : (j : ℕ) → binomial F (naive_degree f) j ⊗ binomial F (n - naive_degree f) (k - j) ⊗ over ⊗ word F f j ≡ with-ones j m n
      part j =
          ap (λ x. binomial F (naive_degree f) j ⊗ x ⊗ over ⊗ word F f j) (ap (λ i. binomial F i (k - j)) e ∙ sym (binomial-ones m (k - j)))
          ∙ regroup (binomial F (naive_degree f) j) (binomial F m (k - j)) over (word F f j) (word F (ones m) (k - j))

  -- formula (4) is the product with the list of ones
  pub raise-product : (n : ℕ) (f : List ℕ) → naive_degree f ≤ n → raise F n f ≡ product F f (ones (n - naive_degree f))
  unfolding raise product
  raise-product n f l =
      tabulate-ext (suc n) _ _ (λ k j. ap (value F) (raise_at-is n (n - naive_degree f) f k refl (full n f l)))
      ∙ ap (λ m. tabulate (suc m) (λ k. value F (product_at F f (ones (n - naive_degree f)) k))) (sym (full n f l))

  -- the raised list means the same
  pub raise-meaning : (n : ℕ) (f : List ℕ) → naive_degree f ≤ n → n < F.p → meaning F (raise F n f) ≡ meaning F f
  raise-meaning n f l h =
      ap (meaning F) (raise-product n f l) ∙ product-meaning F f (ones (n - naive_degree f)) (rw (full n f l) h)
      ∙ ap (λ s. meaning F f *ˢ s) (meaning-ones (n - naive_degree f)) ∙ R.mul-one F.series.ring _

  -- a list raised to its own naive degree
  pub raise-same : (f : List ℕ) → Coefficients F f → 0 < length f → raise F (naive_degree f) f ≡ f
  raise-same f g l =
      let words = length-naive f l in
      let short = g.short in
      let fits : naive_degree f < F.p = omega arith in
      meaning-injective F (raise F (naive_degree f) f) f (coefficients-raise (naive_degree f) f fits) g (length-raise (naive_degree f) f ∙ sym words)
      (raise-meaning (naive_degree f) f (omega arith) fits)
