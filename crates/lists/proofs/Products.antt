-- The product of two lists.
--     length-product, coefficients-product     its length, and that its words are coefficients
-- Theorems:
--     product-unscaled     formula (6) is the product of the scaled forms
--     product-meaning      the product means the product
-- Assumes nothing.
use mathlib.Core.Path.{◌≡◌, refl, sym, ◌∙◌, ap, ap₂}
use mathlib.Core.List.{List}
use Prim.Native.Nat.{ℕ, suc, ◌+◌, ◌-◌, ◌<◌}
use native.Mathlib.Omega.{arith}
use lib.ListN.{length}
use Rattle.algebra.specs.RingLaws.{Ac}
use Rattle.algebra.specs.Polynomial.{Below}
use Rattle.algebra.proofs.Polynomial.{below-mono, below-mul}
use Rattle.algebra.proofs.Homogenise.{hom-mul}
use Rattle.algebra.proofs.Sum.{total_ext, total-mul, coeff-product}
use Rattle.algebra.specs.PrimeField.{PrimeField, scalars, value, inverse}
use Rattle.lists.proofs.Tabulate.{length-tabulate, tabulate-ext}
use Rattle.lists.specs.Degrees.{naive_degree}
use Rattle.lists.specs.Lists.{Coefficients, word, binomial, meaning, scaled, unscaled}
use Rattle.lists.specs.Operations.{product_at, product}
use Rattle.lists.proofs.Scaled.{coeff-scaled-at, below-naive, meaning-hom}
use Rattle.lists.proofs.Unscaled.{coefficients-unscaled, meaning-unscaled}

module _ (F : PrimeField) where
  open scalars F use {Carrier as K, zero as 𝟘, one as 𝟙, add as ◌⊕◌, mul as ◌⊗◌}
  open F.series.ring use {Carrier as S, one as 1ˢ, add as ◌+ˢ◌, mul as ◌*ˢ◌}

  infixl 65 ◌⊕◌
  infixl 70 ◌⊗◌
  infixl 65 ◌+ˢ◌
  infixl 70 ◌*ˢ◌
  pub length-product : (f g : List ℕ) → length (product F f g) ≡ suc (naive_degree f + naive_degree g)
  unfolding product
  length-product f g = length-tabulate _ _

  regroup : (a b c x y : K) → a ⊗ b ⊗ c ⊗ x ⊗ y ≡ x ⊗ a ⊗ (y ⊗ b) ⊗ c
  regroup a b c x y = simp Ac

  product_at-is : (f g : List ℕ) (k : ℕ)
      → product_at F f g k ≡ F.series.coeff (scaled F f *ˢ scaled F g) k ⊗ inverse F (binomial F (naive_degree f + naive_degree g) k)
  unfolding product_at
  product_at-is f g k =
      total_ext (scalars F) (suc k) _ _ (λ j l. part j)
      ∙ sym (total-mul (scalars F) (suc k) (λ j. F.series.coeff (scaled F f) j ⊗ F.series.coeff (scaled F g) (k - j)) over)
      ∙ sym (ap (λ x. x ⊗ over) (coeff-product F.series (scaled F f) (scaled F g) k))
    where
      over : K
      over = inverse F (binomial F (naive_degree f + naive_degree g) k)

      part : (j : ℕ) → binomial F (naive_degree f) j ⊗ binomial F (naive_degree g) (k - j) ⊗ over ⊗ word F f j ⊗ word F g (k - j)
          ≡ F.series.coeff (scaled F f) j ⊗ F.series.coeff (scaled F g) (k - j) ⊗ over
      part j =
          regroup (binomial F (naive_degree f) j) (binomial F (naive_degree g) (k - j)) over (word F f j) (word F g (k - j))
          ∙ sym (ap₂ (λ x y. x ⊗ y ⊗ over) (coeff-scaled-at F _ f j refl) (coeff-scaled-at F _ g (k - j) refl))

  -- formula (6) is the product of the scaled forms
  pub product-unscaled : (f g : List ℕ) → product F f g ≡ unscaled F (suc (naive_degree f + naive_degree g)) (scaled F f *ˢ scaled F g)
  unfolding product unscaled
  product-unscaled f g =
      tabulate-ext (suc (naive_degree f + naive_degree g)) _ _
      (λ k l. ap (value F) (product_at-is f g k ∙ ap (λ n. F.series.coeff (scaled F f *ˢ scaled F g) k ⊗ inverse F (binomial F n k)) e))
    where
      e : naive_degree f + naive_degree g ≡ suc (naive_degree f + naive_degree g) - 1
      e = omega arith

  pub coefficients-product : (f g : List ℕ) → naive_degree f + naive_degree g < F.p → Coefficients F (product F f g)
  coefficients-product f g l = rw (product-unscaled f g) (coefficients-unscaled F _ _ l)

  below-product : (f g : List ℕ) → Below F.series (suc (naive_degree f + naive_degree g)) (scaled F f *ˢ scaled F g)
  below-product f g =
      below-mono F.series (omega arith)
      (below-mul F.series (naive_degree f) (suc (naive_degree g)) (below-naive F f) (below-naive F g))

  -- the product means the product
  pub product-meaning : (f g : List ℕ) → naive_degree f + naive_degree g < F.p → meaning F (product F f g) ≡ meaning F f *ˢ meaning F g
  product-meaning f g l =
      ap (meaning F) (product-unscaled f g) ∙ meaning-unscaled F (naive_degree f + naive_degree g) l (below-product f g)
      ∙ hom-mul F.series (naive_degree f) (naive_degree g) (below-naive F f) (below-naive F g)
      ∙ sym (ap₂ (λ x y. x *ˢ y) (meaning-hom F f) (meaning-hom F g))
