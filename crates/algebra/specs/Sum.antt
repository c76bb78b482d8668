-- Finite sums, of series and in a ring.
--     sum n f         f 0 + … + f (n-1), a sum of series
--     total R n f     f 0 + … + f (n-1), in the ring R
-- Theorems (proofs/Sum):
--     hom-sum           the homogenisation as a sum, as document 01 writes P(t)
--     coeff-product     coefficient n of a product is the sum of a_j · b_(n-j)
--     value_at-sum      the value of a sum is the sum of the values
-- Assumes nothing.
use Rattle.std.specs.Prelude.{ℕ, zero, suc}
use Rattle.algebra.specs.Ring.{CommRing}
use Rattle.algebra.specs.Series.{SeriesRing}

module _ {Rg : CommRing} (X : SeriesRing Rg) where
  open X.ring use {Carrier as S, zero as 0ˢ, add as ◌+ˢ◌}

  infixl 65 ◌+ˢ◌
  unfoldable pub sum : ℕ → (ℕ → S) → S
  sum zero f = 0ˢ
  sum (suc n) f = sum n f +ˢ f n

unfoldable pub total : (Rg : CommRing) → ℕ → (ℕ → Rg.Carrier) → Rg.Carrier
total Rg zero f = Rg.zero
total Rg (suc n) f = Rg.add (f 0) (total Rg n (λ k. f (suc k)))
