-- Polynomials: formal series with a bound.
--     Below n s        coefficient k of s is 0 for every k from n on
--     Polynomial s     s is a polynomial over the ring: a finite sum of terms s_k · t^k
--     Divides K L      K divides L: L = K · M for some polynomial M, so every polynomial divides 0
--     monomial c d     c · t^d
-- Theorems (proofs/Polynomial):
--     below-mul                          the bound of a product
--     polynomial-add, polynomial-mul     sums and products of polynomials are polynomials
--     divides-trans, divides-mul         divisors of divisors, and of products
--     top-of-product                     the last coefficient of a product is that of the factors' last
-- Assumes nothing.
use Rattle.std.specs.Prelude.{◌≡◌, ℕ, zero, suc, ◌≤◌}
use Rattle.algebra.specs.Ring.{CommRing}
use Rattle.algebra.specs.Series.{SeriesRing, C, t}

module _ {Rg : CommRing} (X : SeriesRing Rg) where
  open Rg use {Carrier, zero as 𝟘}
  open X.ring use {Carrier as S, mul as ◌*ˢ◌}

  infixl 70 ◌*ˢ◌
  pub record Below (n : ℕ) (s : S) : Type 0 where
    pub at : (k : ℕ) → n ≤ k → X.coeff s k ≡ 𝟘

  pub record Polynomial (s : S) : Type 0 where
    pub bound : ℕ
    pub below : Below bound s

  pub record Divides (K L : S) : Type 0 where
    pub cofactor : S
    pub polynomial : Polynomial cofactor
    pub equation : L ≡ K *ˢ cofactor

  unfoldable pub monomial : Carrier → ℕ → S
  monomial c zero = C X c
  monomial c (suc d) = t X *ˢ monomial c d
