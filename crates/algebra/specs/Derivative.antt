-- The derivative of a series, and of a homogenisation.
--     multiple R n a            n · a, the sum of n copies of a, in the ring R
--     derivative s              the derivative: the sum of (k+1) · s_(k+1) · t^k
--     scaled_derivative n s     the sum of ((k+1) · s_(k+1) - (n-k) · s_k) · u^k: the series that homogenises at degree n-1 to the
--                              derivative of hom n s
-- Theorems, each in the module of proofs/ that is named:
--     derivative-hom       the derivative of hom (n+1) s is hom n of the scaled derivative (Derivative)
--     multiple-residue     in Z/p, n · a is the residue of n times a (Multiple)
-- Assumes nothing.
use Rattle.std.specs.Prelude.{ℕ, zero, suc, ◌-◌}
use Rattle.algebra.specs.Ring.{CommRing}
use Rattle.algebra.specs.Series.{SeriesRing}

unfoldable pub multiple : (Rg : CommRing) → ℕ → Rg.Carrier → Rg.Carrier
multiple Rg zero a = Rg.zero
multiple Rg (suc n) a = Rg.add a (multiple Rg n a)

module _ {Rg : CommRing} (X : SeriesRing Rg) where
  open Rg use {neg as ⊖◌, add as ◌⊕◌}

  infixl 65 ◌⊕◌
  infix 80 ⊖◌
  open X.ring use {Carrier as S}

  unfoldable pub derivative : S → S
  derivative s = X.mk (λ k. multiple Rg (suc k) (X.coeff s (suc k)))

  unfoldable pub scaled_derivative : ℕ → S → S
  scaled_derivative n s = X.mk (λ k. multiple Rg (suc k) (X.coeff s (suc k)) ⊕ ⊖ multiple Rg (n - k) (X.coeff s k))
