-- The monic form of a polynomial.
--     top_inverse n s     1 over the last coefficient that is not 0 of s, a polynomial of at most n coefficients
--     monic n s           s times that, so that its last coefficient is 1
-- Theorems (proofs/Monic):
--     monic-top, monic-degree     the last coefficient is 1, and the degree that of s
--     monic-divides               what s divides its monic form divides
--     cofactors-unique            A·y + B·x = h has one solution with B below (degree of y) - (degree of h), h a common divisor of x and y
-- Assumes nothing.
use Rattle.std.specs.Prelude.{ℕ, ◌-◌}
use Rattle.algebra.specs.Ring.{CommRing, IsField}
use Rattle.algebra.specs.Series.{SeriesRing, C}
use Rattle.algebra.specs.Degree.{size}

module _ {Rg : CommRing} (X : SeriesRing Rg) (K : IsField Rg) where
  open Rg use {Carrier}
  open X.ring use {Carrier as S, mul as ◌*ˢ◌}

  infixl 70 ◌*ˢ◌
  unfoldable pub top_inverse : ℕ → S → Carrier
  top_inverse n s = K.inv (X.coeff s (size X K n s - 1))

  unfoldable pub monic : ℕ → S → S
  monic n s = C X (top_inverse n s) *ˢ s
