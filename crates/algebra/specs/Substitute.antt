-- The polynomial 1 + u.
--     ⟨1+u⟩     the polynomial 1 + u. With u = t/(1-t) it is 1/(1-t), so at degree 1 it homogenises to 1.
-- Theorems (proofs/Substitute):
--     elevate     degree elevation: (1+u)^j · s at degree j + n homogenises as s at degree n
-- Assumes nothing.
use Rattle.algebra.specs.Ring.{CommRing}
use Rattle.algebra.specs.Series.{SeriesRing, t}

module _ {Rg : CommRing} (X : SeriesRing Rg) where
  open X.ring use {Carrier as S, one as 1ˢ, add as ◌+ˢ◌}

  infixl 65 ◌+ˢ◌
  unfoldable pub ⟨1+u⟩ : S
  ⟨1+u⟩ = 1ˢ +ˢ t X
