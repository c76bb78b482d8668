-- Homogenisation: from a polynomial in u to one in t, with u = t/(1-t).
--     hom n s     (1-t)^n · s(t/(1-t)): the sum of s_k · t^k · (1-t)^(n-k) over k from 0 to n. Of a list with naive degree n and
--                 scaled form s it is the meaning, P(t).
-- Theorems (proofs/Homogenise):
--     hom-add, hom-mul     the homogenisation of a sum, and of a product at the sum of the degrees
--     hom-more             a degree more is a factor 1-t more
--     hom-eq               hom n is injective on the polynomials of degree at most n
--     value_at1-hom        at t = 1 its value is s_n
--     hom-sum              it is the sum above (proofs/Sum)
-- Assumes nothing.
use Rattle.std.specs.Prelude.{ℕ, zero, suc}
use Rattle.algebra.specs.Ring.{CommRing}
use Rattle.algebra.specs.Series.{SeriesRing, C, t, tail}
use Rattle.algebra.specs.OneMinusT.{⟨1-t⟩^}

module _ {Rg : CommRing} (X : SeriesRing Rg) where
  open X.ring use {Carrier as S, add as ◌+ˢ◌, mul as ◌*ˢ◌}

  infixl 65 ◌+ˢ◌
  infixl 70 ◌*ˢ◌
  -- by the first coefficient and the rest; as one sum it is hom-sum of Sum
  unfoldable pub hom : ℕ → S → S
  hom zero s = C X (X.coeff s zero)
  hom (suc n) s = ⟨1-t⟩^ X (suc n) *ˢ C X (X.coeff s zero) +ˢ t X *ˢ hom n (tail X s)
