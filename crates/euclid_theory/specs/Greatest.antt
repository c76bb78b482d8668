-- The GCD of two lists f and g, not both zero, is the greatest common divisor of their polynomials: with c the common power,
-- (1-t)^c·h divides both, and every polynomial that divides both divides it.
--     IsGreatest        D divides the meanings of f and g, and every polynomial that divides both divides D
-- Assumes nothing.
use Rattle.std.specs.Prelude.{List, ℕ}
use Rattle.algebra.specs.Polynomial.{Polynomial, Divides}
use Rattle.algebra.specs.PrimeField.{PrimeField}
use Rattle.lists.specs.Lists.{meaning}

module _ (F : PrimeField) where
  open F.series.ring use {Carrier as S}

  pub record IsGreatest (f g : List ℕ) (D : S) : Type 0 where
    pub left : Divides F.series D (meaning F f)
    pub right : Divides F.series D (meaning F g)
    pub all : (K : S) → Polynomial F.series K → Divides F.series K (meaning F f) → Divides F.series K (meaning F g)
        → Divides F.series K D
