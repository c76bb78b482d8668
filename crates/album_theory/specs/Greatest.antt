-- The greatest common divisor of the polynomials of an album's lists. List i past the last one is the list of no words, which means
-- 0, and which every polynomial divides.
--     IsGreatestOf lists D     D divides the meaning of each list, and every polynomial that divides them all divides D
-- Theorems (proofs/Greatest), for an album whose lists are not all zero, c the common power and h the list of its GCD:
--     album-is-greatest     (1-t)^c·h is such a D
--     album-ends            h ends in 1
--     album-extent          its extent is its naive degree
-- Assumes nothing.
use Rattle.std.specs.Prelude.{List, [], ℕ, get_or}
use Rattle.algebra.specs.Polynomial.{Polynomial, Divides}
use Rattle.algebra.specs.PrimeField.{PrimeField}
use Rattle.lists.specs.Lists.{meaning}

module _ (F : PrimeField) where
  open F.series.ring use {Carrier as S}

  pub record IsGreatestOf (lists : List (List ℕ)) (D : S) : Type 0 where
    pub each : (i : ℕ) → Divides F.series D (meaning F (get_or lists i []))
    pub all : (K : S) → Polynomial F.series K → ((i : ℕ) → Divides F.series K (meaning F (get_or lists i [])))
        → Divides F.series K D
