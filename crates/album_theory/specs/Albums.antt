-- The GCD of an album, that is of some lists, as document 01 has it. Its c is the common power of the lists.
--     ended c                   a list that is not zero, its top zeros removed and scaled to end in 1
--     Result                    h, and the sum of all rounds
--     joined result c           the GCD of the result so far, standing as f, and one more list; its rounds are added
--     gcd_from result lists     from a result so far, the GCD with each later list in turn; zero lists are passed over
--     album_gcd lists           the first list that is not zero, ended, at 0 rounds, and so on with the later lists; no words where all are zero
-- Theorems, each in the module of proofs/ that is named:
--     album-is-greatest     (1-t)^c·h is the greatest common divisor of the lists' polynomials (Greatest)
--     album-is-the          h and the rounds are those of the definition list by list (Defined)
-- Assumes nothing.
use Rattle.std.specs.Prelude.{cond, List, [], ◌∷◌, ℕ, ◌+◌, eqb, length}
use Rattle.algebra.specs.PrimeField.{PrimeField, scalar_field}
use Rattle.algebra.specs.Monic.{monic}
use Rattle.lists.specs.Degrees.{significant}
use Rattle.lists.specs.Lists.{scaled, unscaled}
use Rattle.euclid_theory.specs.Gcd.{gcd_of, rounds_of}

pub record Result : Type 0 where
  pub list : List ℕ
  pub rounds : ℕ

module _ (F : PrimeField) where
  unfoldable pub ended : List ℕ → List ℕ
  ended c = unscaled F (significant c) (monic F.series (scalar_field F) (length c) (scaled F c))

  abbrev pub joined : Result → List ℕ → Result
  joined result c = record { list = gcd_of F result.list c; rounds = result.rounds + rounds_of F result.list c }

  unfoldable pub gcd_from : Result → List (List ℕ) → Result
  gcd_from result [] = result
  gcd_from result (c ∷ lists) =
      cond (eqb (significant c) 0) (gcd_from result lists) (gcd_from (joined result c) lists)

  unfoldable pub album_gcd : List (List ℕ) → Result
  album_gcd [] = record { list = []; rounds = 0 }
  album_gcd (c ∷ lists) =
      cond (eqb (significant c) 0) (album_gcd lists) (gcd_from (record { list = ended c; rounds = 0 }) lists)
