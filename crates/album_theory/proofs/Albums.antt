-- The GCD of an album, list by list: the clauses of the definition.
--     coefficients-none, meaning-none        the list of no words, which means 0
--     from-none, from_zero, from-nonzero     from a result so far: no list, a zero list, which is passed over, and another
--     album-zero, album-nonzero              the first list of an album, where it is zero and where not
-- Assumes nothing.
use mathlib.Core.Path.{◌≡◌, refl}
use mathlib.Core.List.{List, [], ◌∷◌}
use Prim.Native.Nat.{ℕ, zero-le}
use borrow.Author.Tests.{eq-eqb, ne_eqb}
use Rattle.algebra.specs.PrimeField.{PrimeField, positive}
use Rattle.lists.specs.Degrees.{significant}
use Rattle.lists.specs.Lists.{Coefficients, meaning}
use Rattle.euclid_theory.proofs.Powers.{significant-nil}
use Rattle.euclid_theory.proofs.Greatest.{meaning-zero}
use Rattle.album_theory.specs.Albums.{Result, ended, joined, gcd_from, album_gcd}

module _ (F : PrimeField) where
  open F.series.ring use {zero as 0ˢ}

  -- the list of no words
  pub coefficients-none : Coefficients F []
  coefficients-none = record { short = zero-le; below = λ k. positive F }

  pub meaning-none : meaning F [] ≡ 0ˢ
  meaning-none = meaning-zero F [] coefficients-none significant-nil

  pub from-none : (result : Result) → gcd_from F result [] ≡ result
  unfolding gcd_from
  from-none result = refl

  -- zero lists are passed over
  pub from_zero : (result : Result) (c : List ℕ) (lists : List (List ℕ)) → significant c ≡ 0
      → gcd_from F result (c ∷ lists) ≡ gcd_from F result lists
  unfolding gcd_from
  from_zero result c lists e = rw (eq-eqb (significant c) 0 e)

  pub from-nonzero : (result : Result) (c : List ℕ) (lists : List (List ℕ)) → ¬ (significant c ≡ 0)
      → gcd_from F result (c ∷ lists) ≡ gcd_from F (joined F result c) lists
  unfolding gcd_from
  from-nonzero result c lists h = rw (ne_eqb (significant c) 0 h)

  pub album-zero : (c : List ℕ) (lists : List (List ℕ)) → significant c ≡ 0 → album_gcd F (c ∷ lists) ≡ album_gcd F lists
  unfolding album_gcd
  album-zero c lists e = rw (eq-eqb (significant c) 0 e)

  pub album-nonzero : (c : List ℕ) (lists : List (List ℕ)) → ¬ (significant c ≡ 0)
      → album_gcd F (c ∷ lists) ≡ gcd_from F (record { list = ended F c; rounds = 0 }) lists
  unfolding album_gcd
  album-nonzero c lists h = rw (ne_eqb (significant c) 0 h)
