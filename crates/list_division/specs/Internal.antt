-- What the functions need that divide slices which no call refuses.
--     DivideFits      a dividend g of at most `most` words and a divisor f; q as long as the quotient, r as long as the remainder
-- Assumes nothing.
use Rattle.std.specs.Prelude.{◌≡◌, List, ℕ, ◌+◌, ◌≤◌, length}
use Rattle.algebra.specs.PrimeField.{PrimeField}
use Rattle.euclid_theory.specs.Division.{Divisible}

pub record DivideFits (F : PrimeField) (most : ℕ) (g f q r : List ℕ) : Type 0 where
  pub divisible : Divisible F g f
  pub short : length g ≤ most
  pub quotient-words : length q + length f ≡ length g + 1
  pub remainder-words : length r + 1 ≡ length f
