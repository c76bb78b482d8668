-- What the functions need that divide slices which no call refuses.
--     OrdinaryFits      a dividend g and a divisor f of at most `most` words; q and r as long as g
--     Buffers           three buffers of 0, equally long and as long as lists of m and of n words at least
-- Assumes nothing.
use Rattle.std.specs.Prelude.{◌≡◌, List, ℕ, ◌≤◌, length}
use Rattle.algebra.specs.PrimeField.{PrimeField}
use Rattle.lists.specs.Words.{ZeroFrom}
use Rattle.ordinary_theory.specs.Ordinary.{Dividable}

pub record OrdinaryFits (F : PrimeField) (most : ℕ) (g f q r : List ℕ) : Type 0 where
  pub dividable : Dividable F g f
  pub short-dividend : length g ≤ most
  pub short-divisor : length f ≤ most
  pub quotient-words : length q ≡ length g
  pub remainder-words : length r ≡ length g

pub record Buffers (m n : ℕ) (x y k : List ℕ) : Type 0 where
  pub long-dividend : m ≤ length x
  pub long-divisor : n ≤ length x
  pub equal_y : length y ≡ length x
  pub equal_k : length k ≡ length x
  pub zero_x : ZeroFrom 0 x
  pub zero_y : ZeroFrom 0 y
  pub zero_k : ZeroFrom 0 k
