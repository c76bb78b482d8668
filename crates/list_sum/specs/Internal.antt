-- What the functions need and do that work on slices which no call refuses.
--     SumFits                two lists and a result slice as long as their sum
--     Combines op a b c      each word of c is what the operation may give at the words of a and b
--     CombinesRaised         the same of f and g, raised to one naive degree
-- Assumes nothing.
use Rattle.std.specs.Prelude.{◌≡◌, List, ℕ, ◌<◌, max, length, get_or}
use Rattle.algebra.specs.PrimeField.{PrimeField}
use Rattle.lists.specs.Refused.{IsList}
use Rattle.lists.specs.Operations.{raise, larger_degree}

pub record SumFits (p most : ℕ) (f g out : List ℕ) : Type 0 where
  pub first : IsList p most f
  pub second : IsList p most g
  pub size : length out ≡ max (length f) (length g)

pub record Combines (op : ℕ → ℕ → ℕ → Type 0) (a b c : List ℕ) : Type 0 where
  pub size : length c ≡ length a
  pub at : (k : ℕ) → k < length c → op (get_or a k 0) (get_or b k 0) (get_or c k 0)

abbrev pub CombinesRaised : PrimeField → (ℕ → ℕ → ℕ → Type 0) → (f g c : List ℕ) → Type 0
CombinesRaised F op f g c = Combines op (raise F (larger_degree F f g) f) (raise F (larger_degree F f g) g) c
