-- What the functions need that work on slices which no call refuses.
--     ProductFits                  two lists and a result slice as long as their product
--     RaiseFits                    a list and a result slice that is no shorter
-- Assumes nothing.
use Rattle.std.specs.Prelude.{◌≡◌, List, ℕ, ◌+◌, ◌≤◌, ◌<◌, length}
use Rattle.lists.specs.Refused.{IsList}

pub record ProductFits (most : ℕ) (f g out : List ℕ) : Type 0 where
  pub first : 0 < length f
  pub second : 0 < length g
  pub size : length out + 1 ≡ length f + length g
  pub short : length out ≤ most

pub record RaiseFits (p most : ℕ) (f out : List ℕ) : Type 0 where
  pub list : IsList p most f
  pub room : length f ≤ length out
  pub short : length out ≤ most
