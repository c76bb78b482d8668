-- What the functions need that work on slices which no call refuses.
--     DerivativeFits     a list of at most `most` words, and a result slice as long as its derivative
-- Assumes nothing.
use Rattle.std.specs.Prelude.{◌≡◌, List, ℕ, ◌-◌, ◌≤◌, ◌<◌, max, length}

pub record DerivativeFits (most : ℕ) (f out : List ℕ) : Type 0 where
  pub some : 0 < length f
  pub short : length f ≤ most
  pub size : length out ≡ max (length f - 1) 1
