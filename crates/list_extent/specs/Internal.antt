-- What the functions need that work on slices which no call refuses.
--     TrimFits           a list of at most `most` words, and a result slice of as many words as the list has without its top zeros
-- Assumes nothing.
use Rattle.std.specs.Prelude.{◌≡◌, List, ℕ, ◌≤◌, length}
use Rattle.lists.specs.Degrees.{significant}

pub record TrimFits (most : ℕ) (f out : List ℕ) : Type 0 where
  pub short : length f ≤ most
  pub size : length out ≡ significant f
