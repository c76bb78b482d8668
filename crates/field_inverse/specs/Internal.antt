-- What the functions behind the inverse do.
--     residue_of p z       the number below p that an integer leaves
--     Leaves p a r b       b is a number below p whose product with a leaves r
-- Assumes nothing.
use Rattle.std.specs.Prelude.{◌≡◌, ℕ, suc, ◌-◌, ◌*◌, ◌%◌, ◌<◌, ℤ, pos, negsuc}

unfoldable pub residue_of : ℕ → ℤ → ℕ
residue_of p (pos n) = n % p
residue_of p (negsuc n) = (p - suc n % p) % p

pub record Leaves (p a r b : ℕ) : Type 0 where
  pub high : b < p
  pub is : (a * b) % p ≡ r
