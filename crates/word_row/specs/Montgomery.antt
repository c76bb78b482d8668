-- Montgomery's products on words of 16 bits, for every odd p from 32,769 to 65,535.
--     Modulus p e r        e is 1/p modulo 2^16, and r is 2^32 modulo p
--     Factor p e m g s     the constants of a factor m: g is m · 2^16 modulo p, and s is g/p modulo 2^16
--     lift_of p r m        -m · 2^32 modulo p, where r is 2^32 modulo p
-- Theorems (proofs/Montgomery):
--     product-halves     with the constants of m, the high half of y · g less that of (y · s modulo 2^16) · p is m · y
--     modulus-at         the constants of a field are such
-- Assumes nothing.
use Rattle.std.specs.Prelude.{◌≡◌, ℕ, ◌-◌, ◌*◌, ◌%◌, ◌≤◌}

pub record Modulus (p e r : ℕ) : Type 0 where
  pub half : 32768 ≤ p
  pub inverse : p * e % 65536 ≡ 1
  pub square : r ≡ 65536 * 65536 % p

pub record Factor (p e m g s : ℕ) : Type 0 where
  pub half : 32768 ≤ p
  pub inverse : p * e % 65536 ≡ 1
  pub lifted : g ≡ m * 65536 % p
  pub side : s ≡ g * e % 65536

unfoldable pub lift_of : (p r m : ℕ) → ℕ
lift_of p r m = (m * (p - r)) % p
