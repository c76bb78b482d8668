-- Words of 16 bits.
--     product_le     the product of two words fits 32 bits, and a third word still fits beside it
-- Assumes nothing.
use Prim.Native.Nat.{ℕ, ◌*◌, ◌<◌, ◌≤◌}
use native.Mathlib.Nat.{mul-le-mul}
use native.Mathlib.Omega.{arith}

pub product_le : {x y : ℕ} → x < 65536 → y < 65536 → x * y ≤ 4294836225
product_le {x} {y} h g = mul-le-mul {n₂ = 65535} {m₂ = 65535} (omega arith) (omega arith)
