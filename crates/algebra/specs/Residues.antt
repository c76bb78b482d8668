-- The operations of the ring Z/p on its elements, the numbers below p, for 0 < p.
--     red p pos n       n modulo p
--     add, mul, neg     sum, product and negative modulo p
-- Theorems (specs/ResiduesLaws):
--     add_assoc, mul-add, …     the laws of a commutative ring
-- Assumes nothing.
use Prim.Native.Nat.{ℕ, ◌+◌, ◌*◌, ◌-◌, ◌%◌, ◌<◌, Fin}
use Rattle.std.proofs.Math.Nat as N

module _ (p : ℕ) (pos : 0 < p) where
  -- n modulo p, and the operations of the ring
  unfoldable pub red : ℕ → Fin p
  red n = (n % p, N.mod-lt n pos)

  unfoldable pub add : Fin p → Fin p → Fin p
  add a b = red (a.0 + b.0)

  unfoldable pub mul : Fin p → Fin p → Fin p
  mul a b = red (a.0 * b.0)

  unfoldable pub neg : Fin p → Fin p
  neg a = red (p - a.0)
