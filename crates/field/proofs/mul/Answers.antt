-- `field::mul` meets its contract.
-- Assumes nothing.
use native.Mathlib.Omega.{arith}
use Rattle.field.proofs.Words.{product_le}
use Rattle.field.proofs.mul.Goals as goal

pub overflow_mul-x : goal.overflow_mul-x
overflow_mul-x c = omega (arith, product_le c.ranges.x.fits c.ranges.y.fits)
