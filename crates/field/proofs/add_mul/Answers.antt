-- `field::add_mul` meets its contract.
-- Assumes nothing.
use native.Mathlib.Omega.{arith}
use Rattle.field.proofs.Words.{product_le}
use Rattle.field.proofs.add_mul.Goals as goal

pub overflow_mul-m : goal.overflow_mul-m
overflow_mul-m c = omega (arith, product_le c.ranges.m.fits c.ranges.y.fits)

pub overflow_add-x : goal.overflow_add-x
overflow_add-x c = omega (arith, product_le c.ranges.m.fits c.ranges.y.fits)
