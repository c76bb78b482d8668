-- `word_montgomery::low_half` meets its contract: the product fits 32 bits.
-- Assumes nothing.
use Rattle.std.proofs.Common.{arith}
use Rattle.field.proofs.Words.{product_le}
use Rattle.word_montgomery.proofs.low_half.Goals as goal

pub overflow_mul-result : goal.overflow_mul-result
overflow_mul-result c = omega (arith, product_le c.ranges.a.fits c.ranges.b.fits)
