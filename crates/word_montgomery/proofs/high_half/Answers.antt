-- `word_montgomery::high_half` meets its contract: the product fits 32 bits.
-- Assumes nothing.
use Rattle.std.proofs.Common.{◌*◌, ◌≤◌, arith}
use Rattle.field.proofs.Words.{product_le}
use Rattle.word_montgomery.proofs.high_half.Goals as goal

pub overflow_mul-result : goal.overflow_mul-result
overflow_mul-result c =
    let product : c.args.a * c.args.b ≤ 4294836225 = product_le c.ranges.a.fits c.ranges.b.fits in
    omega (arith, product)

pub overflow_cast-result-3 : goal.overflow_cast-result-3
overflow_cast-result-3 c =
    let product : c.args.a * c.args.b ≤ 4294836225 = product_le c.ranges.a.fits c.ranges.b.fits in
    omega (arith, product)

pub returns : goal.returns
returns c = omega arith
