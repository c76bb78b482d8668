-- `word_product::times` meets its contract: the product of two words of 16 bits has 32.
-- Assumes nothing.
use native.Mathlib.Omega.{arith}
use native.Mathlib.Nat.{mul-le-mul}
use Rattle.word_product.proofs.times.Goals as goal

pub overflow_mul-result : goal.overflow_mul-result
overflow_mul-result c = record { fits = omega (arith, mul-le-mul {n₁ = c.args.a} {m₁ = c.args.b} {n₂ = 65535} {m₂ = 65535} (omega arith) (omega arith)) }

pub returns : goal.returns
returns c = (omega arith, omega (arith, mul-le-mul {n₁ = c.args.a} {m₁ = c.args.b} {n₂ = 65535} {m₂ = 65535} (omega arith) (omega arith)))
