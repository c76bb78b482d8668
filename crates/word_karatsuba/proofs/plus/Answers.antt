-- `word_karatsuba::plus` meets its contract: less the negative of b is plus b.
-- Assumes nothing.
use native.Mathlib.Omega.{arith}
use Rattle.word_karatsuba.proofs.Words.{plus-is}
use Rattle.word_karatsuba.proofs.plus.Goals as goal

pub returns : goal.returns
returns c = plus-is _ _ _ (omega arith) c.once_reduced.ensures c.sub_below.ensures
