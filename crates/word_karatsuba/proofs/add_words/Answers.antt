-- `word_karatsuba::add_words` meets its contract. The loop's invariant: the words below i are those of the row, and the rest is as it was.
-- Assumes nothing.
use native.Mathlib.Omega.{arith}
use Rattle.word_row.proofs.Loops.{next, finish}
use Rattle.word_karatsuba.proofs.add_words.Goals as goal

pub loop-i-preserved : goal.loop-i-preserved
loop-i-preserved c = next _ _ _ _ _ _ (omega arith) (omega arith) c.loop-i.invariant c.plus.ensures

pub returns : goal.returns
returns c = finish _ _ _ _ _ _ _ (omega arith) c.loop-i-test.false c.loop-i.invariant
