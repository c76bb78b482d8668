-- `word_row::add_row` meets its contract: the words of whole groups, and then the rest.
-- Assumes nothing.
use Rattle.std.proofs.Common.{arith}
use Rattle.word_row.proofs.Loops.{joined}
use Rattle.word_row.proofs.Montgomery.{modulus-at}
use Rattle.word_row.proofs.add_row.Goals as goal

pub montgomery_row-requires-clause-modulus : goal.montgomery_row-requires-clause-modulus
montgomery_row-requires-clause-modulus c = modulus-at _ c.modulus_of.ensures c.word_inverse_of.ensures c.square_of.ensures

pub returns : goal.returns
returns c = joined _ _ _ _ _ _ (rw c.modulus_of.ensures at c.montgomery_row.ensures) (omega arith) c.add_rest.ensures
