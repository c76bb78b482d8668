-- `word_pairs::high` meets its contract: the shift leaves the high half, which 2^15 makes a number.
-- Assumes nothing.
use Rattle.word_pairs.proofs.Integers.{high_fits, high-plain}
use Rattle.word_pairs.proofs.high.Goals as goal

pub overflow_add-result : goal.overflow_add-result
overflow_add-result c = high_fits c.args.t c.ranges.t

pub overflow_cast-result : goal.overflow_cast-result
overflow_cast-result c = (high-plain c.args.t c.ranges.t).cast

pub returns : goal.returns
returns c = (high-plain c.args.t c.ranges.t).out
