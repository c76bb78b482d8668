-- `word_block_division::reduce_by` meets its contract: it only lends the arrays.
-- Assumes nothing.
use Prim.Native.Nat.{◌-◌, ◌*◌}
use borrow.Author.Rules.{rules}
use Rattle.lists.proofs.Words.{zero-part, zeros-are}
use Rattle.word_block_division.proofs.reduce_by.Goals as goal

pub reduce_in-requires-clause-t_len : goal.reduce_in-requires-clause-t_len
reduce_in-requires-clause-t_len c = (search rules, search rules, zero-part (2 * c.args.e - 1) (zeros-are 127))
