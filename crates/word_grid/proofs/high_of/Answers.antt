-- `word_grid::high_of` meets its contract: the sum modulo 2^32.
-- Assumes nothing.
use Rattle.word_grid.specs.Grid.{high_of}
use Rattle.std.proofs.Common.{rules}
use borrow.Author.Rules.{rules}
use Rattle.word_grid.proofs.high_of.Goals as goal

pub returns : goal.returns
unfolding high_of
returns c = search rules
