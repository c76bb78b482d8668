-- `word_grid::low_of` meets its contract: the difference modulo 2^32.
-- Assumes nothing.
use Rattle.word_grid.specs.Grid.{low_of}
use Rattle.std.proofs.Common.{rules}
use borrow.Author.Rules.{rules}
use Rattle.word_grid.proofs.low_of.Goals as goal

pub returns : goal.returns
unfolding low_of
returns c = search rules
