-- `word_grid::reduce_words` meets its contract: each turn is one word more.
-- Assumes nothing.
use Rattle.std.proofs.Common.{length}
use Rattle.lists.proofs.Filled.{Filled}
use Rattle.word_grid.specs.Grid.{reduced_words}
use Rattle.word_grid.proofs.reduce_words.Given as goal

abbrev pub invariant-loop-k : goal.invariant-loop-k
invariant-loop-k l = Filled l.out l.k (reduced_words l.p (length l.initial.out) l.lo l.hi)
