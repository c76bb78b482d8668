-- `word_grid::groups` meets its contract: each turn is one group more.
-- Assumes nothing.
use Rattle.word_grid.specs.Grid.{Grid}
use Rattle.word_grid.proofs.groups.Given as goal

abbrev pub invariant-loop-g : goal.invariant-loop-g
invariant-loop-g l = Grid l.w l.x l.n l.initial.lo l.initial.hi l.g l.lo l.hi
