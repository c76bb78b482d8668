-- `lists::degree_of` meets its contract: the number of words less 1, and 0 where there are none.
-- Assumes nothing.
use Rattle.std.proofs.Common.{rules}
use Rattle.lists.specs.Degrees.{naive_degree}
use Rattle.lists.proofs.degree_of.Goals as goal

pub returns : goal.returns
unfolding naive_degree
returns c = search rules
