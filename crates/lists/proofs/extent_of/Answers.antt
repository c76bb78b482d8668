-- `lists::extent_of` meets its contract: the significant words less 1.
-- Assumes nothing.
use Rattle.std.proofs.Common.{rules}
use Rattle.lists.specs.Degrees.{extent}
use Rattle.lists.proofs.extent_of.Goals as goal

pub returns : goal.returns
unfolding extent
returns c = search rules
