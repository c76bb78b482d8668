-- `lists::power_in` meets its contract: the two counters are the list's.
-- Assumes nothing.
use Rattle.lists.specs.Degrees.{power}
use borrow.Author.Rules.{rules}
use Rattle.lists.proofs.power_in.Goals as goal

pub returns : goal.returns
unfolding power
returns c = search rules
