-- `lists::wrong_length` meets its contract: its tests are those of `wrong_length`.
-- Assumes nothing.
use Rattle.std.proofs.Common.{rules}
use Rattle.lists.specs.Refused.{wrong_length}
use Rattle.lists.proofs.wrong_length.Goals as goal

pub returns-then-is_empty : goal.returns-then-is_empty
unfolding wrong_length
returns-then-is_empty c = search rules

pub returns-else-is_empty : goal.returns-else-is_empty
unfolding wrong_length
returns-else-is_empty c = search rules
