-- `album_writer::wrong_lists` meets its contract: its tests are those of `wrong_lists`.
-- Assumes nothing.
use Rattle.std.proofs.Common.{rules}
use Rattle.album_writer.specs.Calls.{wrong_lists}
use Rattle.album_writer.proofs.wrong_lists.Goals as goal

pub returns-then-is_empty : goal.returns-then-is_empty
unfolding wrong_lists
returns-then-is_empty c = search rules

pub returns-else-is_empty : goal.returns-else-is_empty
unfolding wrong_lists
returns-else-is_empty c = search rules
