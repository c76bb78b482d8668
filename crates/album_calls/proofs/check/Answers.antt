-- `album_calls::check` meets its contract: what its core ensures at field 0, which implies the demands.
-- Assumes nothing.
use Rattle.statement.proofs.Demand1.{replies, no-slice}
use Rattle.album_calls.proofs.check.Goals as goal

pub returns : goal.returns
returns c = let core = c.check_over.ensures.answer in record { answer = core; demand1 = replies _ core no-slice }
