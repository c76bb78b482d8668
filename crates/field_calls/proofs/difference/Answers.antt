-- `field_calls::difference` meets its contract: what its core ensures at field 0, which implies the demands.
-- Assumes nothing.
use Rattle.statement.proofs.Demand1.{replies, no-slice}
use Rattle.statement.proofs.Demand2Calls.{word-difference-so}
use Rattle.field_calls.proofs.difference.Goals as goal

pub returns : goal.returns
returns c = let core = c.difference_over.ensures.answer in record { answer = core; demand1 = replies _ core no-slice; demand2 = word-difference-so _ _ core }
