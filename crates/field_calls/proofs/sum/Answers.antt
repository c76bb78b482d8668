-- `field_calls::sum` meets its contract: what its core ensures at field 0, which implies the demands.
-- Assumes nothing.
use Rattle.statement.proofs.Demand1.{replies, no-slice}
use Rattle.statement.proofs.Demand2Calls.{word-sum-so}
use Rattle.field_calls.proofs.sum.Goals as goal

pub returns : goal.returns
returns c = let core = c.sum_over.ensures.answer in record { answer = core; demand1 = replies _ core no-slice; demand2 = word-sum-so _ _ core }
