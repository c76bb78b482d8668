-- `list_calls::evaluate` meets its contract: what its core ensures at field 0, which implies the demands.
-- Assumes nothing.
use Rattle.field.specs.Fields.{longest}
use Rattle.statement.proofs.Demand1.{replies, no-slice}
use Rattle.statement.proofs.Demand2Calls.{value-so}
use Rattle.list_calls.proofs.evaluate.Goals as goal

pub returns : goal.returns
unfolding longest
returns c = let core = c.evaluate_over.ensures.answer in record { answer = core; demand1 = replies _ core no-slice; demand2 = value-so _ _ core }
