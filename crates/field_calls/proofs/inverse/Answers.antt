-- `field_calls::inverse` meets its contract: what its core ensures at field 0, which implies the demands.
-- Assumes nothing.
use Rattle.statement.proofs.Demand1.{replies, no-slice}
use Rattle.statement.proofs.Demand2Calls.{inverse-so}
use Rattle.field_calls.proofs.inverse.Goals as goal

pub returns : goal.returns
returns c = let answer = c.inverse_over.ensures.answer in record { answer = answer; demand1 = replies _ answer no-slice; demand2 = inverse-so _ answer }
