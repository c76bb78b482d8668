-- `list_calls::derivative` meets its contract: what its core ensures at field 0, which implies the demands.
-- Assumes nothing.
use Rattle.field.specs.Fields.{longest}
use Rattle.statement.proofs.Demand1.{replies, no-slice, and-slice}
use Rattle.statement.proofs.Demand2Calls.{derivative-so}
use Rattle.list_calls.proofs.derivative.Goals as goal

pub returns : goal.returns
unfolding longest
returns c = let core = c.derivative_over.ensures in record { answer = core.answer; writes = core.writes; demand1 = replies _ core.answer (and-slice _ core.writes no-slice); demand2 = derivative-so _ _ core.answer core.writes }
