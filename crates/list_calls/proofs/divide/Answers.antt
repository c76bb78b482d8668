-- `list_calls::divide` meets its contract: what its core ensures at field 0, which implies the demands.
-- Assumes nothing.
use Rattle.field.specs.Fields.{longest}
use Rattle.statement.proofs.Demand1.{replies, no-slice, and-slice}
use Rattle.list_calls.proofs.divide.Goals as goal

pub returns : goal.returns
unfolding longest
returns c = let core = c.divide_over.ensures in record { answer = core.answer; quotient = core.quotient; remainder = core.remainder; demand1 = replies _ core.answer (and-slice _ core.quotient (and-slice _ core.remainder no-slice)); demand3 = core.property }
