-- `list_calls::find_extent` meets its contract: what its core ensures at field 0, which implies the demands.
-- Assumes nothing.
use Rattle.field.specs.Fields.{longest}
use Rattle.statement.proofs.Demand1.{replies, no-slice}
use Rattle.statement.proofs.Demand2Calls.{extent-so}
use Rattle.list_calls.proofs.find_extent.Goals as goal

pub returns : goal.returns
unfolding longest
returns c = let core = c.extent_over.ensures in record { answer = core.answer; read = core.read; demand1 = replies _ core.answer no-slice; demand2 = extent-so _ core.answer }
