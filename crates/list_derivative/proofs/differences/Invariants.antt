-- `list_derivative::differences` meets its contract. The loop's invariant: the words below k are written.
-- Assumes nothing.
use Rattle.field.specs.Fields.{field_at}
use Rattle.lists.specs.Operations.{derivative}
use Rattle.lists.proofs.Filled.{Filled}
use Rattle.list_derivative.proofs.differences.Given as goal

abbrev pub invariant-loop-k : goal.invariant-loop-k
invariant-loop-k l = Filled l.out l.k (derivative (field_at l.field) l.f)
