-- `test_calls::copy` meets its contract. The loop's invariant: the bytes below k are copied.
-- Assumes nothing.
use Rattle.lists.proofs.Filled.{Filled}
use Rattle.test_calls.proofs.copy.Given as goal

abbrev pub invariant-loop-k : goal.invariant-loop-k
invariant-loop-k l = Filled l.to l.k l.from
