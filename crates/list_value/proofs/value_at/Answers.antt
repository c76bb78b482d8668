-- `list_value::value_at` meets its contract, whichever array is lent.
-- Assumes nothing.
use native.Mathlib.Omega.{arith}
use Rattle.field.specs.Fields.{longest}
use Rattle.list_value.proofs.value_at.Goals as goal

pub value_sized-requires-2-clause-size : goal.value_sized-requires-2-clause-size
unfolding longest
value_sized-requires-2-clause-size c = omega arith
