-- `list_division::divide_into` meets its contract, whichever arrays are lent.
-- Assumes nothing.
use native.Mathlib.Omega.{arith}
use Rattle.field.specs.Fields.{longest}
use Rattle.list_division.proofs.divide_into.Goals as goal

pub divide_sized-requires-2-clause-size : goal.divide_sized-requires-2-clause-size
unfolding longest
divide_sized-requires-2-clause-size c = omega arith
