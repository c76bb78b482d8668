-- `list_extent::trim_into` meets its contract, whichever array is lent.
-- Assumes nothing.
use native.Mathlib.Omega.{arith}
use Rattle.field.specs.Fields.{longest}
use Rattle.list_extent.proofs.trim_into.Goals as goal

pub trim_sized-requires-2-clause-size : goal.trim_sized-requires-2-clause-size
unfolding longest
trim_sized-requires-2-clause-size c = omega arith
