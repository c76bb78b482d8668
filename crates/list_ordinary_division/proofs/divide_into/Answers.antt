-- `list_ordinary_division::divide_into` meets its contract, whichever arrays are lent.
-- Assumes nothing.
use native.Mathlib.Omega.{arith}
use Rattle.field.specs.Fields.{longest}
use Rattle.list_ordinary_division.proofs.divide_into.Goals as goal

pub divide_sized-requires-2-clause-g_len_bound : goal.divide_sized-requires-2-clause-g_len_bound
unfolding longest
divide_sized-requires-2-clause-g_len_bound c = omega arith
