-- `list_gcd::gcd_into` meets its contract, whichever arrays are lent.
-- Assumes nothing.
use mathlib.Core.Path.{refl}
use native.Mathlib.Omega.{arith}
use Rattle.field.proofs.Fields.{longest-room}
use Rattle.list_gcd.proofs.gcd_into.Goals as goal

pub gcd_sized-requires-2-clause-sizes : goal.gcd_sized-requires-2-clause-sizes
gcd_sized-requires-2-clause-sizes c = (omega (arith, longest-room c.args.field, c.buffer_words-n.ensures), omega arith, refl)
