-- `list_value::fill_weights` meets its contract. The loop's invariant: the words below j are written.
-- Assumes nothing.
use Rattle.field.specs.Fields.{modulus}
use Rattle.lists.proofs.Filled.{Filled}
use Rattle.list_value.specs.Internal.{weights_of}
use Rattle.list_value.proofs.fill_weights.Given as goal

abbrev pub invariant-loop-j : goal.invariant-loop-j
invariant-loop-j l = Filled l.u l.j (weights_of (modulus l.field) l.n l.a l.b)
