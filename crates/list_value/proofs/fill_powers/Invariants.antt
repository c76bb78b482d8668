-- `list_value::fill_powers` meets its contract. The loop's invariant: the words before the next are written, and `power` is the next.
-- Assumes nothing.
use mathlib.Core.Path.{◌≡◌}
use lib.ListN.{length}
use Rattle.field.specs.Fields.{field_at}
use Rattle.lists.proofs.Filled.{Filled}
use Rattle.list_value.specs.Internal.{power_of, powers_of}
use Rattle.list_value.proofs.fill_powers.Given as goal

abbrev pub invariant-loop-word : goal.invariant-loop-word
invariant-loop-word l = Filled l.u l.word-index (powers_of (field_at l.field) l.x (length l.initial.u)) × (l.power ≡ power_of (field_at l.field) l.x l.word-index)
