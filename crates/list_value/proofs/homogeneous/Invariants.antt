-- `list_value::homogeneous` meets its contract. The loop's invariant: `sum` stands for the sum of the first k terms, as if the list had k
-- words, and `power` for x^k, both times c.
-- Assumes nothing.
use Prim.Native.Nat.{◌+◌, ◌*◌, ◌/◌}
use lib.ListN.{length}
use Rattle.field.specs.Fields.{field_at}
use Rattle.lists.specs.Lists.{word}
use Rattle.list_value.specs.Internal.{Terms}
use Rattle.list_value.proofs.homogeneous.Given as goal

abbrev pub invariant-loop-word : goal.invariant-loop-word
invariant-loop-word l = Terms (field_at l.field) (word (field_at l.field) l.s) l.x l.y l.c (8 * (length l.s / 8) + l.word-index) l.sum l.power
