-- `list_value::sum_groups` meets its contract. The loop's invariant: the groups that are left are the words after i groups, `sum` stands for the
-- sum over the first i groups, as if there were i, and `power` for x^i, both times c.
-- Assumes nothing.
use mathlib.Core.Path.{◌≡◌}
use Prim.Native.Nat.{◌*◌}
use lib.ListN.{length, drop}
use Rattle.std.specs.Slice.Iter.{chunks_exact_rest, chunks_exact_size}
use Rattle.field.specs.Fields.{field_at}
use Rattle.list_value.specs.Internal.{groups, Terms}
use Rattle.list_value.proofs.sum_groups.Given as goal

abbrev pub invariant-loop-group : goal.invariant-loop-group
invariant-loop-group l =
    record {
      size : chunks_exact_size l.group-iterator ≡ 8;
      left : chunks_exact_rest l.group-iterator ≡ drop (8 * length l.yielded) l.s;
      terms : Terms (field_at l.field) (groups (field_at l.field) 8 l.s l.u) l.x l.y l.c (length l.yielded) l.sum l.power;
    }
