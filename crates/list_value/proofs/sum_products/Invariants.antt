-- `list_value::sum_products` meets its contract. The loop's invariant: `sum` has as many products as there were turns, and is at most as many
-- times the largest.
-- Assumes nothing.
use mathlib.Core.Path.{◌≡◌}
use Prim.Native.Nat.{◌*◌, ◌≤◌}
use lib.ListN.{length}
use Rattle.list_value.specs.Internal.{most_of_product, products_of}
use Rattle.list_value.proofs.sum_products.Given as goal

abbrev pub invariant-loop-a : goal.invariant-loop-a
invariant-loop-a l = (l.sum ≡ products_of l.s 0 l.u (length l.yielded)) × (l.sum ≤ length l.yielded * most_of_product)
