-- `lists::search_from_top` meets its contract. The loop's invariant: the first n words answer for the whole, and the others have been
-- read.
-- Assumes nothing.
use mathlib.Core.Path.{◌≡◌}
use Prim.Native.Nat.{◌+◌}
use lib.ListN.{length}
use Rattle.lists.specs.Degrees.{significant_in, significant}
use Rattle.lists.proofs.search_from_top.Given as goal

abbrev pub invariant-loop-n : goal.invariant-loop-n
invariant-loop-n l = (l.read + l.n ≡ length l.list) × (significant l.list ≡ significant_in l.n l.list)
