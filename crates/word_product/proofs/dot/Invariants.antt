-- `word_product::dot` meets its contract: each turn is one row more.
-- Assumes nothing.
use mathlib.Core.Path.{◌≡◌}
use Prim.Native.Nat.{◌*◌, ◌≤◌}
use Rattle.word_grid.specs.Grid.{sum_to}
use Rattle.word_product.specs.Sums.{term_of}
use Rattle.word_product.proofs.dot.Given as goal

abbrev pub invariant-loop-j : goal.invariant-loop-j
invariant-loop-j l = (l.s ≤ l.j * 4294836225) × (l.s ≡ sum_to l.j (term_of l.a l.b l.k))
