-- `word_expansion::expand_in` meets its contract. The loop's invariant: the words before word k are expanded.
-- Assumes nothing.
use mathlib.Core.Path.{◌≡◌}
use Prim.Native.Nat.{◌+◌, ◌-◌, ◌≤◌}
use lib.ListN.{length}
use Rattle.word_expansion.specs.Expansion.{expanded_to}
use Rattle.word_expansion.proofs.expand_in.Given as goal

abbrev pub invariant-loop-k : goal.invariant-loop-k
invariant-loop-k l = (l.k ≤ 1 + (length l.initial.x - 1)) × (l.x ≡ expanded_to l.p l.plus (l.k - 1) l.initial.x)
