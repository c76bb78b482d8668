-- `list_sum::combine_words` meets its contract. The loop's invariant: the words below k are combined.
-- Assumes nothing.
use Prim.Native.Nat.{ℕ, ◌<◌}
use lib.ListN.{get_or}
use Rattle.list_sum.proofs.combine_words.Given as goal

abbrev pub invariant-loop-k : goal.invariant-loop-k
invariant-loop-k g l = (k : ℕ) → k < l.k → goal.Op-post g l.op (get_or l.a k 0) (get_or l.b k 0) (get_or l.out k 0)
