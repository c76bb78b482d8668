-- `word_block_division::reduce_blocks` meets its contract. The loop's invariant: the quotient's words from k on are there, and x is what is left. The
-- measure is k.
-- Assumes nothing.
use Prim.Native.Nat.{◌≤◌}
use lib.ListN.{length}
use Rattle.field.specs.Fields.{field_at}
use Rattle.word_block_division.specs.Blocks.{Begun}
use Rattle.word_block_division.proofs.reduce_blocks.Given as goal

abbrev pub invariant-loop-k : goal.invariant-loop-k
invariant-loop-k l = (l.k ≤ length l.initial.q) × Begun (field_at l.field) l.y l.initial.x l.k l.x l.q

abbrev pub decreases-loop-k : goal.decreases-loop-k
decreases-loop-k l = l.k
