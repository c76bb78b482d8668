-- `word_block_division::reduce_at` meets its contract: one turn of the blocks.
-- Assumes nothing.
use Prim.Native.Nat.{◌+◌, ◌-◌}
use native.Mathlib.Omega.{arith}
use lib.ListN.{length}
use Rattle.field.specs.Fields.{field_at}
use Rattle.lists.proofs.Tight.{tight-drop, tight-take}
use Rattle.word_block_division.proofs.Blocks.{begun-turn}
use Rattle.word_block_division.proofs.reduce_at.Goals as goal

pub reduce_block-requires-clause-reciprocal : goal.reduce_block-requires-clause-reciprocal
reduce_block-requires-clause-reciprocal c = (c.requires.reciprocal.0, tight-take _ (tight-drop c.args.k c.requires.reciprocal.1))

pub returns : goal.returns
returns c =
    λ x₀ begun.
    let a = c.args in
    let k = a.k in
    let n = a.n in
    let m = n + length a.y.now - 1 in
    begun-turn (field_at a.field) a.y.now x₀ a.x.now a.q.now k n (k + m - k) (k + n - k) begun (omega arith) (omega arith) (omega arith) (omega arith) (omega arith)
    c.reduce_block.auto.q c.reduce_block.ensures
