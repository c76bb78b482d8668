-- `word_block_division::reduce_blocks` meets its contract. The loop's invariant: the quotient's words from k on are there, and x is what is left. The
-- measure is k.
-- Assumes nothing.
use mathlib.Core.Path.{sym}
use native.Mathlib.Omega.{arith}
use Rattle.field.specs.Fields.{field_at}
use Rattle.field.proofs.Fields.{p-at}
use Rattle.lists.proofs.Tight.{tight-at}
use Rattle.word_block_division.proofs.Blocks.{begun-start, begun-end}
use Rattle.word_block_division.proofs.reduce_blocks.Goals as goal

pub loop-k-init : goal.loop-k-init
loop-k-init c =
    let a = c.args in
    (omega arith, begun-start (field_at a.field) a.y.now a.x.now a.q.now (tight-at (p-at a.field) c.requires.reciprocal.1) (omega arith) c.requires.x_len.0)

pub reduce_at-requires-clause-reciprocal : goal.reduce_at-requires-clause-reciprocal
reduce_at-requires-clause-reciprocal c = (c.requires.reciprocal.0, tight-at (sym (p-at _)) c.loop-k.invariant.1.tight-rest)

pub returns : goal.returns
returns c =
    let a = c.args in
    begun-end (field_at a.field) a.y.now a.x.now c.loop-k.x c.loop-k.q c.loop-k.k (omega arith) c.loop-k.invariant.1
