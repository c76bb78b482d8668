-- `words::read_words` meets its contract. The loop's invariant: the words below k are those of the bytes.
-- Assumes nothing.
use Rattle.std.proofs.Common.{◌∙◌, length-take, arith}
use Rattle.lists.proofs.Filled.{fill_step}
use Rattle.words.proofs.Transfer.{chunk-word, read-end}
use Rattle.words.proofs.read_words.Goals as goal

pub loop-k-preserved : goal.loop-k-preserved
loop-k-preserved c =
    let n = c.min-n.ensures in
    let pairs = c.as_chunks.ensures in
    let below = simp length-take at c.loop-k-test.true in
    fill_step _ c.loop-k.invariant (omega arith) (c.from_le_bytes.ensures ∙ chunk-word _ _ _ _ pairs.front (omega arith) (omega arith))

pub returns : goal.returns
returns c =
    let n = c.min-n.ensures in
    let pairs = c.as_chunks.ensures in
    let read = simp length-take at c.loop-k-test.false in
    read-end c.args.bytes.now _ _ _ _ c.loop-k.auto.words (omega arith) (record { at = λ k l. c.loop-k.invariant.at k (omega arith) }) (c.fill.ensures.after (λ y h. h))
