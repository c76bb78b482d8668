-- `word_row::lifted_row` meets its contract. The loop's invariant: with the constants of any m the words below j are those of the row, and the
-- rest is as it was.
-- Assumes nothing.
use Rattle.std.proofs.Common.{arith}
use Rattle.word_row.proofs.Loops.{kept_next, next}
use Rattle.word_row.proofs.lifted_row.Goals as goal

pub loop-j-preserved : goal.loop-j-preserved
loop-j-preserved c =
    let at = c.loop-j.invariant in
    (kept_next _ at.0, λ e m f. next _ _ _ _ _ _ (omega arith) (omega arith) (at.1 e m f) (c.add_product_below.ensures.1 e m f))
