-- `word_row::montgomery_row` meets its contract. The loop's invariant: g and s are the constants of m, the words below j are those of the row,
-- and the rest is as it was.
-- Assumes nothing.
use Rattle.std.proofs.Common.{arith}
use Rattle.word_row.proofs.Loops.{start, next}
use Rattle.word_row.proofs.Montgomery.{square-factor, lifted-factor}
use Rattle.word_row.proofs.montgomery_row.Goals as goal

pub loop-j-init : goal.loop-j-init
loop-j-init c =
    let o = c.requires.modulus in
    let g = c.add_product-g.ensures _ _ (square-factor o c.low_half.ensures) in
    (lifted-factor o g c.low_half-s.ensures, start _ _ _ _)

pub loop-j-preserved : goal.loop-j-preserved
loop-j-preserved c =
    let at = c.loop-j.invariant in
    (at.0, next _ _ _ _ _ _ (omega arith) (omega arith) at.1 (c.add_product.ensures _ _ at.0))
