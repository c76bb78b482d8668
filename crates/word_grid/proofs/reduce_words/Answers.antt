-- `word_grid::reduce_words` meets its contract: each turn is one word more.
-- Assumes nothing.
use Rattle.std.proofs.Common.{length, sym, ◌∙◌, arith}
use Rattle.lists.proofs.Filled.{fill_step, fill_end}
use Rattle.word_grid.proofs.Remainders.{length-reduced, get_or-reduced}
use Rattle.word_grid.proofs.reduce_words.Goals as goal

pub loop-k-preserved : goal.loop-k-preserved
loop-k-preserved c =
    fill_step _ c.loop-k.invariant (omega arith)
    (c.reduce.ensures ∙ sym (get_or-reduced _ (length c.args.out.now) c.args.lo.now c.args.hi.now c.loop-k.k (omega arith)))

pub returns : goal.returns
returns c =
    fill_end c.loop-k.invariant (omega (arith, length-reduced c.args.p (length c.args.out.now) c.args.lo.now c.args.hi.now)) (omega arith)
