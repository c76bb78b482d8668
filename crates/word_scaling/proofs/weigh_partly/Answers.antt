-- `word_scaling::weigh_partly` meets its contract. The loop's invariant: the words below k are written.
-- Assumes nothing.
use Rattle.std.proofs.Common.{sym, ◌∙◌, arith}
use Rattle.lists.proofs.Filled.{fill_step, fill_end}
use Rattle.word_scaling.proofs.Weights.{length-partly, get_or-partly}
use Rattle.word_scaling.proofs.weigh_partly.Goals as goal

pub loop-k-preserved : goal.loop-k-preserved
loop-k-preserved c = fill_step _ c.loop-k.invariant (omega arith) (c.product_of_three.ensures ∙ sym (get_or-partly _ _ _ _ _ _ (omega arith)))

pub returns : goal.returns
returns c = fill_end c.loop-k.invariant (c.loop-k.auto.out ∙ sym (length-partly _ _ _ _ _)) (omega arith)
