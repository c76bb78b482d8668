-- `word_scaling::weigh_in` meets its contract. The loop's invariant: the words below k are written.
-- Assumes nothing.
use Rattle.std.proofs.Common.{sym, ◌∙◌, arith, rules}
use Rattle.lists.proofs.Filled.{fill_start, fill_step, fill_end}
use Rattle.word_scaling.proofs.Weights.{length-weighted, get_or-weighted}
use Rattle.word_scaling.proofs.weigh_in.Goals as goal

pub returns-then-is_empty : goal.returns-then-is_empty
returns-then-is_empty c = fill_end (fill_start _ _) (sym (length-weighted _ _ _ _ _)) (search rules)

pub loop-k-preserved : goal.loop-k-preserved
loop-k-preserved c = fill_step _ c.loop-k.invariant (omega arith) (c.product_of_four.ensures ∙ sym (get_or-weighted _ _ _ _ _ _ (omega arith)))

pub returns : goal.returns
returns c = fill_end c.loop-k.invariant (c.loop-k.auto.out ∙ sym (length-weighted _ _ _ _ _)) (omega arith)
