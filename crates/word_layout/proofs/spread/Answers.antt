-- `word_layout::spread` meets its contract: each turn is one pair of x more.
-- Assumes nothing.
use Rattle.word_layout.proofs.Loops.{spread-next}
use Rattle.word_layout.proofs.spread.Goals as goal

pub loop-j-preserved : goal.loop-j-preserved
loop-j-preserved c = spread-next c.repeat_pair.ensures c.loop-j.invariant
