-- `word_layout::centre` meets its contract: each turn is one word more.
-- Assumes nothing.
use Rattle.word_layout.proofs.Loops.{centre-start}
use Rattle.word_layout.proofs.centre.Goals as goal

pub loop-i-init : goal.loop-i-init
loop-i-init c = centre-start _ _ _ _ c.requires.3
