-- `word_layout::centred` meets its contract: a word from 2^15 on stands for itself less p.
-- Assumes nothing.
use Rattle.std.proofs.Common.{arith}
use Rattle.word_layout.proofs.Loops.{stand-low, stand-high}
use Rattle.word_layout.proofs.centred.Goals as goal

pub returns-then-a-lt32768 : goal.returns-then-a-lt32768
returns-then-a-lt32768 c = stand-low _ _ c.if-a-lt32768.true

pub returns-else-a-lt32768 : goal.returns-else-a-lt32768
returns-else-a-lt32768 c = stand-high _ _ _ (omega arith) (omega arith) (omega arith) (omega arith) (omega arith) (omega arith)
