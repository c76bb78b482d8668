-- `word_layout::repeat_pair` meets its contract: each turn is one pair more.
-- Assumes nothing.
use Rattle.word_layout.specs.Layout.{Repeated}
use Rattle.word_layout.proofs.repeat_pair.Given as goal

abbrev pub invariant-loop-l : goal.invariant-loop-l
invariant-loop-l l = Repeated l.o l.s l.t l.l l.initial.v l.v
