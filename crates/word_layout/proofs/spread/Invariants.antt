-- `word_layout::spread` meets its contract: each turn is one pair of x more.
-- Assumes nothing.
use Rattle.word_strips.specs.Strips.{Spread}
use Rattle.word_layout.proofs.spread.Given as goal

abbrev pub invariant-loop-j : goal.invariant-loop-j
invariant-loop-j l = Spread l.j l.v l.x l.d
