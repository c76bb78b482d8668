-- `word_layout::weave` meets its contract: each turn is one word more, beside the one before it.
-- Assumes nothing.
use Rattle.word_layout.specs.Layout.{Woven}
use Rattle.word_layout.proofs.weave.Given as goal

abbrev pub invariant-loop-q : goal.invariant-loop-q
invariant-loop-q l = Woven l.y l.w l.q
