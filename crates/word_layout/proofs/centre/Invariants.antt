-- `word_layout::centre` meets its contract: each turn is one word more.
-- Assumes nothing.
use Rattle.word_layout.specs.Layout.{Centred}
use Rattle.word_layout.proofs.centre.Given as goal

abbrev pub invariant-loop-i : goal.invariant-loop-i
invariant-loop-i l = Centred l.p l.d l.list l.s l.i
