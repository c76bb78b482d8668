-- `word_karatsuba::add_words` meets its contract. The loop's invariant: the words below i are those of the row, and the rest is as it was.
-- Assumes nothing.
use Rattle.word_row.specs.Rows.{Partway}
use Rattle.word_karatsuba.proofs.add_words.Given as goal

abbrev pub invariant-loop-i : goal.invariant-loop-i
invariant-loop-i l = Partway l.p l.initial.x 1 l.y l.x l.i
