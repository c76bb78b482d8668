-- `word_expansion::gain` meets its contract. The loop's invariant: the words below i are written, and the old word before word i is at hand.
-- Assumes nothing.
use Rattle.word_expansion.proofs.Loops.{Gaining}
use Rattle.word_expansion.proofs.gain.Given as goal

abbrev pub invariant-loop-word : goal.invariant-loop-word
invariant-loop-word l = Gaining l.p l.plus l.initial.x l.x l.word-index l.before
