-- `words::read_words` meets its contract. The loop's invariant: the words below k are those of the bytes.
-- Assumes nothing.
use Rattle.lists.specs.Bytes.{words_of}
use Rattle.lists.proofs.Filled.{Filled}
use Rattle.words.proofs.read_words.Given as goal

abbrev pub invariant-loop-k : goal.invariant-loop-k
invariant-loop-k l = Filled l.words l.k (words_of l.bytes)
