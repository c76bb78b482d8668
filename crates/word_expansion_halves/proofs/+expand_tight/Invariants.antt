-- `word_expansion_halves::expand_tight`, which calls itself on both halves. The measure is the number of words.
-- Assumes nothing.
use Rattle.std.proofs.Common.{length}
use Rattle.word_expansion_halves.proofs.+expand_tight.Given as goal

abbrev pub decreases-expand_tight : goal.decreases-expand_tight
decreases-expand_tight l = length l.x.now
