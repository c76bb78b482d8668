-- `word_expansion_halves::next_sign` meets its contract: its test is the sign.
-- Assumes nothing.
use borrow.Author.Rules.{rules}
use Rattle.word_expansion.specs.Expansion.{signed}
use Rattle.word_expansion_halves.proofs.next_sign.Goals as goal

pub returns-then-plus : goal.returns-then-plus
unfolding signed
returns-then-plus c = search rules

pub returns-else-plus : goal.returns-else-plus
unfolding signed
returns-else-plus c = search rules
