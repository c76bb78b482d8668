-- `word_pairs::pair_at` meets its contract: it reads the four words.
-- Assumes nothing.
use Rattle.word_pairs.proofs.Integers.{rd-fits, rd-up}
use Rattle.word_pairs.proofs.pair_at.Goals as goal

pub pair-requires : goal.pair-requires
pair-requires c = (c.requires.6.at _, c.requires.6.at _)

pub returns : goal.returns
returns c = (rd-fits c.pair.result c.pair.ensures.0, rd-up c.pair.result c.pair.ensures.0 c.pair.ensures.1)
