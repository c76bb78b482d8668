-- `lists::significant_words` meets its contract: the first number that the search gives.
-- Assumes nothing.
use Rattle.lists.proofs.significant_words.Goals as goal

pub returns : goal.returns
returns c = c.search_from_top.ensures.words
