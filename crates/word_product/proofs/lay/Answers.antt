-- `word_product::lay` meets its contract: the buffers are what the loops leave.
-- Assumes nothing.
use Rattle.word_product.proofs.Laying.{ready}
use Rattle.word_product.proofs.lay.Goals as goal

pub returns : goal.returns
returns c = ready c.args.n c.centre.ensures c.centre-2.ensures c.weave.ensures c.requires.le_p.2
