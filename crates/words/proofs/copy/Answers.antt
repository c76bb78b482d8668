-- `words::copy` meets its contract: the words where the slice is as long, and else what it held.
-- Assumes nothing.
use Rattle.std.proofs.Common.{sym, ◌∙◌}
use Rattle.words.proofs.Transfer.{copied-fit, copied-not}
use Rattle.words.proofs.copy.Goals as goal

pub returns-then-from-to : goal.returns-then-from-to
returns-then-from-to c = c.copy_from_slice.ensures.after ∙ sym (copied-fit _ _ c.if-from-to.true)

pub returns-else-from-to : goal.returns-else-from-to
returns-else-from-to c = sym (copied-not _ _ c.if-from-to.false)
