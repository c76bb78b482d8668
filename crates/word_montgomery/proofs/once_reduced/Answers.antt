-- `word_montgomery::once_reduced` meets its contract: a is below 2 p, so one p is enough to take off.
-- Assumes nothing.
use Rattle.std.proofs.Common.{sym, mod-eq_of_lt, arith}
use Rattle.word_montgomery.proofs.Words.{once}
use Rattle.word_montgomery.proofs.once_reduced.Goals as goal

pub returns-then-a-p : goal.returns-then-a-p
returns-then-a-p c = sym (mod-eq_of_lt c.if-a-p.true)

pub returns-else-a-p : goal.returns-else-a-p
returns-else-a-p c = once _ _ c.if-a-p.false (omega arith)
