-- `word_row::montgomery_row` meets its contract. The loop's invariant: g and s are the constants of m, the words below j are those of the row,
-- and the rest is as it was.
-- Assumes nothing.
use Rattle.word_row.specs.Rows.{Partway}
use Rattle.word_row.specs.Montgomery.{Factor}
use Rattle.word_row.proofs.montgomery_row.Given as goal

abbrev pub invariant-loop-j : goal.invariant-loop-j
invariant-loop-j l = Factor l.p l.e l.m l.g l.s × Partway l.p l.initial.x l.m l.y l.x l.j
