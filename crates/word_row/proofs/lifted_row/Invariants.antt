-- `word_row::lifted_row` meets its contract. The loop's invariant: with the constants of any m the words below j are those of the row, and the
-- rest is as it was.
-- Assumes nothing.
use Rattle.std.proofs.Common.{ℕ}
use Rattle.word_row.specs.Rows.{Partway}
use Rattle.word_row.specs.Montgomery.{Factor}
use Rattle.word_row.proofs.Loops.{Kept}
use Rattle.word_row.proofs.lifted_row.Given as goal

abbrev pub invariant-loop-j : goal.invariant-loop-j
invariant-loop-j l = Kept l.initial.x l.x l.j × ((e m : ℕ) → Factor l.p e m l.g l.s → Partway l.p l.initial.x m l.y l.x l.j)
