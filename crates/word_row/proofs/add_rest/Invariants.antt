-- `word_row::add_rest` meets its contract. The loop's invariant: the words below i are those of the row, and the rest is as it was.
-- Assumes nothing.
use Rattle.field.specs.Fields.{modulus}
use Rattle.word_row.specs.Rows.{Partway}
use Rattle.word_row.proofs.add_rest.Given as goal

abbrev pub invariant-loop-i : goal.invariant-loop-i
invariant-loop-i l = Partway (modulus l.field) l.initial.x l.m l.y l.x l.i
