-- `word_scaling::weigh_partly` meets its contract. The loop's invariant: the words below k are written.
-- Assumes nothing.
use Rattle.lists.proofs.Filled.{Filled}
use Rattle.field.specs.Fields.{modulus, word_inverse}
use Rattle.word_scaling.specs.Scaling.{partly_weighted}
use Rattle.word_scaling.proofs.weigh_partly.Given as goal

abbrev pub invariant-loop-k : goal.invariant-loop-k
invariant-loop-k l = Filled l.out l.k (partly_weighted (modulus l.field) (word_inverse l.field) l.part l.n l.words)
