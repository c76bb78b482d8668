-- `word_scaling::weigh_in` meets its contract. The loop's invariant: the words below k are written.
-- Assumes nothing.
use Rattle.lists.proofs.Filled.{Filled}
use Rattle.field.specs.Fields.{modulus}
use Rattle.word_scaling.specs.Scaling.{weighted}
use Rattle.word_scaling.proofs.weigh_in.Given as goal

abbrev pub invariant-loop-k : goal.invariant-loop-k
invariant-loop-k l = Filled l.out l.k (weighted (modulus l.field) l.whole l.part l.n l.words)
