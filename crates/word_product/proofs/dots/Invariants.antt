-- `word_product::dots` meets its contract: the words below k are written.
-- Assumes nothing.
use lib.ListN.{length}
use Rattle.field.specs.Fields.{modulus}
use Rattle.lists.proofs.Filled.{Filled}
use Rattle.word_product.specs.Sums.{remainders}
use Rattle.word_product.proofs.dots.Given as goal

abbrev pub invariant-loop-k : goal.invariant-loop-k
invariant-loop-k l = Filled l.out l.k (remainders (modulus l.field) (length l.initial.out) l.a l.b)
