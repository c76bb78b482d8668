-- `list_cofactors::cofactor_words` meets its contract: the number of words from the naive degrees.
-- Assumes nothing.
use borrow.Author.Rules.{rules}
use native.Mathlib.Omega.{arith}
use Rattle.lists.specs.Degrees.{naive_degree}
use Rattle.list_cofactors.proofs.Slices.{words-found}
use Rattle.list_cofactors.proofs.cofactor_words.Goals as goal

pub overflow_add-result : goal.overflow_add-result
unfolding naive_degree
overflow_add-result c = search rules

pub returns : goal.returns
returns c = words-found c.args.list.now c.args.other.now c.degree_of-d.ensures c.degree_of-e.ensures (omega arith)
