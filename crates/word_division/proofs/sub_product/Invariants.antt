-- `word_division::sub_product` meets its contract. The loop's invariant: the product with the first k words of q is taken off, and the words of s
-- are below p.
-- Assumes nothing.
use mathlib.Core.Path.{◌≡◌}
use Rattle.field.specs.Fields.{modulus}
use Rattle.lists.specs.Words.{Tight}
use Rattle.word_division.specs.Reduction.{less_product_to}
use Rattle.word_division.proofs.sub_product.Given as goal

abbrev pub invariant-loop-k : goal.invariant-loop-k
invariant-loop-k l = Tight (modulus l.field) l.s × (l.s ≡ less_product_to (modulus l.field) l.k l.initial.s l.q l.t)
