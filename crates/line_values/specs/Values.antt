-- The value of a tree over the lists of an album, by document 01's operations, leftmost operand first.
--     Valued                                       what a tree comes to: a list, or the refusal of the first operation that refuses
--     both, one                                    an operation on two operands, the left one first, and on one: the refusal of an operand
--                                                  goes before it
--     added, subtracted, multiplied, derived       the operations: a product of more words than the longest list is refused with 6, over;
--                                                  no other can be refused
--     value_of                                      the value of a tree; a number names a list of the album
--     lacks                                        the tree has an operand that an album of so many lists lacks
-- Theorems (proofs/Values):
--     value-listed      over lists that no call refuses, a value is such a list
--     only-over         the refusal of a tree is 6
--     lacks-tokens      (proofs/Programs) a tree lacks a list exactly where the tokens do that read as it
-- Assumes nothing.
use Rattle.std.specs.Prelude.{Bool, cond, ◌||◌, List, [], ℕ, suc, ◌+◌, leb, ltb, get_or}
use Rattle.algebra.specs.PrimeField.{PrimeField}
use Rattle.refusal.specs.declared.Refusal.{Refusal}
use Rattle.refusal.specs.declared.Refusal.TheVariants.{Over}
use Rattle.lists.specs.Degrees.{naive_degree}
use Rattle.lists.specs.Operations as of
use Rattle.lines.specs.Grammar.{Tree, list, sum, difference, product, derivative}

pub data Valued : Type 0 where
  value : List ℕ → Valued
  refused : Refusal → Valued

unfoldable pub both : (List ℕ → List ℕ → Valued) → Valued → Valued → Valued
both f (value a) (value b) = f a b
both f (value a) (refused why) = refused why
both f (refused why) b = refused why

unfoldable pub one : (List ℕ → Valued) → Valued → Valued
one f (value a) = f a
one f (refused why) = refused why

module _ (F : PrimeField) (most : ℕ) where
  abbrev pub added : List ℕ → List ℕ → Valued
  added a b = value (of.sum_of F a b)

  abbrev pub subtracted : List ℕ → List ℕ → Valued
  subtracted a b = value (of.difference_of F a b)

  abbrev pub multiplied : List ℕ → List ℕ → Valued
  multiplied a b = cond (ltb most (suc (naive_degree a + naive_degree b))) (refused Over) (value (of.product F a b))

  abbrev pub derived : List ℕ → Valued
  derived a = value (of.derivative F a)

  unfoldable pub value_of : List (List ℕ) → Tree → Valued
  value_of lists (list n) = value (get_or lists n [])
  value_of lists (sum a b) = both added (value_of lists a) (value_of lists b)
  value_of lists (difference a b) = both subtracted (value_of lists a) (value_of lists b)
  value_of lists (product a b) = both multiplied (value_of lists a) (value_of lists b)
  value_of lists (derivative a) = one derived (value_of lists a)

unfoldable pub lacks : ℕ → Tree → Bool
lacks lists (list n) = leb lists n
lacks lists (sum a b) = lacks lists a || lacks lists b
lacks lists (difference a b) = lacks lists a || lacks lists b
lacks lists (product a b) = lacks lists a || lacks lists b
lacks lists (derivative a) = lacks lists a
