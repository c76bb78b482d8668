-- What the calls on two coefficients a and b answer, over field k: the lowest number that applies, or the word named.
--     word_sum_answer, word_difference_answer, word_product_answer     of the sum, the difference and the product
-- Assumes nothing.
use Rattle.std.specs.Prelude.{[], ◌∷◌, ℕ}
use Rattle.refusal.specs.Refusal.{Reply, reply}
use Rattle.refusal.specs.Lowest.{lowest}
use Rattle.field.specs.Fields.{modulus}
use Rattle.field.specs.Field.{operand_refusals, sum_of, difference_of, product_of}

abbrev pub word_sum_answer : (k a b : ℕ) → Reply
word_sum_answer k a b = reply (lowest (operand_refusals (modulus k) a b)) (sum_of (modulus k) a b ∷ [])

abbrev pub word_difference_answer : (k a b : ℕ) → Reply
word_difference_answer k a b = reply (lowest (operand_refusals (modulus k) a b)) (difference_of (modulus k) a b ∷ [])

abbrev pub word_product_answer : (k a b : ℕ) → Reply
word_product_answer k a b = reply (lowest (operand_refusals (modulus k) a b)) (product_of (modulus k) a b ∷ [])
