-- The arithmetic of coefficients: words below p, with sum, difference, product and inverse modulo p.
--     loose p a                  a loose word: p or more, so no coefficient
--     word_reply word            what an answer says that is a word: 0 and the word, or the refusal's number
--     sum_of p a b               the sum of two coefficients modulo p
--     difference_of p a b         the difference
--     product_of p a b            the product
--     IsInverse p a b             b is the inverse of a: from 1 to p - 1, a · b leaves 1 modulo p, and no other such word does
--     inverse_of F a              the inverse of a coefficient, as the field Z/p has it
--     inverse_or_zero F a         the inverse of a coefficient that is not 0; else 0
--     has_inverse_below p a n     some word below n is an inverse of a
--     has_inverse p a             some word below p is
--     operand_refusals p a b      the rows of document 01's table for a call on two operands
--     inverse_refusals p a        those for the inverse
-- Theorems (proofs/Field), on words below p, for every prime field:
--     residue-sum, residue-difference, residue-product, residue-inverse     each operation is the field's, on residues
--     sum_lt, difference-lt, product_lt                                     each result is a coefficient
--     inverse-is                                                            every coefficient but 0 has its inverse, and inverse_of is it
--     has-inverse                                                           so none but 0 is refused for lack of one
-- Assumes nothing.
use Rattle.refusal.specs.declared.Refusal.{Refusal}
use Rattle.std.specs.Prelude.{◌≡◌, Bool, false, cond, not, ◌&&◌, ◌||◌, List, [], ◌∷◌, ℕ, zero, suc, ◌+◌, ◌-◌, ◌*◌, ◌%◌, ◌≤◌, ◌<◌, leb, ltb, eqb, Result}
use Rattle.algebra.specs.PrimeField.{PrimeField, residue, value, inverse}
use Rattle.refusal.specs.Refusal.{Reply, value_reply}
use Rattle.refusal.specs.Lowest.{Condition, ◌given-when◌}
use Rattle.refusal.specs.declared.Refusal.TheVariants.{LooseWord, AllZero, NoInverse}

abbrev pub loose : ℕ → ℕ → Bool
loose p a = leb p a

abbrev pub word_reply : Result ℕ Refusal → Reply
word_reply = value_reply (λ word. word)

abbrev pub operand_refusals : ℕ → ℕ → ℕ → List Condition
operand_refusals p a b = LooseWord given-when (loose p a || loose p b) ∷ []

abbrev pub sum_of : ℕ → ℕ → ℕ → ℕ
sum_of p a b = (a + b) % p

abbrev pub difference_of : ℕ → ℕ → ℕ → ℕ
difference_of p a b = (a + (p - b)) % p

abbrev pub product_of : ℕ → ℕ → ℕ → ℕ
product_of p a b = (a * b) % p

pub record IsInverse (p a b : ℕ) : Type 0 where
  pub low : 1 ≤ b
  pub high : b < p
  pub one : (a * b) % p ≡ 1
  pub only : (d : ℕ) → 1 ≤ d → d < p → (a * d) % p ≡ 1 → d ≡ b

unfoldable pub inverse_of : PrimeField → ℕ → ℕ
inverse_of F a = value F (inverse F (residue F a))

unfoldable pub inverse_or_zero : PrimeField → ℕ → ℕ
inverse_or_zero F a = cond (ltb 0 a && ltb a F.p) (inverse_of F a) 0

-- some word below n is an inverse of a
unfoldable pub has_inverse_below : ℕ → ℕ → ℕ → Bool
has_inverse_below p a zero = false
has_inverse_below p a (suc n) = eqb ((a * n) % p) 1 || has_inverse_below p a n

abbrev pub has_inverse : ℕ → ℕ → Bool
has_inverse p a = has_inverse_below p a p

abbrev pub inverse_refusals : ℕ → ℕ → List Condition
inverse_refusals p a =
    LooseWord given-when loose p a ∷
    AllZero given-when eqb a 0 ∷
    NoInverse given-when (not (eqb a 0) && not (has_inverse p a)) ∷
    []
