-- What the inverse of a coefficient answers, and what the answer is to its operand. The rows of refusals are `inverse_refusals` of the field.
--     inverse_answer     what the inverse answers over field k: the inverse
--     Inverts            the answer is the operand's inverse, or a refusal with the number 5 or 9; no case gives 11
-- Assumes nothing.
use Rattle.refusal.specs.declared.Refusal.{Refusal}
use Rattle.std.specs.Prelude.{◌≡◌, ◌⊎◌, [], ◌∷◌, ℕ, Ok, Err, Result}
use Rattle.refusal.specs.Refusal.{Reply, reply, number}
use Rattle.refusal.specs.Lowest.{lowest}
use Rattle.field.specs.Field.{IsInverse, inverse_of, inverse_refusals}
use Rattle.field.specs.Fields.{modulus, field_at}

abbrev pub inverse_answer : (k a : ℕ) → Reply
inverse_answer k a = reply (lowest (inverse_refusals (modulus k) a)) (inverse_of (field_at k) a ∷ [])

abbrev pub Inverts : ℕ → ℕ → Result ℕ Refusal → Type 0
Inverts p a (Ok b) = IsInverse p a b
Inverts p a (Err why) = (number why ≡ 5) ⊎ (number why ≡ 9)
