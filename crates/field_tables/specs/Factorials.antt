-- Factorials, and tables of them modulo p.
--     factorial k                  k!
--     factorial_in F k             k! as an element of the field
--     inverse_factorial_in F k     1/k! as an element of the field
--     Holds F n f table            the table has at least n entries, and the first n stand for f 0, f 1, …, f (n - 1)
--     Tables F n whole part        whole holds the factorials of 0 to n - 1, and part their inverses
--     TablesFor k whole part       tables of the field of number k, for lists of as many words as they have entries
-- Theorems (proofs/FactorialLaws):
--     choose-factorials     C(k+m, k) · k! · m! = (k+m)!
--     factorial-nonzero     k! is not 0 in the field for k below p
-- Assumes nothing.
use Rattle.std.specs.Prelude.{◌≡◌, List, ℕ, zero, suc, ◌*◌, ◌≤◌, ◌<◌, get_or, length}
use Rattle.algebra.specs.PrimeField.{PrimeField, scalars, residue, inverse}
use Rattle.field.specs.Fields.{field_at, longest}

unfoldable pub factorial : ℕ → ℕ
factorial zero = 1
factorial (suc k) = factorial k * suc k

unfoldable pub factorial_in : (F : PrimeField) → ℕ → (scalars F).Carrier
factorial_in F k = residue F (factorial k)

unfoldable pub inverse_factorial_in : (F : PrimeField) → ℕ → (scalars F).Carrier
inverse_factorial_in F k = inverse F (factorial_in F k)

pub record Holds (F : PrimeField) (n : ℕ) (f : ℕ → (scalars F).Carrier) (table : List ℕ) : Type 0 where
  pub long : n ≤ length table
  pub at : (k : ℕ) → k < n → residue F (get_or table k 0) ≡ f k

pub record Tables (F : PrimeField) (n : ℕ) (whole part : List ℕ) : Type 0 where
  pub factorials : Holds F n (factorial_in F) whole
  pub inverses : Holds F n (inverse_factorial_in F) part

pub record TablesFor (k : ℕ) (whole part : List ℕ) : Type 0 where
  pub tables : Tables (field_at k) (length whole) whole part
  pub few : length whole ≤ longest k
