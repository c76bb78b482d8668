-- The fields of the engine by their numbers. Every number has a field, so that what takes one is total; the calls say which numbers they take.
--     modulus k         p of field k: 65,521, 65,519, and 65,497 for 2 and above
--     prime-at k        p is prime, by trial division
--     field_at k         field k
--     longest k          the largest number of words of a list over field k
--     word_inverse k     1/p modulo 2^16
--     square k           2^32 modulo p
--     fourth k           2^64 modulo p
--     p, F65521          document 01's p and its field: those of field 0
--     computes           stands for all that a closed computation over a field has to open: say `unfolding computes`
-- Theorems (proofs/Fields):
--     word-inverse, square-is, fourth-is     the constants are what their names say
--     longest-fits                           no list over a field has more than p words
-- Assumes nothing.
use Rattle.std.specs.Prelude.{Bool, true, ℕ, zero, suc}
use Rattle.algebra.specs.Prime.{Prime}
use Rattle.algebra.proofs.Prime.{prime-of-test}
use Rattle.algebra.specs.Zp.{Zp}
use Rattle.algebra.specs.Series.{series}
use Rattle.algebra.specs.PrimeField as A
use Rattle.algebra.specs.PrimeField.{PrimeField}
use Rattle.refusal.specs.Limits.{max_words}

unfoldable pub modulus : ℕ → ℕ
modulus zero = 65521
modulus (suc zero) = 65519
modulus (suc (suc k)) = 65497

-- by trial division with 2, …, 256
unfoldable pub prime-at : (k : ℕ) → Prime (modulus k)
unfolding modulus
prime-at zero = prime-of-test 65521 255 tt
prime-at (suc zero) = prime-of-test 65519 255 tt
prime-at (suc (suc k)) = prime-of-test 65497 255 tt

unfoldable pub field_at : ℕ → PrimeField
field_at k = record { p = modulus k; prime = prime-at k; series = series (Zp (modulus k) (prime-at k)) }

unfoldable pub longest : ℕ → ℕ
longest k = max_words

unfoldable pub word_inverse : ℕ → ℕ
word_inverse zero = 4369
word_inverse (suc zero) = 3855
word_inverse (suc (suc k)) = 36969

unfoldable pub square : ℕ → ℕ
square zero = 225
square (suc zero) = 289
square (suc (suc k)) = 1521

unfoldable pub fourth : ℕ → ℕ
fourth zero = 50625
fourth (suc zero) = 18002
fourth (suc (suc k)) = 21046

abbrev pub p : ℕ
p = modulus 0

abbrev pub F65521 : PrimeField
F65521 = field_at 0

unfoldable pub computes : Bool
unfolding A.computes modulus prime-at field_at
computes = true
