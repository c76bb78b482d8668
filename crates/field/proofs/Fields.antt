-- Laws of the fields by their numbers.
--     p-at                                             field k's p is modulus k
--     modulus-first, modulus-second, modulus-third     p by the field's number: 0, 1, or neither
--     third                                            a number that is neither 0 nor 1 is 2 more than another
--     modulus-some, modulus-half, modulus-high         p is above 0, at least half of 2^16, and at most that of field 0
--     word-inverse, square-is, fourth-is               the constants are what their names say
--     longest-more, longest-some                       the longest list has more than 1 word
--     longest-fits, longest-in, longest-room           it has at most p words, and at most as many as the limit
--     longest-0, longest-full                          that of field 0 is the limit, and that of each field reaches it
-- Assumes nothing.
use mathlib.Core.Path.{◌≡◌, refl}
use Prim.Native.Nat.{ℕ, zero, suc, ◌-◌, ◌*◌, ◌%◌, ◌≤◌, ◌<◌}
use native.Mathlib.Omega.{arith}
use lib.Dec.{leb→le}
use Rattle.algebra.specs.PrimeField.{residue, value, inverse}
use Rattle.refusal.specs.Limits.{max_words}
use Rattle.field.specs.Fields.{modulus, field_at, longest, word_inverse, square, fourth, F65521, computes}

pub p-at : (k : ℕ) → (field_at k).p ≡ modulus k
unfolding field_at
p-at k = refl

pub third : (k : ℕ) → ¬ (k ≡ 0) → ¬ (k ≡ 1) → k ≡ suc (suc (k - 2))
third k a b = omega arith

pub modulus-first : {k : ℕ} → k ≡ 0 → modulus k ≡ modulus 0
modulus-first e = rw e

pub modulus-second : {k : ℕ} → k ≡ 1 → modulus k ≡ modulus 1
modulus-second e = rw e

pub modulus-third : {k : ℕ} → ¬ (k ≡ 0) → ¬ (k ≡ 1) → modulus k ≡ modulus 2
unfolding modulus
modulus-third {k} a b = rw (third k a b)

pub modulus-high : (k : ℕ) → modulus k ≤ 65521
unfolding modulus
modulus-high zero = leb→le 65521 65521 tt
modulus-high (suc zero) = leb→le 65519 65521 tt
modulus-high (suc (suc k)) = leb→le 65497 65521 tt

pub modulus-half : (k : ℕ) → 32768 ≤ modulus k
unfolding modulus
modulus-half zero = leb→le 32768 65521 tt
modulus-half (suc zero) = leb→le 32768 65519 tt
modulus-half (suc (suc k)) = leb→le 32768 65497 tt

pub modulus-some : (k : ℕ) → 0 < modulus k
modulus-some k = omega (arith, modulus-half k)

pub word-inverse : (k : ℕ) → modulus k * word_inverse k % 65536 ≡ 1
unfolding modulus word_inverse
word-inverse zero = refl
word-inverse (suc zero) = refl
word-inverse (suc (suc k)) = refl

pub square-is : (k : ℕ) → square k ≡ 65536 * 65536 % modulus k
unfolding modulus square
square-is zero = refl
square-is (suc zero) = refl
square-is (suc (suc k)) = refl

pub fourth-is : (k : ℕ) → fourth k ≡ 65536 * 65536 * 65536 * 65536 % modulus k
unfolding modulus fourth
fourth-is zero = refl
fourth-is (suc zero) = refl
fourth-is (suc (suc k)) = refl

pub longest-0 : longest 0 ≡ max_words
unfolding longest
longest-0 = refl

pub longest-more : (k : ℕ) → 1 < longest k
unfolding longest
longest-more k = omega arith

pub longest-some : (k : ℕ) → 0 < longest k
longest-some k = omega (arith, longest-more k)

pub longest-room : (k : ℕ) → longest k ≤ max_words
unfolding longest
longest-room k = omega arith

pub longest-full : (k : ℕ) → max_words ≤ longest k
unfolding longest
longest-full k = omega arith

pub longest-fits : (k : ℕ) → longest k ≤ modulus k
longest-fits k = omega (arith, longest-room k, modulus-half k)

pub longest-in : (k : ℕ) → longest k ≤ (field_at k).p
unfolding field_at
longest-in k = longest-fits k

-- 1/2 in field 0
half : value F65521 (inverse F65521 (residue F65521 2)) ≡ 32761
unfolding computes
half = refl
