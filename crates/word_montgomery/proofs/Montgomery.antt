-- Montgomery's product, over the quotients and remainders of every division that it makes.
-- Theorems:
--     montgomery-rule      2^16 times it is x · y modulo p
--     montgomery-below     it is below p
-- Assumes nothing.
use Rattle.std.proofs.Common.{◌≡◌, ℕ, ◌+◌, ◌-◌, ◌*◌, ◌/◌, ◌%◌, ◌<◌, ◌≤◌, ap, le_refl, mod-lt, mul-le-mul, arith}
use native.Mathlib.Nat.{mod-add-div}
use Rattle.word_montgomery.specs.Montgomery.{multiplier, montgomery}
use Rattle.word_montgomery.proofs.Words.{same}

-- over the quotients and remainders of every division
module _ (p e k n h l q b t r : ℕ)
    (inverse : p * e ≡ 1 + 65536 * k)
    (product : l + 65536 * h ≡ n)
    (factor : q + 65536 * b ≡ l * e)
    (multiple : r + 65536 * t ≡ q * p)
    (ll : l < 65536) (lr : r < 65536) (lt : t ≤ p) where
  low_halves : l ≡ r
  low_halves = omega (arith, ap (λ x. x * p) factor, ap (λ x. l * x) inverse)

  difference : (h + (p - t)) * 65536 + p * q ≡ n + p * 65536
  difference = omega (arith, low_halves)

multiple-below : (p q : ℕ) → q < 65536 → q * p / 65536 ≤ p
multiple-below p q l = omega (arith, mul-le-mul {n₁ = q} {m₁ = p} {n₂ = 65535} {m₂ = p} (omega arith) (le_refl p))

pub montgomery-rule : (p e x y : ℕ) → p * e % 65536 ≡ 1 → (montgomery p e x y * 65536) % p ≡ (x * y) % p
unfolding montgomery multiplier
montgomery-rule p e x y inverse =
    let n = x * y in
    let l = n % 65536 in
    let q = l * e % 65536 in
    let m = n / 65536 + (p - q * p / 65536) in
    let equation = difference p e (p * e / 65536) n (n / 65536) l q (l * e / 65536) (q * p / 65536) (q * p % 65536)
    (omega (arith, inverse)) (omega arith) (omega arith) (omega arith) (omega arith) (omega arith) (multiple-below p q (omega arith)) in
    same p (m % p * 65536) n (m / p * 65536 + q) 65536 (omega (arith, equation, mod-add-div m p))

pub montgomery-below : (p e x y : ℕ) → 0 < p → montgomery p e x y < p
unfolding montgomery
montgomery-below p e x y l = mod-lt _ l
