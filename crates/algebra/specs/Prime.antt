-- Prime numbers.
--     Prime p     p is above 1, and only 1 and p divide it
-- Theorems (proofs/Prime):
--     prime-of-test     a number that passes a test by trial division is prime
-- Assumes nothing.
use Rattle.std.specs.Prelude.{◌≡◌, ◌⊎◌, ℕ, ◌<◌}
use Rattle.std.specs.Int.{◌∣◌}

pub record Prime (p : ℕ) : Type 0 where
  pub big : 1 < p
  pub only : (d : ℕ) → d ∣ p → (d ≡ 1) ⊎ (d ≡ p)
