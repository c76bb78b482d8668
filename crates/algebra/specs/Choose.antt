-- Binomial coefficients.
--     choose n k     the binomial coefficient C(n, k), by Pascal's rule; 0 for k above n
-- Theorems (proofs/Choose):
--     pascal               C(n+1, k+1) = C(n, k) + C(n, k+1)
--     choose-symmetric     C(n, k) = C(n, n-k)
--     absorb               C(n, k+1) · (k+1) = C(n, k) · (n-k)
--     choose-nonzero       modulo a prime above n none of C(n, 0), …, C(n, n) is 0
-- Assumes nothing.
use Rattle.std.specs.Prelude.{ℕ, zero, suc, ◌+◌}

unfoldable pub choose : (n k : ℕ) → ℕ
choose n zero = 1
choose zero (suc k) = 0
choose (suc n) (suc k) = choose n k + choose n (suc k)
