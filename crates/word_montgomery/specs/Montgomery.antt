-- Montgomery's product of words of 16 bits, modulo an odd p.
--     multiplier e x y       the factor of the multiple of p whose low half is that of x · y, where e is 1/p modulo 2^16
--     montgomery p e x y     x · y / 2^16 modulo p: the high half of x · y, less that of this multiple
-- Theorems (proofs/Montgomery):
--     montgomery-rule      2^16 times it is x · y modulo p
--     montgomery-below     it is below p
-- Assumes nothing.
use Rattle.std.specs.Prelude.{ℕ, ◌+◌, ◌-◌, ◌*◌, ◌/◌, ◌%◌}

-- the factor of that multiple
unfoldable pub multiplier : (e x y : ℕ) → ℕ
multiplier e x y = x * y % 65536 * e % 65536

unfoldable pub montgomery : (p e x y : ℕ) → ℕ
montgomery p e x y = (x * y / 65536 + (p - multiplier e x y * p / 65536)) % p
