-- The field's p, as the reduction asks for it.
--     modulus-low     p is at least that of field 2
-- Assumes nothing.
use Prim.Native.Nat.{ℕ, zero, suc, ◌≤◌}
use lib.Dec.{leb→le}
use Rattle.field.specs.Fields.{modulus}

pub modulus-low : (k : ℕ) → 65497 ≤ modulus k
unfolding modulus
modulus-low zero = leb→le 65497 65521 tt
modulus-low (suc zero) = leb→le 65497 65519 tt
modulus-low (suc (suc k)) = leb→le 65497 65497 tt
