-- The table of inverses.
--     inverses_from k n F     the inverses of the n numbers k, k + 1, …
--     inverse_table n F       0, then the inverses of 1, …, n
-- Theorems (proofs/InverseLaws):
--     table-length     it has n + 1 entries
--     table-entry      entry k is the inverse of k
--     table-rule       k times entry k leaves 1 modulo p
-- Assumes nothing.
use Rattle.std.specs.Prelude.{List, [], ◌∷◌, ℕ, zero, suc}
use Rattle.algebra.specs.PrimeField.{PrimeField}
use Rattle.field.specs.Field.{inverse_of}

-- the inverses of the n numbers k, k + 1, …
unfoldable pub inverses_from : ℕ → ℕ → PrimeField → List ℕ
inverses_from k zero F = []
inverses_from k (suc n) F = inverse_of F k ∷ inverses_from (suc k) n F

unfoldable pub inverse_table : ℕ → PrimeField → List ℕ
inverse_table n F = 0 ∷ inverses_from 1 n F
