-- The table of inverses, entry by entry.
-- Theorems:
--     table-length     it has n + 1 entries
--     table-entry      entry k is the inverse of k
--     table-rule       k times entry k leaves 1 modulo p
-- Assumes nothing.
use mathlib.Core.Path.{◌≡◌, refl, ap, ◌∙◌}
use Prim.Native.Nat.{ℕ, zero, suc, ◌+◌, ◌*◌, ◌%◌, ◌≤◌, ◌<◌}
use native.Mathlib.Nat.{le_of_suc-le-suc}
use native.Mathlib.Omega.{arith}
use lib.ListN.{length, get_or}
use Rattle.algebra.specs.PrimeField.{PrimeField}
use Rattle.field.specs.Field.{inverse_of}
use Rattle.field.proofs.Field.{inverse-is}
use Rattle.field_tables.specs.Inverses.{inverses_from, inverse_table}

module _ (F : PrimeField) where
  length_from : (k n : ℕ) → length (inverses_from k n F) ≡ n
  unfolding inverses_from
  length_from k zero = refl
  length_from k (suc n) = ap suc (length_from (suc k) n)

  entry-from : (k n i : ℕ) → i < n → get_or (inverses_from k n F) i 0 ≡ inverse_of F (k + i)
  unfolding inverses_from
  entry-from k zero i l = absurd (omega arith)
  entry-from k (suc n) zero l = ap (inverse_of F) (omega arith)
  entry-from k (suc n) (suc i) l = entry-from (suc k) n i (le_of_suc-le-suc l) ∙ ap (inverse_of F) (omega arith)

  pub table-length : (n : ℕ) → length (inverse_table n F) ≡ n + 1
  unfolding inverse_table
  table-length n = ap suc (length_from 1 n) ∙ omega arith

  pub table-entry : (n k : ℕ) → 1 ≤ k → k ≤ n → get_or (inverse_table n F) k 0 ≡ inverse_of F k
  unfolding inverse_table
  table-entry n zero s l = absurd (omega arith)
  table-entry n (suc k) s l = entry-from 1 n k l ∙ ap (inverse_of F) (omega arith)

  pub table-rule : (n k : ℕ) → n < F.p → 1 ≤ k → k ≤ n → (k * get_or (inverse_table n F) k 0) % F.p ≡ 1
  table-rule n k h s l = ap (λ x. (k * x) % F.p) (table-entry n k s l) ∙ (inverse-is F k s (omega arith)).one
