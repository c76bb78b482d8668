-- A list given by a rule.
--     tabulate n f     the list f 0, f 1, …, f (n - 1)
-- Theorems (proofs/Tabulate):
--     tabulated     a list of n words that follows the rule is the tabulated one
-- Assumes nothing.
use Rattle.std.specs.Prelude.{List, [], ◌∷◌, ℕ, zero, suc}

unfoldable pub tabulate : ℕ → (ℕ → ℕ) → List ℕ
tabulate zero f = []
tabulate (suc n) f = f 0 ∷ tabulate n (λ k. f (suc k))
