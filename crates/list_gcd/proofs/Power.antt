-- The common power of two lists, by which of them are zero.
-- Assumes nothing.
use mathlib.Core.Path.{◌≡◌}
use mathlib.Core.List.{List, [], ◌∷◌}
use Prim.Native.Nat.{ℕ, min}
use borrow.Author.Tests.{eq-eqb, ne_eqb}
use Rattle.lists.specs.Degrees.{significant, power}
use Rattle.euclid_theory.specs.Gcd.{powers, least, common_power}

module _ (f g : List ℕ) where
  pub none : significant f ≡ 0 → significant g ≡ 0 → common_power (f ∷ g ∷ []) ≡ 0
  unfolding common_power powers least
  none ef eg = rw (eq-eqb (significant f) 0 ef, eq-eqb (significant g) 0 eg)

  pub second : significant f ≡ 0 → ¬ (significant g ≡ 0) → common_power (f ∷ g ∷ []) ≡ power g
  unfolding common_power powers least
  second ef hg = rw (eq-eqb (significant f) 0 ef, ne_eqb (significant g) 0 hg)

  pub first : ¬ (significant f ≡ 0) → significant g ≡ 0 → common_power (f ∷ g ∷ []) ≡ power f
  unfolding common_power powers least
  first hf eg = rw (ne_eqb (significant f) 0 hf, eq-eqb (significant g) 0 eg)

  pub both : ¬ (significant f ≡ 0) → ¬ (significant g ≡ 0) → common_power (f ∷ g ∷ []) ≡ min (power f) (power g)
  unfolding common_power powers least
  both hf hg = rw (ne_eqb (significant f) 0 hf, ne_eqb (significant g) 0 hg)
