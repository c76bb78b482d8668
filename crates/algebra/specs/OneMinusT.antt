-- The polynomial 1 - t and its powers.
--     ⟨1-t⟩        the polynomial 1 - t
--     ⟨1-t⟩^ n     its power (1-t)^n
-- Theorems, each in the module of proofs/ that is named:
--     ⟨1-t⟩^-cancel               a factor (1-t)^n cancels (OneMinusT)
--     factor                      the factor theorem at 1: where s(1) = 0, s is 1 - t times a polynomial (Factors)
--     split_off, split-unique     every polynomial but 0 is (1-t)^k · core with core(1) not 0, and k is one (Factors)
--     divides-without-⟨1-t⟩       a divisor of (1-t)^N · h that is not 0 at 1 divides h (Factors)
-- Assumes nothing.
use Rattle.std.specs.Prelude.{ℕ}
use Rattle.algebra.specs.Ring as R
use Rattle.algebra.specs.Ring.{CommRing}
use Rattle.algebra.specs.Series.{SeriesRing, t}

module _ {Rg : CommRing} (X : SeriesRing Rg) where
  open X.ring use {Carrier as S, one as 1ˢ, neg as -ˢ◌, add as ◌+ˢ◌}

  infixl 65 ◌+ˢ◌
  infix 80 -ˢ◌
  unfoldable pub ⟨1-t⟩ : S
  ⟨1-t⟩ = 1ˢ +ˢ -ˢ t X

  unfoldable pub ⟨1-t⟩^ : ℕ → S
  ⟨1-t⟩^ n = R.pow X.ring ⟨1-t⟩ n
