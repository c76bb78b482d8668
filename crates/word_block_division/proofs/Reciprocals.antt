-- A block of a quotient by the reciprocal of the divisor's top, as series, for every prime field F. The divisor is r = l + u^c · h, with e words in
-- its top h; m is u^(e-1), and s the reciprocal, so that m · m = s · h + ρ. The dividend is w + u^(c+e-1) · v, and v · s = σ + m · q.
--     unshifted          what is below m + j with u^m before it is below j
-- Theorems:
--     block-rest         with q as the quotient, what is left is below the divisor's degree
-- Assumes nothing.
use mathlib.Core.Path.{◌≡◌, sym, ◌∙◌, ap, subst}
use Prim.Native.Nat.{ℕ, ◌+◌, ◌-◌, ◌*◌, ◌≤◌}
use native.Mathlib.Omega.{arith}
use Rattle.algebra.specs.RingLaws as R
use Rattle.algebra.specs.RingLaws.{RING}
use Rattle.algebra.specs.Polynomial.{Below}
use Rattle.algebra.proofs.Polynomial.{below-mono, below-add, below-neg, below-mul, below-monomial}
use Rattle.algebra.proofs.Division.{coeff-monomial-mul}
use Rattle.algebra.specs.PrimeField.{PrimeField, scalars}
use Rattle.word_karatsuba.proofs.Karatsuba.{power-add}
use Rattle.word_block_division.specs.Blocks.{power}

module _ (F : PrimeField) where
  open scalars F use {Carrier as K, zero as 𝟘, one as 𝟙}
  open F.series.ring use {Carrier as S, neg as -ˢ◌, add as ◌+ˢ◌, mul as ◌*ˢ◌}

  infixl 65 ◌+ˢ◌
  infixl 70 ◌*ˢ◌
  infix 80 -ˢ◌
  unshifted : (m j : ℕ) {z : S} → Below F.series (m + j) (power F m *ˢ z) → Below F.series j z
  unshifted m j {z} b =
      record { at = λ i l. sym (coeff-monomial-mul F.series 𝟙 m z i ∙ R.one-mul (scalars F) _) ∙ b.at (m + i) (omega arith) }

  -- the identities
  module _ (m v h s q σ ρ : S) (inverse : m *ˢ m ≡ s *ˢ h +ˢ ρ) (product : v *ˢ s ≡ σ +ˢ m *ˢ q) where
    apart : m *ˢ (m *ˢ v +ˢ -ˢ (q *ˢ h)) ≡ m *ˢ m *ˢ v +ˢ -ˢ (m *ˢ q *ˢ h)
    apart = simp RING

    opened : (s *ˢ h +ˢ ρ) *ˢ v +ˢ -ˢ (m *ˢ q *ˢ h) ≡ v *ˢ s *ˢ h +ˢ v *ˢ ρ +ˢ -ˢ (m *ˢ q *ˢ h)
    opened = simp RING

    closed : (σ +ˢ m *ˢ q) *ˢ h +ˢ v *ˢ ρ +ˢ -ˢ (m *ˢ q *ˢ h) ≡ v *ˢ ρ +ˢ h *ˢ σ
    closed = simp RING

    above : m *ˢ (m *ˢ v +ˢ -ˢ (q *ˢ h)) ≡ v *ˢ ρ +ˢ h *ˢ σ
    above =
        apart ∙ ap (λ z. z *ˢ v +ˢ -ˢ (m *ˢ q *ˢ h)) inverse ∙ opened
        ∙ ap (λ z. z *ˢ h +ˢ v *ˢ ρ +ˢ -ˢ (m *ˢ q *ˢ h)) product ∙ closed

  regrouped : (w v q l h a m : S) → w +ˢ a *ˢ m *ˢ v +ˢ -ˢ (q *ˢ (l +ˢ a *ˢ h)) ≡ w +ˢ -ˢ (q *ˢ l) +ˢ a *ˢ (m *ˢ v +ˢ -ˢ (q *ˢ h))
  regrouped w v q l h a m = simp RING

  module _ (c e n : ℕ) {w v l h s q σ ρ : S} (some : 1 ≤ e) (one : 1 ≤ n) (fits : n ≤ e)
      (bw : Below F.series (c + (e - 1)) w) (bv : Below F.series n v) (bl : Below F.series c l) (bh : Below F.series e h)
      (bq : Below F.series n q) (bσ : Below F.series (e - 1) σ) (bρ : Below F.series (e - 1) ρ)
      (inverse : power F (2 * (e - 1)) ≡ s *ˢ h +ˢ ρ) (product : v *ˢ s ≡ σ +ˢ power F (e - 1) *ˢ q) where
    squared : power F (e - 1) *ˢ power F (e - 1) ≡ s *ˢ h +ˢ ρ
    squared = let twice : e - 1 + (e - 1) ≡ 2 * (e - 1) = omega arith in power-add F (e - 1) (e - 1) ∙ ap (power F) twice ∙ inverse

    top : Below F.series (e - 1) (power F (e - 1) *ˢ v +ˢ -ˢ (q *ˢ h))
    top =
        unshifted (e - 1) (e - 1)
        (subst (λ z. Below F.series (e - 1 + (e - 1)) z) (sym (above (power F (e - 1)) v h s q σ ρ squared product))
        (below-add F.series
        (below-mono F.series (omega arith) (below-mul F.series (n - 1) (e - 1) (below-mono F.series (omega arith) bv) bρ))
        (below-mul F.series (e - 1) (e - 1) (below-mono F.series (omega arith) bh) bσ)))

    pub block-rest : Below F.series (c + (e - 1)) (w +ˢ power F (c + (e - 1)) *ˢ v +ˢ -ˢ (q *ˢ (l +ˢ power F c *ˢ h)))
    block-rest =
        subst (λ z. Below F.series (c + (e - 1)) z)
        (sym (ap (λ z. w +ˢ z *ˢ v +ˢ -ˢ (q *ˢ (l +ˢ power F c *ˢ h))) (sym (power-add F c (e - 1)))
        ∙ regrouped w v q l h (power F c) (power F (e - 1))))
        (below-add F.series
        (below-add F.series bw
        (below-neg F.series
        (below-mono F.series (omega arith) (below-mul F.series (n - 1) c (below-mono F.series (omega arith) bq) bl))))
        (below-mul F.series c (e - 1) (below-monomial F.series 𝟙 c) top))
