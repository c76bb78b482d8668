-- Powers of 1 + u, and degree elevation.
--     below-pow     the n-th power of a polynomial of degree at most 1 has degree at most n
--     elevate       degree elevation: (1+u)^j · s at degree j + n homogenises as s at degree n
-- Assumes nothing.
use mathlib.Core.Path.{◌≡◌, ◌∙◌, sym, ap, ap₂, subst}
use Prim.Native.Nat.{ℕ, zero, suc, ◌+◌}
use native.Mathlib.Nat as N
use native.Mathlib.Numerals.{add-one}
use native.Mathlib.Omega.{arith}
use Rattle.algebra.specs.RingLaws as R
use Rattle.algebra.specs.Ring.{CommRing, pow}
use Rattle.algebra.specs.RingLaws.{RING}
use Rattle.algebra.proofs.Ring.{pow-zero, pow-suc}
use Rattle.algebra.specs.Series.{SeriesRing, C, t, tail}
use Rattle.algebra.proofs.Series.{coeff-add, coeff-1_zero, coeff-1_suc, coeff-tail, coeff-t-zero, coeff-t-one, C-one}
use Rattle.algebra.specs.Polynomial.{Below}
use Rattle.algebra.proofs.Polynomial.{below-mono, below-add, below-1, below-t, below-mul}
use Rattle.algebra.specs.OneMinusT.{⟨1-t⟩}
use Rattle.algebra.proofs.OneMinusT.{⟨1-t⟩^-zero, ⟨1-t⟩^-suc}
use Rattle.algebra.specs.Homogenise.{hom}
use Rattle.algebra.proofs.Homogenise.{hom-zero, hom-suc, hom-mul}
use Rattle.algebra.specs.Substitute.{⟨1+u⟩}

module _ {Rg : CommRing} (X : SeriesRing Rg) where
  open Rg use {one as 𝟙}
  open X.ring use {Carrier as S, one as 1ˢ, add as ◌+ˢ◌, mul as ◌*ˢ◌}

  infixl 65 ◌+ˢ◌
  infixl 70 ◌*ˢ◌
  pub below-⟨1+u⟩ : Below X 2 (⟨1+u⟩ X)
  unfolding ⟨1+u⟩
  below-⟨1+u⟩ = below-add X (below-mono X (omega arith) (below-1 X)) (below-t X)

  pub below-pow : (n : ℕ) {U : S} → Below X 2 U → Below X (suc n) (pow X.ring U n)
  below-pow zero {U} h = rw (pow-zero X.ring U) (below-1 X)
  below-pow (suc n) {U} h =
      rw (pow-suc X.ring U n)
      (subst (λ k. Below X k (U *ˢ pow X.ring U n)) (N.add_comm 1 (suc n) ∙ add-one (suc n))
      (below-mul X 1 (suc n) h (below-pow n h)))

  hom-⟨1+u⟩ : hom X 1 (⟨1+u⟩ X) ≡ 1ˢ
  unfolding ⟨1+u⟩ ⟨1-t⟩
  hom-⟨1+u⟩ =
      hom-suc X 0 (⟨1+u⟩ X)
      ∙ ap₂ (λ x y. x *ˢ C X (X.coeff (⟨1+u⟩ X) 0) +ˢ t X *ˢ y) (⟨1-t⟩^-suc X 0 ∙ ap (λ x. ⟨1-t⟩ X *ˢ x) (⟨1-t⟩^-zero X))
      (hom-zero X (tail X (⟨1+u⟩ X)) ∙ ap (C X) (coeff-tail X (⟨1+u⟩ X) 0))
      ∙ ap₂ (λ x y. ⟨1-t⟩ X *ˢ 1ˢ *ˢ C X x +ˢ t X *ˢ C X y) c0 c1 ∙ rw (C-one X) (simp RING)
    where
      c0 : X.coeff (1ˢ +ˢ t X) 0 ≡ 𝟙
      c0 = simp (coeff-add, coeff-1_zero, coeff-t-zero) (simp RING)

      c1 : X.coeff (1ˢ +ˢ t X) 1 ≡ 𝟙
      c1 = simp (coeff-add, coeff-1_suc X 0, coeff-t-one) (simp RING)

  hom-pow : (n : ℕ) → hom X n (pow X.ring (⟨1+u⟩ X) n) ≡ 1ˢ
  hom-pow zero = simp (pow-zero, hom-zero, coeff-1_zero, C-one)
  hom-pow (suc n) =
      ap₂ (λ k x. hom X k x) (sym (N.add_comm 1 n ∙ add-one n)) (pow-suc X.ring (⟨1+u⟩ X) n)
      ∙ hom-mul X 1 n below-⟨1+u⟩ (below-pow n below-⟨1+u⟩) ∙ ap₂ (λ x y. x *ˢ y) hom-⟨1+u⟩ (hom-pow n) ∙ R.mul-one X.ring 1ˢ

  -- degree elevation: (1+u)^j · s at degree j + n is s at degree n
  pub elevate : (n j : ℕ) {s : S} → Below X (suc n) s → hom X (j + n) (pow X.ring (⟨1+u⟩ X) j *ˢ s) ≡ hom X n s
  elevate n j {s} h =
      hom-mul X j n (below-pow j below-⟨1+u⟩) h ∙ ap (λ x. x *ˢ hom X n s) (hom-pow j) ∙ R.one-mul X.ring _
