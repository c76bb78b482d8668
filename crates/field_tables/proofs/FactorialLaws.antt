-- Factorials, in whole numbers and in the field.
--     factorial-0, factorial-suc          0! = 1, and (k+1)! = k! · (k+1)
--     factorial-start, factorial-next     the same in the field
-- Theorems:
--     choose-factorials     C(k+m, k) · k! · m! = (k+m)!
--     factorial-nonzero     k! is not 0 in the field for k below p
-- Assumes nothing.
use mathlib.Core.Path.{◌≡◌, refl, ap, ◌∙◌, sym}
use Prim.Native.Nat.{ℕ, zero, suc, ◌+◌, ◌-◌, ◌*◌, ◌<◌}
use native.Mathlib.Nat.{zero-add}
use native.Mathlib.Omega.{arith}
use Rattle.algebra.specs.Choose.{choose}
use Rattle.algebra.proofs.Choose.{choose-zero, absorb}
use Rattle.algebra.specs.PrimeField.{PrimeField, scalars, residue, scalar_field}
use Rattle.algebra.proofs.Ring.{zero-of-mul}
use Rattle.algebra.proofs.PrimeField.{residue-1, residue-mul, residue-nonzero}
use Rattle.field_tables.specs.Factorials.{factorial, factorial_in}

pub factorial-0 : factorial 0 ≡ 1
unfolding factorial
factorial-0 = refl

pub factorial-suc : (k : ℕ) → factorial (suc k) ≡ factorial k * suc k
unfolding factorial
factorial-suc k = refl

pub choose-factorials : (k m : ℕ) → choose (k + m) k * factorial k * factorial m ≡ factorial (k + m)
choose-factorials zero m = rw (zero-add m, choose-zero m, factorial-0) (omega arith)
choose-factorials (suc k) m =
    let sum : suc k + m ≡ k + suc m = omega arith in
    let left : k + suc m - k ≡ suc m = omega arith in
    let absorbed : choose (k + suc m) (suc k) * suc k ≡ choose (k + suc m) k * suc m = absorb (k + suc m) k ∙ ap (λ x. choose (k + suc m) k * x) left in
    rw (sum, factorial-suc k)
    (omega (arith, ap (λ x. x * (factorial k * factorial m)) absorbed, rw (factorial-suc m) at (choose-factorials k (suc m))))

module _ (F : PrimeField) where
  open scalars F use {zero as 𝟘, one as 𝟙, mul as ◌⊗◌}

  infixl 70 ◌⊗◌
  pub factorial-start : factorial_in F 0 ≡ 𝟙
  unfolding factorial_in
  factorial-start = ap (residue F) factorial-0 ∙ residue-1 F

  pub factorial-next : (k : ℕ) → factorial_in F (suc k) ≡ factorial_in F k ⊗ residue F (suc k)
  unfolding factorial_in
  factorial-next k = ap (residue F) (factorial-suc k) ∙ residue-mul F (factorial k) (suc k)

  pub factorial-nonzero : (k : ℕ) → k < F.p → ¬ (factorial_in F k ≡ 𝟘)
  factorial-nonzero zero l e = (scalar_field F).one≢zero (sym factorial-start ∙ e)
  factorial-nonzero (suc k) l e =
      residue-nonzero F (suc k) l (λ z. omega arith)
      (zero-of-mul (scalars F) (scalar_field F) (factorial_in F k) (residue F (suc k)) (factorial-nonzero k (omega arith)) (sym (factorial-next k) ∙ e))
