-- The arithmetic of words is that of the field Z/p: for every prime field F, on words below p = F.p.
--     residue-sum, residue-difference, residue-product, residue-inverse     each operation is the field's, on residues
--     sum_lt, difference-lt, product_lt                                     each result is a coefficient
--     inverse-is                                                            every coefficient but 0 has its inverse, and inverse_of is it
--     inverse-only                                                          a word below p whose product with a leaves 1 is inverse_of
--     has-inverse                                                           no coefficient but 0 is without an inverse
-- Assumes nothing.
use mathlib.Core.Path.{◌≡◌, refl, sym, ◌∙◌, ap, ap₂}
use mathlib.Core.Bool.{Bool, true, false, ◌||◌}
use Prim.Native.Nat.{ℕ, zero, suc, ◌+◌, ◌-◌, ◌*◌, ◌%◌, ◌≤◌, ◌<◌}
use native.Mathlib.Nat.{mod-lt, mod-eq_of_lt, mod_self, zero-mod, mul-zero, pos_of_ne-zero, ne_of_gt}
use native.Mathlib.Decide.{ℕ_discrete}
use native.Mathlib.Omega.{arith}
use lib.Dec.{eqb}
use borrow.Author.Tests.{eq-eqb}
use Rattle.algebra.specs.RingLaws as R
use Rattle.algebra.specs.PrimeField.{PrimeField, scalars, positive, residue, value, inverse}
use Rattle.algebra.proofs.PrimeField.{residue-value, value-residue, value-lt, residue-0, residue-1, residue-nonzero, residue-add}
use Rattle.algebra.proofs.PrimeField.{residue-mul, residue-mod, residue-eq, residue-injective, residue-add-mod, residue-mul-mod, inverse-cancel'}
use Rattle.field.specs.Field.{sum_of, difference_of, product_of, IsInverse, inverse_of, has_inverse, has_inverse_below}

or_right : (a b : Bool) → b ≡ true → (a || b) ≡ true
or_right true b e = refl
or_right false b e = e

module _ (F : PrimeField) where
  open scalars F use {zero as 𝟘, one as 𝟙, neg as ⊖◌, add as ◌⊕◌, mul as ◌⊗◌}

  infixl 65 ◌⊕◌
  infixl 70 ◌⊗◌
  infix 80 ⊖◌
  pub residue-sum : (a b : ℕ) → residue F (sum_of F.p a b) ≡ residue F a ⊕ residue F b
  residue-sum a b = residue-add-mod F a b

  pub residue-product : (a b : ℕ) → residue F (product_of F.p a b) ≡ residue F a ⊗ residue F b
  residue-product a b = residue-mul-mod F a b

  pub residue-difference : (a b : ℕ) → b ≤ F.p → residue F (difference_of F.p a b) ≡ residue F a ⊕ ⊖ residue F b
  residue-difference a b l =
      residue-mod F (a + (F.p - b))
      ∙ R.move (scalars F) _ (residue F b) (residue F a) (sym (residue-add F (a + (F.p - b)) b) ∙ ap (residue F) back ∙ whole)
    where
      back : a + (F.p - b) + b ≡ a + F.p
      back = omega arith

      whole : residue F (a + F.p) ≡ residue F a
      whole =
          residue-add F a F.p
          ∙ ap (λ x. residue F a ⊕ x) (residue-eq F F.p 0 (mod_self F.p ∙ sym (zero-mod F.p)) ∙ residue-0 F)
          ∙ R.add-zero (scalars F) (residue F a)

  pub residue-inverse : (a : ℕ) → residue F (inverse_of F a) ≡ inverse F (residue F a)
  unfolding inverse_of
  residue-inverse a = residue-value F (inverse F (residue F a))

  pub sum_lt : (a b : ℕ) → sum_of F.p a b < F.p
  sum_lt a b = mod-lt (a + b) (positive F)

  pub difference-lt : (a b : ℕ) → difference_of F.p a b < F.p
  difference-lt a b = mod-lt (a + (F.p - b)) (positive F)

  pub product_lt : (a b : ℕ) → product_of F.p a b < F.p
  product_lt a b = mod-lt (a * b) (positive F)

  module _ (a : ℕ) (some : 0 < a) (low : a < F.p) where
    nonzero : ¬ (residue F a ≡ 𝟘)
    nonzero = residue-nonzero F a low (ne_of_gt some)

    times-inverse : (a * inverse_of F a) % F.p ≡ 1
    times-inverse = residue-injective F (a * inverse_of F a) 1 product ∙ mod-eq_of_lt F.prime.big
      where
        product : residue F (a * inverse_of F a) ≡ residue F 1
        product =
            residue-mul F a (inverse_of F a)
            ∙ ap₂ (λ x y. x ⊗ y) (sym (R.one-mul (scalars F) (residue F a))) (residue-inverse a)
            ∙ inverse-cancel' F 𝟙 (residue F a) nonzero
            ∙ sym (residue-1 F)

    pub inverse-only : (d : ℕ) → d < F.p → (a * d) % F.p ≡ 1 → d ≡ inverse_of F a
    unfolding inverse_of
    inverse-only d l e =
        sym (value-residue F d l)
        ∙ ap (value F)
        (sym (inverse-cancel' F (residue F d) (residue F a) nonzero)
        ∙ ap (λ x. x ⊗ inverse F (residue F a)) one
        ∙ R.one-mul (scalars F) (inverse F (residue F a)))
      where
        one : residue F d ⊗ residue F a ≡ 𝟙
        one =
            R.mul_comm (scalars F) (residue F d) (residue F a)
            ∙ sym (residue-mul-mod F a d)
            ∙ ap (residue F) e
            ∙ residue-1 F

    inverse-low : 1 ≤ inverse_of F a
    inverse-low = pos_of_ne-zero λ e. apart (sym times-inverse ∙ ap (λ x. (a * x) % F.p) e ∙ ap (λ x. x % F.p) (mul-zero a) ∙ zero-mod F.p)
      where
        apart : ◌≡◌ {A = ℕ} 1 0 → ⊥
        apart e = omega arith

    inverse-high : inverse_of F a < F.p
    unfolding inverse_of
    inverse-high = value-lt F (inverse F (residue F a))

    pub inverse-is : IsInverse F.p a (inverse_of F a)
    inverse-is = record { low = inverse-low; high = inverse-high; one = times-inverse; only = λ d _ l e. inverse-only d l e }

    found_below : (n : ℕ) → inverse_of F a < n → has_inverse_below F.p a n ≡ true
    unfolding has_inverse_below
    found_below zero l = absurd (omega arith)
    found_below (suc n) l = at (ℕ_discrete (inverse_of F a) n) (λ h. found_below n h)
      where
        at :
            Dec (inverse_of F a ≡ n)
            → (inverse_of F a < n → has_inverse_below F.p a n ≡ true)
            → (eqb ((a * n) % F.p) 1 || has_inverse_below F.p a n) ≡ true
        at (yes e) later = ap (λ b. b || has_inverse_below F.p a n) (eq-eqb ((a * n) % F.p) 1 (ap (λ x. (a * x) % F.p) (sym e) ∙ times-inverse))
        at (no e) later = or_right (eqb ((a * n) % F.p) 1) (has_inverse_below F.p a n) (later (omega arith))

    pub has-inverse : has_inverse F.p a ≡ true
    has-inverse = found_below F.p inverse-high
