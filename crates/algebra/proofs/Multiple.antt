-- The multiples n · a in a ring.
--     multiple-zero, multiple-suc     0 · a = 0, (n+1) · a = a + n · a
--     multiple-add, multiple-neg      the multiple of a sum and of a negative
--     mul-multiple, multiple-mul      c · (n · a) = n · (c · a), and (n · a) · b = a · (n · b)
-- Theorem:
--     multiple-residue     in Z/p, n · a is the residue of n times a
-- Assumes nothing.
use mathlib.Core.Path.{◌≡◌, ◌∙◌, refl, sym, ap, ap₂}
use Prim.Native.Nat.{ℕ, zero, suc, ◌+◌}
use native.Mathlib.Omega.{arith}
use Rattle.algebra.specs.RingLaws as R
use Rattle.algebra.specs.Ring.{CommRing}
use Rattle.algebra.specs.RingLaws.{RING}
use Rattle.algebra.specs.PrimeField.{PrimeField, scalars, residue}
use Rattle.algebra.proofs.PrimeField.{residue-0, residue-1, residue-add}
use Rattle.algebra.specs.Derivative.{multiple}

module _ (Rg : CommRing) where
  open Rg use {Carrier, zero as 𝟘, neg as ⊖◌, add as ◌⊕◌, mul as ◌⊗◌}

  infixl 65 ◌⊕◌
  infixl 70 ◌⊗◌
  infix 80 ⊖◌
  pub multiple-zero : (a : Carrier) → multiple Rg 0 a ≡ 𝟘
  unfolding multiple
  multiple-zero a = refl

  pub multiple-suc : (n : ℕ) (a : Carrier) → multiple Rg (suc n) a ≡ a ⊕ multiple Rg n a
  unfolding multiple
  multiple-suc n a = refl

  pub multiple-0 : (n : ℕ) → multiple Rg n 𝟘 ≡ 𝟘
  multiple-0 zero = multiple-zero 𝟘
  multiple-0 (suc n) = multiple-suc n 𝟘 ∙ R.zero-add Rg _ ∙ multiple-0 n

  pub mul-multiple : (n : ℕ) (c a : Carrier) → c ⊗ multiple Rg n a ≡ multiple Rg n (c ⊗ a)
  mul-multiple zero c a = ap (λ x. c ⊗ x) (multiple-zero a) ∙ R.mul-zero Rg c ∙ sym (multiple-zero _)
  mul-multiple (suc n) c a =
      ap (λ x. c ⊗ x) (multiple-suc n a) ∙ R.mul-add Rg _ _ _ ∙ ap (λ x. c ⊗ a ⊕ x) (mul-multiple n c a)
      ∙ sym (multiple-suc n _)

  pub multiple-add : (n : ℕ) (a b : Carrier) → multiple Rg n (a ⊕ b) ≡ multiple Rg n a ⊕ multiple Rg n b
  multiple-add zero a b = multiple-zero _ ∙ sym (R.add-zero Rg 𝟘) ∙ sym (ap₂ (λ x y. x ⊕ y) (multiple-zero a) (multiple-zero b))
  multiple-add (suc n) a b =
      multiple-suc n _ ∙ ap (λ x. a ⊕ b ⊕ x) (multiple-add n a b) ∙ four a b (multiple Rg n a) (multiple Rg n b)
      ∙ sym (ap₂ (λ x y. x ⊕ y) (multiple-suc n a) (multiple-suc n b))
    where
      four : (a b c d : Carrier) → a ⊕ b ⊕ (c ⊕ d) ≡ a ⊕ c ⊕ (b ⊕ d)
      four a b c d = simp RING

  pub multiple-neg : (n : ℕ) (a : Carrier) → multiple Rg n (⊖ a) ≡ ⊖ multiple Rg n a
  multiple-neg n a =
      R.neg_unique Rg (multiple Rg n a) (multiple Rg n (⊖ a))
      (sym (multiple-add n a (⊖ a)) ∙ ap (multiple Rg n) (R.add-neg Rg a) ∙ multiple-0 n)

  -- (n · a) · b = a · (n · b)
  pub multiple-mul : (n : ℕ) (a b : Carrier) → multiple Rg n a ⊗ b ≡ a ⊗ multiple Rg n b
  multiple-mul n a b =
      R.mul_comm Rg _ _ ∙ mul-multiple n b a ∙ ap (multiple Rg n) (R.mul_comm Rg b a) ∙ sym (mul-multiple n a b)

module _ (F : PrimeField) where
  open scalars F use {Carrier, one as 𝟙, add as ◌⊕◌, mul as ◌⊗◌}

  infixl 65 ◌⊕◌
  infixl 70 ◌⊗◌
  -- n · a is the residue of n times a
  pub multiple-residue : (n : ℕ) (a : Carrier) → multiple (scalars F) n a ≡ residue F n ⊗ a
  multiple-residue zero a = multiple-zero (scalars F) a ∙ sym (ap (λ x. x ⊗ a) (residue-0 F) ∙ R.zero-mul (scalars F) a)
  multiple-residue (suc n) a =
      multiple-suc (scalars F) n a ∙ ap (λ x. a ⊕ x) (multiple-residue n a)
      ∙ sym (ap (λ x. x ⊗ a) (ap (residue F) e ∙ residue-add F 1 n ∙ ap (λ x. x ⊕ residue F n) (residue-1 F)) ∙ last a (residue F n))
    where
      e : suc n ≡ 1 + n
      e = omega arith

      last : (a b : Carrier) → (𝟙 ⊕ b) ⊗ a ≡ a ⊕ b ⊗ a
      last a b = simp RING
