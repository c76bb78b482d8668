-- Numbers and elements of the field Z/p.
--     residue-value, value-residue, value-lt                 the numbers below p and the elements of the field, one to one
--     residue-add, residue-mul, residue-neg, residue-mod     the residue of a sum, a product, a negative and a remainder
--     residue-eq, residue-injective                          two numbers stand for one element where they leave the same remainder
--                                                            by p, and only there
--     residue-nonzero                                        a number from 1 to p - 1 does not stand for 0
--     choose-residue-nonzero                                 C(n, k) is not 0 in the field, for n below p
--     inverse-cancel                                         a · (1/b) · b = a
-- Assumes nothing.
use mathlib.Core.Path.{◌≡◌, sym, ◌∙◌, ap}
use Prim.Native.Nat.{ℕ, ◌+◌, ◌*◌, ◌-◌, ◌%◌, ◌≤◌, ◌<◌}
use native.Mathlib.Nat as N
use Rattle.algebra.specs.RingLaws as R
use Rattle.algebra.specs.ModularLaws as Z
use Rattle.algebra.specs.Choose.{choose}
use Rattle.algebra.proofs.Choose.{choose-nonzero}
use Rattle.algebra.specs.PrimeField.{PrimeField, scalars, scalar_field, positive, residue, value, inverse}

module _ (F : PrimeField) where
  open scalars F use {Carrier, zero as 𝟘, one as 𝟙, neg as ⊖◌, add as ◌⊕◌, mul as ◌⊗◌}

  infixl 65 ◌⊕◌
  infixl 70 ◌⊗◌
  infix 80 ⊖◌
  -- the numbers below p and the elements of the field, one to one
  pub residue-value : (a : Carrier) → residue F (value F a) ≡ a
  unfolding residue value
  residue-value a = Z.residue_mod-value_mod F.p (positive F) a

  pub value-residue : (n : ℕ) → n < F.p → value F (residue F n) ≡ n
  unfolding residue value
  value-residue n l = Z.value_mod-residue_mod F.p (positive F) n ∙ N.mod-eq_of_lt l

  pub value-lt : (a : Carrier) → value F a < F.p
  unfolding value
  value-lt a = Z.value_mod_lt F.p (positive F) a

  pub residue-0 : residue F 0 ≡ 𝟘
  unfolding residue
  residue-0 = Z.residue_mod-zero F.p (positive F)

  pub residue-1 : residue F 1 ≡ 𝟙
  unfolding residue
  residue-1 = Z.residue_mod-one F.p (positive F)

  -- the residue of a sum, a product, a negative and a remainder
  pub residue-add : (a b : ℕ) → residue F (a + b) ≡ residue F a ⊕ residue F b
  unfolding residue
  residue-add a b = Z.residue_mod-add F.p (positive F) a b

  pub residue-mul : (a b : ℕ) → residue F (a * b) ≡ residue F a ⊗ residue F b
  unfolding residue
  residue-mul a b = Z.residue_mod-mul F.p (positive F) a b

  pub residue-neg : (a : ℕ) → residue F (F.p - a % F.p) ≡ ⊖ residue F a
  unfolding residue
  residue-neg a = Z.residue_mod-neg F.p (positive F) a

  pub residue-mod : (a : ℕ) → residue F (a % F.p) ≡ residue F a
  unfolding residue
  residue-mod a = Z.residue_mod-mod F.p (positive F) a

  -- two numbers stand for one element when they leave the same remainder by p
  pub residue-eq : (a b : ℕ) → a % F.p ≡ b % F.p → residue F a ≡ residue F b
  unfolding residue
  residue-eq a b h = Z.residue_mod_eq F.p (positive F) a b h

  pub residue-injective : (a b : ℕ) → residue F a ≡ residue F b → a % F.p ≡ b % F.p
  unfolding residue
  residue-injective a b h = Z.residue_mod_injective F.p (positive F) a b h

  -- sum and product, reduced
  pub residue-add-mod : (a b : ℕ) → residue F ((a + b) % F.p) ≡ residue F a ⊕ residue F b
  residue-add-mod a b = residue-mod (a + b) ∙ residue-add a b

  pub residue-mul-mod : (a b : ℕ) → residue F ((a * b) % F.p) ≡ residue F a ⊗ residue F b
  residue-mul-mod a b = residue-mod (a * b) ∙ residue-mul a b

  pub residue-nonzero : (n : ℕ) → n < F.p → ¬ (n ≡ 0) → ¬ (residue F n ≡ 𝟘)
  residue-nonzero n l h e = h (sym (value-residue n l) ∙ ap (value F) (e ∙ sym residue-0) ∙ value-residue 0 (positive F))

  -- so a scaled form can be divided by its binomial coefficients, for naive degrees below p
  pub choose-residue-nonzero : (n k : ℕ) → n < F.p → k ≤ n → ¬ (residue F (choose n k) ≡ 𝟘)
  unfolding residue
  choose-residue-nonzero n k l h = choose-nonzero F.p F.prime n k l h

  pub inverse-cancel : (a b : Carrier) → ¬ (b ≡ 𝟘) → a ⊗ inverse F b ⊗ b ≡ a
  unfolding inverse
  inverse-cancel a b h =
      R.mul_assoc (scalars F) a _ b
      ∙ ap (λ x. a ⊗ x) (R.mul_comm (scalars F) _ b ∙ (scalar_field F).mul-inv b h) ∙ R.mul-one (scalars F) a

  pub inverse-cancel' : (a b : Carrier) → ¬ (b ≡ 𝟘) → a ⊗ b ⊗ inverse F b ≡ a
  unfolding inverse
  inverse-cancel' a b h =
      R.mul_assoc (scalars F) a b _ ∙ ap (λ x. a ⊗ x) ((scalar_field F).mul-inv b h) ∙ R.mul-one (scalars F) a
