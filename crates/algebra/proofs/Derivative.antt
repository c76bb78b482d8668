-- The derivative of a series, and of a homogenisation.
--     derivative-add, derivative-neg, derivative-C-mul, derivative-t-mul     the derivative of a sum, a negative, c · s and t · s
--     derivative-⟨1-t⟩-mul                                                   that of (1-t) · s
--     coeff-scaled_derivative                                                the coefficients of the scaled derivative
-- Theorem:
--     derivative-hom     the derivative of hom (n+1) s is hom n of the scaled derivative
-- Assumes nothing.
use mathlib.Core.Path.{◌≡◌, ◌∙◌, sym, ap, ap₂}
use Prim.Native.Nat.{ℕ, zero, suc, ◌-◌}
use native.Mathlib.Nat as N
use Rattle.algebra.specs.RingLaws as R
use Rattle.algebra.specs.Ring.{CommRing}
use Rattle.algebra.specs.RingLaws.{RING}
use Rattle.algebra.specs.Series.{SeriesRing, C, t, tail}
use Rattle.algebra.proofs.Series.{coeff-mk, ext, coeff-add, coeff-neg, coeff-0, coeff-tail, coeff-C-suc, C-one, C-zero, coeff-C-mul, coeff-t-mul-zero, coeff-t-mul-suc}
use Rattle.algebra.specs.OneMinusT.{⟨1-t⟩, ⟨1-t⟩^}
use Rattle.algebra.proofs.OneMinusT.{⟨1-t⟩^-zero, ⟨1-t⟩^-suc}
use Rattle.algebra.specs.Homogenise.{hom}
use Rattle.algebra.proofs.Homogenise.{C-add, C-neg, hom-zero, hom-suc, hom-add}
use Rattle.algebra.proofs.Multiple.{multiple-zero, multiple-suc, multiple-0, mul-multiple, multiple-add, multiple-neg, multiple-mul}
use Rattle.algebra.specs.Derivative.{multiple, derivative, scaled_derivative}

module _ {Rg : CommRing} (X : SeriesRing Rg) where
  open Rg use {Carrier, one as 𝟙, neg as ⊖◌, add as ◌⊕◌, mul as ◌⊗◌}

  infixl 65 ◌⊕◌
  infixl 70 ◌⊗◌
  infix 80 ⊖◌
  open X.ring use {Carrier as S, zero as 0ˢ, one as 1ˢ, neg as -ˢ◌, add as ◌+ˢ◌, mul as ◌*ˢ◌}

  infixl 65 ◌+ˢ◌
  infixl 70 ◌*ˢ◌
  infix 80 -ˢ◌
  pub coeff-derivative : (s : S) (k : ℕ) → X.coeff (derivative X s) k ≡ multiple Rg (suc k) (X.coeff s (suc k))
  unfolding derivative
  coeff-derivative s k = coeff-mk X _ k

  pub derivative-add : (a b : S) → derivative X (a +ˢ b) ≡ derivative X a +ˢ derivative X b
  derivative-add a b =
      ext X _ _ λ k. coeff-derivative (a +ˢ b) k ∙ ap (multiple Rg (suc k)) (coeff-add X a b (suc k))
      ∙ multiple-add Rg (suc k) _ _
      ∙ sym (coeff-add X (derivative X a) (derivative X b) k ∙ ap₂ (λ x y. x ⊕ y) (coeff-derivative a k) (coeff-derivative b k))

  pub derivative-neg : (a : S) → derivative X (-ˢ a) ≡ -ˢ derivative X a
  derivative-neg a =
      ext X _ _ λ k. coeff-derivative (-ˢ a) k ∙ ap (multiple Rg (suc k)) (coeff-neg X a (suc k)) ∙ multiple-neg Rg (suc k) _
      ∙ sym (coeff-neg X (derivative X a) k ∙ ap (λ x. ⊖ x) (coeff-derivative a k))

  pub derivative-C-mul : (c : Carrier) (a : S) → derivative X (C X c *ˢ a) ≡ C X c *ˢ derivative X a
  derivative-C-mul c a =
      ext X _ _ λ k. coeff-derivative (C X c *ˢ a) k ∙ ap (multiple Rg (suc k)) (coeff-C-mul X c a (suc k))
      ∙ sym (mul-multiple Rg (suc k) c _) ∙ sym (coeff-C-mul X c (derivative X a) k ∙ ap (λ x. c ⊗ x) (coeff-derivative a k))

  pub derivative-C : (c : Carrier) → derivative X (C X c) ≡ 0ˢ
  derivative-C c =
      ext X _ _ λ k. coeff-derivative (C X c) k ∙ ap (multiple Rg (suc k)) (coeff-C-suc X c k) ∙ multiple-0 Rg (suc k)
      ∙ sym (coeff-0 X k)

  pub derivative-t-mul : (a : S) → derivative X (t X *ˢ a) ≡ a +ˢ t X *ˢ derivative X a
  derivative-t-mul a = ext X _ _ go
    where
      go : (k : ℕ) → X.coeff (derivative X (t X *ˢ a)) k ≡ X.coeff (a +ˢ t X *ˢ derivative X a) k
      go zero =
          coeff-derivative (t X *ˢ a) 0 ∙ multiple-suc Rg 0 _ ∙ ap₂ (λ x y. x ⊕ y) (coeff-t-mul-suc X a 0) (multiple-zero Rg _)
          ∙ sym (coeff-add X a _ 0 ∙ ap (λ x. X.coeff a 0 ⊕ x) (coeff-t-mul-zero X (derivative X a)))
      go (suc k) =
          coeff-derivative (t X *ˢ a) (suc k) ∙ ap (multiple Rg (suc (suc k))) (coeff-t-mul-suc X a (suc k))
          ∙ multiple-suc Rg (suc k) _
          ∙ sym
          (coeff-add X a _ (suc k)
          ∙ ap (λ x. X.coeff a (suc k) ⊕ x) (coeff-t-mul-suc X (derivative X a) k ∙ coeff-derivative a k))

  pub derivative-⟨1-t⟩-mul : (a : S) → derivative X (⟨1-t⟩ X *ˢ a) ≡ ⟨1-t⟩ X *ˢ derivative X a +ˢ -ˢ a
  unfolding ⟨1-t⟩
  derivative-⟨1-t⟩-mul a =
      ap (derivative X) (one (t X) a) ∙ derivative-add a (-ˢ (t X *ˢ a))
      ∙ ap (λ x. derivative X a +ˢ x) (derivative-neg (t X *ˢ a) ∙ ap (λ x. -ˢ x) (derivative-t-mul a))
      ∙ two (derivative X a) (t X) a
    where
      one : (t a : S) → (1ˢ +ˢ -ˢ t) *ˢ a ≡ a +ˢ -ˢ (t *ˢ a)
      one t a = simp RING

      two : (d t a : S) → d +ˢ -ˢ (a +ˢ t *ˢ d) ≡ (1ˢ +ˢ -ˢ t) *ˢ d +ˢ -ˢ a
      two d t a = simp RING

  derivative-⟨1-t⟩^ : (n : ℕ) → derivative X (⟨1-t⟩^ X (suc n)) ≡ -ˢ multiple X.ring (suc n) (⟨1-t⟩^ X n)
  derivative-⟨1-t⟩^ zero =
      ap (derivative X) (⟨1-t⟩^-suc X 0) ∙ derivative-⟨1-t⟩-mul (⟨1-t⟩^ X 0)
      ∙ ap (λ x. ⟨1-t⟩ X *ˢ derivative X x +ˢ -ˢ x) (⟨1-t⟩^-zero X)
      ∙ ap (λ x. ⟨1-t⟩ X *ˢ x +ˢ -ˢ 1ˢ) (ap (derivative X) (sym (C-one X)) ∙ derivative-C 𝟙) ∙ (simp RING)
      ∙ sym
      (ap (λ x. -ˢ x)
      (multiple-suc X.ring 0 (⟨1-t⟩^ X 0) ∙ ap₂ (λ x y. x +ˢ y) (⟨1-t⟩^-zero X) (multiple-zero X.ring _)
      ∙ R.add-zero X.ring 1ˢ))
  derivative-⟨1-t⟩^ (suc n) =
      ap (derivative X) (⟨1-t⟩^-suc X (suc n)) ∙ derivative-⟨1-t⟩-mul (⟨1-t⟩^ X (suc n))
      ∙ ap (λ x. ⟨1-t⟩ X *ˢ x +ˢ -ˢ ⟨1-t⟩^ X (suc n)) (derivative-⟨1-t⟩^ n)
      ∙ ap (λ x. x +ˢ -ˢ ⟨1-t⟩^ X (suc n))
      (R.mul-neg X.ring _ _
      ∙ ap (λ x. -ˢ x)
      (mul-multiple X.ring (suc n) (⟨1-t⟩ X) (⟨1-t⟩^ X n) ∙ ap (multiple X.ring (suc n)) (sym (⟨1-t⟩^-suc X n))))
      ∙ two (multiple X.ring (suc n) (⟨1-t⟩^ X (suc n))) (⟨1-t⟩^ X (suc n))
      ∙ ap (λ x. -ˢ x) (sym (multiple-suc X.ring (suc n) (⟨1-t⟩^ X (suc n))))
    where
      two : (a b : S) → -ˢ a +ˢ -ˢ b ≡ -ˢ (b +ˢ a)
      two a b = simp RING

  pub coeff-scaled_derivative : (n : ℕ) (s : S) (k : ℕ)
      → X.coeff (scaled_derivative X n s) k ≡ multiple Rg (suc k) (X.coeff s (suc k)) ⊕ ⊖ multiple Rg (n - k) (X.coeff s k)
  unfolding scaled_derivative
  coeff-scaled_derivative n s k = coeff-mk X _ k

  scaled_derivative-zero : (n : ℕ) (s : S) → X.coeff (scaled_derivative X n s) 0 ≡ X.coeff s 1 ⊕ ⊖ multiple Rg n (X.coeff s 0)
  scaled_derivative-zero n s =
      coeff-scaled_derivative n s 0
      ∙ ap₂ (λ x k. x ⊕ ⊖ multiple Rg k (X.coeff s 0))
      (multiple-suc Rg 0 _ ∙ ap (λ x. X.coeff s 1 ⊕ x) (multiple-zero Rg _) ∙ R.add-zero Rg _) (N.sub-zero n)

  scaled_derivative-tail : (n : ℕ) (s : S) → tail X (scaled_derivative X (suc n) s) ≡ scaled_derivative X n (tail X s) +ˢ tail X (tail X s)
  scaled_derivative-tail n s =
      ext X _ _ λ k. coeff-tail X (scaled_derivative X (suc n) s) k ∙ coeff-scaled_derivative (suc n) s (suc k)
      ∙ ap₂ (λ x i. x ⊕ ⊖ multiple Rg i (X.coeff s (suc k))) (multiple-suc Rg (suc k) _) (N.suc-sub-suc n k)
      ∙ three (X.coeff s (suc (suc k))) (multiple Rg (suc k) (X.coeff s (suc (suc k))))
      (⊖ multiple Rg (n - k) (X.coeff s (suc k)))
      ∙ sym
      (coeff-add X (scaled_derivative X n (tail X s)) (tail X (tail X s)) k
      ∙ ap₂ (λ x y. x ⊕ y)
      (coeff-scaled_derivative n (tail X s) k
      ∙ ap₂ (λ x y. multiple Rg (suc k) x ⊕ ⊖ multiple Rg (n - k) y) (coeff-tail X s (suc k)) (coeff-tail X s k))
      (coeff-tail X (tail X s) k ∙ coeff-tail X s (suc k)))
    where
      three : (a b c : Carrier) → a ⊕ b ⊕ c ≡ b ⊕ c ⊕ a
      three a b c = simp RING

  C-multiple : (n : ℕ) (c : Carrier) → C X (multiple Rg n c) ≡ multiple X.ring n (C X c)
  C-multiple zero c = ap (C X) (multiple-zero Rg c) ∙ C-zero X ∙ sym (multiple-zero X.ring _)
  C-multiple (suc n) c =
      ap (C X) (multiple-suc Rg n c) ∙ C-add X c _ ∙ ap (λ x. C X c +ˢ x) (C-multiple n c) ∙ sym (multiple-suc X.ring n _)

  first_term : (n : ℕ) (c : Carrier) → derivative X (⟨1-t⟩^ X (suc n) *ˢ C X c) ≡ -ˢ (⟨1-t⟩^ X n *ˢ C X (multiple Rg (suc n) c))
  first_term n c =
      ap (derivative X) (R.mul_comm X.ring _ _) ∙ derivative-C-mul c (⟨1-t⟩^ X (suc n))
      ∙ ap (λ x. C X c *ˢ x) (derivative-⟨1-t⟩^ n) ∙ R.mul-neg X.ring _ _
      ∙ ap (λ x. -ˢ x)
      (R.mul_comm X.ring _ _ ∙ multiple-mul X.ring (suc n) (⟨1-t⟩^ X n) (C X c)
      ∙ ap (λ x. ⟨1-t⟩^ X n *ˢ x) (sym (C-multiple (suc n) c)))

  first-coefficient : (n : ℕ) (s : S)
      → C X (X.coeff (scaled_derivative X n s) 0) ≡ C X (X.coeff s 1) +ˢ -ˢ C X (multiple Rg n (X.coeff s 0))
  first-coefficient n s = ap (C X) (scaled_derivative-zero n s) ∙ C-add X _ _ ∙ ap (λ x. C X (X.coeff s 1) +ˢ x) (C-neg X _)

  join-0 : (p a b d z : S) → d ≡ 0ˢ → p ≡ 1ˢ → -ˢ (p *ˢ a) +ˢ (b +ˢ z *ˢ d) ≡ b +ˢ -ˢ a
  join-0 p a b d z e q = ap₂ (λ p d. -ˢ (p *ˢ a) +ˢ (b +ˢ z *ˢ d)) q e ∙ simp RING

  join : (p a b z x y : S) → -ˢ (p *ˢ a) +ˢ (p *ˢ b +ˢ z *ˢ y +ˢ z *ˢ x) ≡ p *ˢ (b +ˢ -ˢ a) +ˢ z *ˢ (x +ˢ y)
  join p a b z x y = simp RING

  one-step : (n : ℕ) (s : S)
      → derivative X (hom X (suc n) s)
      ≡ -ˢ (⟨1-t⟩^ X n *ˢ C X (multiple Rg (suc n) (X.coeff s 0)))
      +ˢ (hom X n (tail X s) +ˢ t X *ˢ derivative X (hom X n (tail X s)))
  one-step n s =
      ap (derivative X) (hom-suc X n s) ∙ derivative-add _ _
      ∙ ap₂ (λ x y. x +ˢ y) (first_term n (X.coeff s 0)) (derivative-t-mul (hom X n (tail X s)))

  -- the derivative of hom (n+1) s is hom n of the scaled derivative
  pub derivative-hom : (n : ℕ) (s : S) → derivative X (hom X (suc n) s) ≡ hom X n (scaled_derivative X (suc n) s)
  derivative-hom zero s =
      one-step 0 s
      ∙ join-0 (⟨1-t⟩^ X 0) _ (hom X 0 (tail X s)) _ (t X) (ap (derivative X) (hom-zero X (tail X s)) ∙ derivative-C _)
      (⟨1-t⟩^-zero X)
      ∙ ap (λ x. x +ˢ -ˢ C X (multiple Rg 1 (X.coeff s 0))) (hom-zero X (tail X s) ∙ ap (C X) (coeff-tail X s 0))
      ∙ sym (hom-zero X (scaled_derivative X 1 s) ∙ first-coefficient 1 s)
  derivative-hom (suc n) s =
      one-step (suc n) s
      ∙ ap₂ (λ x y. -ˢ (⟨1-t⟩^ X (suc n) *ˢ C X (multiple Rg (suc (suc n)) (X.coeff s 0))) +ˢ (x +ˢ t X *ˢ y))
      (hom-suc X n (tail X s) ∙ ap (λ c. ⟨1-t⟩^ X (suc n) *ˢ C X c +ˢ t X *ˢ hom X n (tail X (tail X s))) (coeff-tail X s 0))
      (derivative-hom n (tail X s))
      ∙ join (⟨1-t⟩^ X (suc n)) (C X (multiple Rg (suc (suc n)) (X.coeff s 0))) (C X (X.coeff s 1)) (t X)
      (hom X n (scaled_derivative X (suc n) (tail X s))) (hom X n (tail X (tail X s)))
      ∙ sym
      (hom-suc X n (scaled_derivative X (suc (suc n)) s)
      ∙ ap₂ (λ x y. ⟨1-t⟩^ X (suc n) *ˢ x +ˢ t X *ˢ y) (first-coefficient (suc (suc n)) s)
      (ap (hom X n) (scaled_derivative-tail (suc n) s)
      ∙ hom-add X n (scaled_derivative X (suc n) (tail X s)) (tail X (tail X s))))
