-- The product of sequences keeps the laws of a commutative ring: by induction on the term, for all sequences at once.
--     cauchy-right                  the product by the last term of the first factor and the rest of the second
--     cauchy_comm, cauchy_assoc     it is commutative and associative
--     cauchy-add                    it distributes over the sum
--     cauchy-one                    1, 0, 0, … is its unit
-- Assumes nothing.
use Rattle.std.specs.Prelude.{◌≡◌}
use Rattle.std.proofs.Math.Path.{refl, sym, ap, ap₂}
use Rattle.std.proofs.Common.{◌∙◌}
use Prim.Native.Nat.{ℕ, zero, suc}
use Rattle.algebra.specs.RingLaws as R
use Rattle.algebra.specs.Ring.{CommRing}
use Rattle.algebra.specs.RingLaws.{RING}
use Rattle.algebra.specs.Sequences.{Sequence, rest, sadd, sone, cauchy}

module _ (Rg : CommRing) where
  open Rg use {Carrier, zero as 𝟘, one as 𝟙, add as ◌⊕◌, mul as ◌⊗◌}

  infixl 65 ◌⊕◌
  infixl 70 ◌⊗◌
  cauchy-suc : (f g : Sequence Rg) (n : ℕ) → cauchy Rg f g (suc n) ≡ f zero ⊗ g (suc n) ⊕ cauchy Rg (rest Rg f) g n
  unfolding cauchy
  cauchy-suc f g n = refl

  cauchy-right : (f g : Sequence Rg) (n : ℕ) → cauchy Rg f g (suc n) ≡ cauchy Rg f (rest Rg g) n ⊕ f (suc n) ⊗ g zero
  unfolding cauchy
  cauchy-right f g zero = refl
  cauchy-right f g (suc n) = ap (λ x. f zero ⊗ g (suc (suc n)) ⊕ x) (cauchy-right (rest Rg f) g n) ∙ sym (R.add_assoc Rg _ _ _)

  pub cauchy_comm : (f g : Sequence Rg) (n : ℕ) → cauchy Rg f g n ≡ cauchy Rg g f n
  unfolding cauchy
  cauchy_comm f g zero = R.mul_comm Rg _ _
  cauchy_comm f g (suc n) =
      ap (λ x. f zero ⊗ g (suc n) ⊕ x) (cauchy_comm (rest Rg f) g n) ∙ (simp (R.add_comm Rg, R.mul_comm Rg))
      ∙ sym (cauchy-right g f n)

  pub cauchy-add : (f g h : Sequence Rg) (n : ℕ) → cauchy Rg f (sadd Rg g h) n ≡ cauchy Rg f g n ⊕ cauchy Rg f h n
  unfolding cauchy sadd
  cauchy-add f g h zero = R.mul-add Rg _ _ _
  cauchy-add f g h (suc n) = ap (λ x. f zero ⊗ (g (suc n) ⊕ h (suc n)) ⊕ x) (cauchy-add (rest Rg f) g h n) ∙ simp RING

  cauchy_scale : (c : Carrier) (f g : Sequence Rg) (n : ℕ) → cauchy Rg (λ k. c ⊗ f k) g n ≡ c ⊗ cauchy Rg f g n
  unfolding cauchy
  cauchy_scale c f g zero = R.mul_assoc Rg _ _ _
  cauchy_scale c f g (suc n) = ap (λ x. c ⊗ f zero ⊗ g (suc n) ⊕ x) (cauchy_scale c (rest Rg f) g n) ∙ simp RING

  cauchy-add-left : (f g h : Sequence Rg) (n : ℕ) → cauchy Rg (λ k. f k ⊕ g k) h n ≡ cauchy Rg f h n ⊕ cauchy Rg g h n
  unfolding cauchy
  cauchy-add-left f g h zero = R.add-mul Rg _ _ _
  cauchy-add-left f g h (suc n) = ap (λ x. (f zero ⊕ g zero) ⊗ h (suc n) ⊕ x) (cauchy-add-left (rest Rg f) (rest Rg g) h n) ∙ simp RING

  pub cauchy_assoc : (f g h : Sequence Rg) (n : ℕ) → cauchy Rg (cauchy Rg f g) h n ≡ cauchy Rg f (cauchy Rg g h) n
  unfolding cauchy
  cauchy_assoc f g h zero = R.mul_assoc Rg _ _ _
  cauchy_assoc f g h (suc n) =
      ap (λ x. f zero ⊗ g zero ⊗ h (suc n) ⊕ x)
      (cauchy-add-left (λ k. f zero ⊗ g (suc k)) (cauchy Rg (rest Rg f) g) h n
      ∙ ap₂ (λ x y. x ⊕ y) (cauchy_scale (f zero) (rest Rg g) h n) (cauchy_assoc (rest Rg f) g h n))
      ∙ simp (cauchy-suc, RING)

  cauchy-zero : (g : Sequence Rg) (n : ℕ) → cauchy Rg (λ k. 𝟘) g n ≡ 𝟘
  unfolding cauchy
  cauchy-zero g zero = R.zero-mul Rg _
  cauchy-zero g (suc n) = ap (λ x. 𝟘 ⊗ g (suc n) ⊕ x) (cauchy-zero g n) ∙ simp RING

  pub cauchy-one : (f : Sequence Rg) (n : ℕ) → cauchy Rg (sone Rg) f n ≡ f n
  unfolding cauchy sone
  cauchy-one f zero = R.one-mul Rg _
  cauchy-one f (suc n) = ap (λ x. 𝟙 ⊗ f (suc n) ⊕ x) (cauchy-zero f n) ∙ simp RING
