-- The coefficients of sums, products and tails of series, and equations between series that follow from them.
--     ext                                   series with the same coefficients are equal
--     split                                 s = s_0 + t · tail s
--     coeff-C-mul                           coefficient n of c · s is c · s_n
--     coeff-t-mul-zero, coeff-t-mul-suc     the coefficients of t · s
--     tail-add, tail-C-mul, tail-t-mul      the tail of a sum, of c · s and of t · s
-- Assumes nothing.
use mathlib.Core.Path.{◌≡◌, sym, ◌∙◌, ap}
use Prim.Native.Nat.{ℕ, zero, suc}
use Rattle.algebra.specs.RingLaws as R
use Rattle.algebra.specs.Ring.{CommRing}
use Rattle.algebra.specs.RingLaws.{RING}
use Rattle.algebra.specs.Series.{SeriesRing, constant_at, variable_at, tail, C, t}

module _ {Rg : CommRing} (X : SeriesRing Rg) where
  open Rg use {Carrier, zero as 𝟘, one as 𝟙, neg as ⊖◌, add as ◌⊕◌, mul as ◌⊗◌}

  infixl 65 ◌⊕◌
  infixl 70 ◌⊗◌
  infix 80 ⊖◌
  open X.ring use {Carrier as S, zero as 0ˢ, one as 1ˢ, neg as -ˢ◌, add as ◌+ˢ◌, mul as ◌*ˢ◌}

  infixl 65 ◌+ˢ◌
  infixl 70 ◌*ˢ◌
  infix 80 -ˢ◌
  open X use {coeff, mk}

  pub coeff-mk : (f : ℕ → Carrier) (n : ℕ) → coeff (mk f) n ≡ f n
  coeff-mk = X.coeff-mk

  pub ext : (a b : S) → ((n : ℕ) → coeff a n ≡ coeff b n) → a ≡ b
  ext = X.ext

  pub coeff-add : (a b : S) (n : ℕ) → coeff (a +ˢ b) n ≡ coeff a n ⊕ coeff b n
  coeff-add = X.coeff-add

  pub coeff-neg : (a : S) (n : ℕ) → coeff (-ˢ a) n ≡ ⊖ coeff a n
  coeff-neg = X.coeff-neg

  pub coeff-0 : (n : ℕ) → coeff 0ˢ n ≡ 𝟘
  coeff-0 = X.coeff-0

  pub coeff-1_zero : coeff 1ˢ 0 ≡ 𝟙
  coeff-1_zero = X.coeff-1_zero

  pub coeff-1_suc : (n : ℕ) → coeff 1ˢ (suc n) ≡ 𝟘
  coeff-1_suc = X.coeff-1_suc

  pub coeff-mul-zero : (a b : S) → coeff (a *ˢ b) zero ≡ coeff a zero ⊗ coeff b zero
  coeff-mul-zero = X.coeff-mul-zero

  pub coeff-tail : (s : S) (n : ℕ) → coeff (tail X s) n ≡ coeff s (suc n)
  unfolding tail
  coeff-tail s n = X.coeff-mk _ n

  pub coeff-mul-suc : (a b : S) (n : ℕ) → coeff (a *ˢ b) (suc n) ≡ coeff a zero ⊗ coeff b (suc n) ⊕ coeff (tail X a *ˢ b) n
  unfolding tail
  coeff-mul-suc = X.coeff-mul-suc

  pub coeff-C-zero : (c : Carrier) → coeff (C X c) zero ≡ c
  unfolding C constant_at
  coeff-C-zero c = X.coeff-mk _ 0

  pub coeff-C-suc : (c : Carrier) (n : ℕ) → coeff (C X c) (suc n) ≡ 𝟘
  unfolding C constant_at
  coeff-C-suc c n = X.coeff-mk _ (suc n)

  pub coeff-t-zero : coeff (t X) zero ≡ 𝟘
  unfolding t variable_at
  coeff-t-zero = X.coeff-mk _ 0

  pub coeff-t-one : coeff (t X) 1 ≡ 𝟙
  unfolding t variable_at constant_at
  coeff-t-one = X.coeff-mk _ 1

  pub tail-C : (c : Carrier) → tail X (C X c) ≡ 0ˢ
  tail-C c = ext _ _ λ n. simp (coeff-tail, coeff-C-suc, coeff-0)

  pub C-one : C X 𝟙 ≡ 1ˢ
  C-one = ext _ _ λ n. elim n as (λ k. coeff (C X 𝟙) k ≡ coeff 1ˢ k) [ zero ↦ coeff-C-zero 𝟙 ∙ sym coeff-1_zero | suc m ↦ coeff-C-suc 𝟙 m ∙ sym (coeff-1_suc m) ]

  pub C-zero : C X 𝟘 ≡ 0ˢ
  C-zero = ext _ _ λ n. elim n as (λ k. coeff (C X 𝟘) k ≡ coeff 0ˢ k) [ zero ↦ coeff-C-zero 𝟘 ∙ sym (coeff-0 0) | suc m ↦ coeff-C-suc 𝟘 m ∙ sym (coeff-0 (suc m)) ]

  pub tail-t : tail X (t X) ≡ 1ˢ
  unfolding tail t variable_at
  tail-t = ext _ _ (λ n. X.coeff-mk _ n ∙ X.coeff-mk _ (suc n) ∙ sym (X.coeff-mk _ n)) ∙ constant-one
    where
      constant-one : mk (constant_at 𝟘 𝟙) ≡ 1ˢ
      constant-one = unfold C in C-one

  pub coeff-C-mul : (c : Carrier) (s : S) (n : ℕ) → coeff (C X c *ˢ s) n ≡ c ⊗ coeff s n
  coeff-C-mul c s zero = coeff-mul-zero (C X c) s ∙ ap (λ x. x ⊗ coeff s zero) (coeff-C-zero c)
  coeff-C-mul c s (suc n) = coeff-mul-suc (C X c) s n ∙ simp (coeff-C-zero, tail-C, R.zero-mul X.ring, coeff-0, R.add-zero Rg)

  pub coeff-t-mul-zero : (s : S) → coeff (t X *ˢ s) zero ≡ 𝟘
  coeff-t-mul-zero s = coeff-mul-zero (t X) s ∙ simp (coeff-t-zero, RING)

  pub coeff-t-mul-suc : (s : S) (n : ℕ) → coeff (t X *ˢ s) (suc n) ≡ coeff s n
  coeff-t-mul-suc s n = coeff-mul-suc (t X) s n ∙ simp (coeff-t-zero, tail-t, RING)

  -- s = s_0 + t · tail s
  pub split : (s : S) → s ≡ C X (coeff s zero) +ˢ t X *ˢ tail X s
  split s = ext _ _ go
    where
      go : (n : ℕ) → coeff s n ≡ coeff (C X (coeff s zero) +ˢ t X *ˢ tail X s) n
      go zero = simp (coeff-add, coeff-C-zero, coeff-t-mul-zero, RING)
      go (suc m) = simp (coeff-add, coeff-C-suc, coeff-t-mul-suc, coeff-tail, RING)

  pub tail-0 : tail X 0ˢ ≡ 0ˢ
  tail-0 = ext _ _ λ k. simp (coeff-tail, coeff-0)

  pub tail-add : (a b : S) → tail X (a +ˢ b) ≡ tail X a +ˢ tail X b
  tail-add a b = ext _ _ λ n. simp (coeff-tail, coeff-add)

  pub tail-C-mul : (c : Carrier) (a : S) → tail X (C X c *ˢ a) ≡ C X c *ˢ tail X a
  tail-C-mul c a = ext _ _ λ n. simp (coeff-tail, coeff-C-mul)

  pub tail-t-mul : (a : S) → tail X (t X *ˢ a) ≡ a
  tail-t-mul a = ext _ _ λ n. simp (coeff-tail, coeff-t-mul-suc)
