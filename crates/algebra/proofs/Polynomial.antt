-- Bounds of polynomials, and divisibility.
--     below-mono, below-add, below-mul, …     a larger bound, and the bounds of sums, products and the like
--     zero-of-below                           below 0: the zero polynomial
--     C-of-below                              below 1: a constant
--     drop-top                                below n + 1 with coefficient n zero: below n
--     split-mul                               a·b = a_0·b + t · (tail a · b)
--     polynomial-add, polynomial-mul, …       sums and products of polynomials are polynomials
--     divides-trans, divides-mul, …           divisors of divisors, and of products
--     top-of-product                          coefficient n + m of a product of degrees n and m at most is that of the factors' last
-- Assumes nothing.
use mathlib.Core.Path.{◌≡◌, ◌∙◌, sym, ap, ap₂, subst}
use mathlib.Core.Logic.{◌⊎◌, inl, inr}
use Prim.Native.Nat.{ℕ, zero, suc, ◌+◌, ◌≤◌, ◌<◌, zero-le, suc-le-suc}
use native.Mathlib.Nat as N
use native.Mathlib.Omega.{arith}
use Rattle.algebra.specs.RingLaws as R
use Rattle.algebra.specs.Ring.{CommRing}
use Rattle.algebra.specs.RingLaws.{RING}
use Rattle.algebra.specs.Series.{SeriesRing, C, t, tail}
use Rattle.algebra.proofs.Series.{ext, coeff-add, coeff-neg, coeff-0, coeff-tail, coeff-C-zero, coeff-C-suc, C-one, coeff-C-mul, coeff-t-mul-suc, split}
use Rattle.algebra.specs.Polynomial.{Below, Polynomial, Divides, monomial}

module _ {Rg : CommRing} (X : SeriesRing Rg) where
  open Rg use {Carrier, zero as 𝟘, one as 𝟙, mul as ◌⊗◌}

  infixl 70 ◌⊗◌
  open X.ring use {Carrier as S, zero as 0ˢ, one as 1ˢ, neg as -ˢ◌, add as ◌+ˢ◌, mul as ◌*ˢ◌}

  infixl 65 ◌+ˢ◌
  infixl 70 ◌*ˢ◌
  infix 80 -ˢ◌
  pub below-mono : {n m : ℕ} {s : S} → n ≤ m → Below X n s → Below X m s
  below-mono l h = record { at = λ k j. h.at k (N.le_trans l j) }

  pub below-0 : (n : ℕ) → Below X n 0ˢ
  below-0 n = record { at = λ k j. coeff-0 X k }

  pub below-add : {n : ℕ} {a b : S} → Below X n a → Below X n b → Below X n (a +ˢ b)
  below-add {n} {a} {b} ha hb = record { at = λ k j. rw (coeff-add X a b k, ha.at k j, hb.at k j) (simp RING) }

  pub below-neg : {n : ℕ} {a : S} → Below X n a → Below X n (-ˢ a)
  below-neg {n} {a} ha = record { at = λ k j. rw (coeff-neg X a k, ha.at k j) (simp RING) }

  pub below-C : (c : Carrier) → Below X 1 (C X c)
  below-C c = record { at = go }
    where
      go : (k : ℕ) → 1 ≤ k → X.coeff (C X c) k ≡ 𝟘
      go zero j = absurd (omega arith)
      go (suc k) j = coeff-C-suc X c k

  pub below-1 : Below X 1 1ˢ
  below-1 = subst (λ x. Below X 1 x) (C-one X) (below-C 𝟙)

  pub below-C-mul : (c : Carrier) {n : ℕ} {a : S} → Below X n a → Below X n (C X c *ˢ a)
  below-C-mul c {n} {a} ha = record { at = λ k j. rw (coeff-C-mul X c a k, ha.at k j) (simp RING) }

  pub below-t-mul : {n : ℕ} {a : S} → Below X n a → Below X (suc n) (t X *ˢ a)
  below-t-mul {n} {a} ha = record { at = go }
    where
      go : (k : ℕ) → suc n ≤ k → X.coeff (t X *ˢ a) k ≡ 𝟘
      go zero j = absurd (omega arith)
      go (suc k) j = rw (coeff-t-mul-suc X a k) (ha.at k (N.le_of_suc-le-suc j))

  pub below-t : Below X 2 (t X)
  below-t = subst (λ x. Below X 2 x) (R.mul-one X.ring (t X)) (below-t-mul below-1)

  pub below-tail : {n : ℕ} {a : S} → Below X (suc n) a → Below X n (tail X a)
  below-tail {n} {a} ha = record { at = λ k j. rw (coeff-tail X a k) (ha.at (suc k) (suc-le-suc j)) }

  pub zero-of-below : {a : S} → Below X 0 a → a ≡ 0ˢ
  zero-of-below {a} ha = ext X a 0ˢ λ k. ha.at k zero-le ∙ sym (coeff-0 X k)

  -- a product, one coefficient of a apart
  pub split-mul : (a b : S) → a *ˢ b ≡ C X (X.coeff a zero) *ˢ b +ˢ t X *ˢ (tail X a *ˢ b)
  split-mul a b = ap (λ x. x *ˢ b) (split X a) ∙ simp RING

  pub C-of-below : {a : S} → Below X 1 a → a ≡ C X (X.coeff a zero)
  C-of-below {a} ha = split X a ∙ rw (zero-of-below (below-tail ha)) (simp RING)

  pub below-mul : (n m : ℕ) {a b : S} → Below X (suc n) a → Below X m b → Below X (n + m) (a *ˢ b)
  below-mul zero m {a} {b} ha hb = rw (C-of-below ha, N.zero-add) (below-C-mul (X.coeff a zero) hb)
  below-mul (suc n) m {a} {b} ha hb =
      rw (split-mul a b)
      (below-add (below-mono (omega arith) (below-C-mul (X.coeff a zero) hb))
      (rw N.suc-add (below-t-mul (below-mul n m (below-tail ha) hb))))

  pub polynomial : {n : ℕ} {s : S} → Below X n s → Polynomial X s
  polynomial {n} h = record { bound = n; below = h }

  pub polynomial-0 : Polynomial X 0ˢ
  polynomial-0 = polynomial (below-0 0)

  pub polynomial-1 : Polynomial X 1ˢ
  polynomial-1 = polynomial below-1

  pub polynomial-add : {a b : S} → Polynomial X a → Polynomial X b → Polynomial X (a +ˢ b)
  polynomial-add {a} {b} ha hb =
      polynomial
      (below-add (below-mono (N.le-add_right ha.bound hb.bound) ha.below)
      (below-mono (N.le-add_left hb.bound ha.bound) hb.below))

  pub polynomial-neg : {a : S} → Polynomial X a → Polynomial X (-ˢ a)
  polynomial-neg {a} ha = polynomial (below-neg ha.below)

  pub polynomial-mul : {a b : S} → Polynomial X a → Polynomial X b → Polynomial X (a *ˢ b)
  polynomial-mul {a} {b} ha hb = polynomial (below-mul ha.bound hb.bound (below-mono (N.le-suc ha.bound) ha.below) hb.below)

  pub divides-0 : (K : S) → Divides X K 0ˢ
  divides-0 K = record { cofactor = 0ˢ; polynomial = polynomial-0; equation = sym (R.mul-zero X.ring K) }

  pub divides-refl : (K : S) → Divides X K K
  divides-refl K = record { cofactor = 1ˢ; polynomial = polynomial-1; equation = sym (R.mul-one X.ring K) }

  pub divides-trans : {a b c : S} → Divides X a b → Divides X b c → Divides X a c
  divides-trans {a} {b} {c} x y =
      record {
        cofactor = x.cofactor *ˢ y.cofactor;
        polynomial = polynomial-mul x.polynomial y.polynomial;
        equation = y.equation ∙ ap (λ z. z *ˢ y.cofactor) x.equation ∙ R.mul_assoc X.ring _ _ _;
      }

  pub divides-mul : {a b c d : S} → Divides X a b → Divides X c d → Divides X (a *ˢ c) (b *ˢ d)
  divides-mul {a} {b} {c} {d} x y =
      record {
        cofactor = x.cofactor *ˢ y.cofactor;
        polynomial = polynomial-mul x.polynomial y.polynomial;
        equation = ap₂ (λ p q. p *ˢ q) x.equation y.equation ∙ four a x.cofactor c y.cofactor;
      }
    where
      four : (p q r s : S) → p *ˢ q *ˢ (r *ˢ s) ≡ p *ˢ r *ˢ (q *ˢ s)
      four p q r s = simp RING

  -- below n + 1, with coefficient n zero: below n
  pub drop-top : (n : ℕ) {a : S} → Below X (suc n) a → X.coeff a n ≡ 𝟘 → Below X n a
  drop-top n {a} h e = record { at = λ k j. go k (N.eq-or-lt_of_le j) }
    where
      go : (k : ℕ) → (n ≡ k) ⊎ (n < k) → X.coeff a k ≡ 𝟘
      go k (inl q) = ap (X.coeff a) (sym q) ∙ e
      go k (inr l) = h.at k l

  -- the coefficient n + m of a product of degrees n and m at most
  pub top-of-product : (n m : ℕ) {a b : S} → Below X (suc n) a → Below X (suc m) b → X.coeff (a *ˢ b) (n + m) ≡ X.coeff a n ⊗ X.coeff b m
  top-of-product zero m {a} {b} ha hb = ap₂ (λ x k. X.coeff (x *ˢ b) k) (C-of-below ha) (N.zero-add m) ∙ coeff-C-mul X (X.coeff a 0) b m
  top-of-product (suc n) m {a} {b} ha hb =
      let z : X.coeff b (suc (n + m)) ≡ 𝟘 = hb.at (suc (n + m)) (omega arith) in
      let ih : X.coeff (tail X a *ˢ b) (n + m) ≡ X.coeff (tail X a) n ⊗ X.coeff b m = top-of-product n m (below-tail ha) hb in
      ap₂ (λ x k. X.coeff x k) (split-mul a b) (N.suc-add n m)
      ∙ simp (coeff-add, coeff-C-mul, coeff-t-mul-suc, z, ih, coeff-tail) (simp RING)

  pub below-monomial : (c : Carrier) (d : ℕ) → Below X (suc d) (monomial X c d)
  unfolding monomial
  below-monomial c zero = below-C c
  below-monomial c (suc d) = below-t-mul (below-monomial c d)

  pub coeff-monomial : (c : Carrier) (d : ℕ) → X.coeff (monomial X c d) d ≡ c
  unfolding monomial
  coeff-monomial c zero = coeff-C-zero X c
  coeff-monomial c (suc d) = coeff-t-mul-suc X (monomial X c d) d ∙ coeff-monomial c d
