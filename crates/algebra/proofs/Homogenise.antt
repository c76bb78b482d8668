-- Laws of homogenisation.
--     C-add, C-mul, C-neg                        constants are added, multiplied and negated as the ring's elements
--     hom-add, hom-neg, hom-C-mul, hom-t-mul     the homogenisation of a sum, a negative, c · s and u · s
--     hom-more                                   a degree more is a factor 1-t more
--     hom-mul                                    the product of homogenisations is that of the product, at the sum of the degrees
--     hom-snoc                                   by the last coefficient and the rest
--     hom-inj, hom-eq                            hom n is injective on the polynomials of degree at most n
--     hom-strip, hom-short                       at a degree above that of s: the factors 1-t
--     value_at1-hom                              at t = 1 only coefficient n is left
--     polynomial-hom                             a homogenisation is a polynomial
-- Assumes nothing.
use mathlib.Core.Path.{◌≡◌, ◌∙◌, refl, sym, ap, ap₂, subst}
use Prim.Native.Nat.{ℕ, zero, suc, ◌+◌, ◌-◌, ◌≤◌}
use native.Mathlib.Nat as N
use native.Mathlib.Omega.{arith}
use Rattle.algebra.specs.RingLaws as R
use Rattle.algebra.specs.Ring.{CommRing, pow}
use Rattle.algebra.specs.RingLaws.{RING}
use Rattle.algebra.proofs.Ring.{pow-zero, pow-suc}
use Rattle.algebra.specs.Series.{SeriesRing, C, t, tail}
use Rattle.algebra.proofs.Series.{ext, coeff-add, coeff-0, coeff-1_zero, coeff-mul-zero, coeff-tail, coeff-C-zero, coeff-C-suc, coeff-t-zero, C-zero, coeff-C-mul, coeff-t-mul-zero, split, tail-0, tail-add, tail-C-mul, tail-t-mul}
use Rattle.algebra.specs.Polynomial.{Below, Polynomial}
use Rattle.algebra.proofs.Polynomial.{below-add, below-neg, below-tail, zero-of-below, split-mul, C-of-below}
use Rattle.algebra.specs.Evaluation.{ValueAt1}
use Rattle.algebra.proofs.Evaluation.{value_at-mul, value_at-add, value_at-C, value_at-t, value_at-polynomial, value-at-1}
use Rattle.algebra.specs.OneMinusT.{⟨1-t⟩, ⟨1-t⟩^}
use Rattle.algebra.proofs.OneMinusT.{⟨1-t⟩^-zero, ⟨1-t⟩^-suc, ⟨1-t⟩^-add, coeff-⟨1-t⟩, value_at1-⟨1-t⟩, polynomial-⟨1-t⟩^}
use Rattle.algebra.specs.Homogenise.{hom}

module _ {Rg : CommRing} (X : SeriesRing Rg) where
  open Rg use {Carrier, zero as 𝟘, one as 𝟙, neg as ⊖◌, add as ◌⊕◌, mul as ◌⊗◌}

  infixl 65 ◌⊕◌
  infixl 70 ◌⊗◌
  infix 80 ⊖◌
  open X.ring use {Carrier as S, zero as 0ˢ, neg as -ˢ◌, add as ◌+ˢ◌, mul as ◌*ˢ◌}

  infixl 65 ◌+ˢ◌
  infixl 70 ◌*ˢ◌
  infix 80 -ˢ◌
  pub C-add : (c d : Carrier) → C X (c ⊕ d) ≡ C X c +ˢ C X d
  C-add c d = ext X _ _ λ n. elim n as (λ k. X.coeff (C X (c ⊕ d)) k ≡ X.coeff (C X c +ˢ C X d) k) [ zero ↦ simp (coeff-add, coeff-C-zero) | suc m ↦ simp (coeff-add, coeff-C-suc) (simp RING) ]

  pub C-mul : (c d : Carrier) → C X (c ⊗ d) ≡ C X c *ˢ C X d
  C-mul c d = ext X _ _ λ n. elim n as (λ k. X.coeff (C X (c ⊗ d)) k ≡ X.coeff (C X c *ˢ C X d) k) [ zero ↦ simp (coeff-C-mul, coeff-C-zero) | suc m ↦ simp (coeff-C-mul, coeff-C-suc) (simp RING) ]

  pub C-neg : (c : Carrier) → C X (⊖ c) ≡ -ˢ C X c
  C-neg c = R.neg_unique X.ring (C X c) (C X (⊖ c)) (sym (C-add c (⊖ c)) ∙ ap (C X) (R.add-neg Rg c) ∙ C-zero X)

  pub hom-zero : (s : S) → hom X 0 s ≡ C X (X.coeff s 0)
  unfolding hom
  hom-zero s = refl

  pub hom-suc : (n : ℕ) (s : S) → hom X (suc n) s ≡ ⟨1-t⟩^ X (suc n) *ˢ C X (X.coeff s zero) +ˢ t X *ˢ hom X n (tail X s)
  unfolding hom
  hom-suc n s = refl

  pub hom-0 : (n : ℕ) → hom X n 0ˢ ≡ 0ˢ
  hom-0 zero = simp (hom-zero, coeff-0, C-zero)
  hom-0 (suc n) = simp (hom-suc, tail-0, hom-0 n, coeff-0, C-zero) (simp RING)

  pub hom-add : (n : ℕ) (a b : S) → hom X n (a +ˢ b) ≡ hom X n a +ˢ hom X n b
  hom-add zero a b = simp (hom-zero, coeff-add, C-add)
  hom-add (suc n) a b = simp (hom-suc, coeff-add, C-add, tail-add, hom-add n (tail X a) (tail X b)) (simp RING)

  pub hom-neg : (n : ℕ) (a : S) → hom X n (-ˢ a) ≡ -ˢ hom X n a
  hom-neg n a = R.neg_unique X.ring (hom X n a) (hom X n (-ˢ a)) (sym (hom-add n a (-ˢ a)) ∙ ap (hom X n) (R.add-neg X.ring a) ∙ hom-0 n)

  pub hom-C-mul : (n : ℕ) (c : Carrier) (a : S) → hom X n (C X c *ˢ a) ≡ C X c *ˢ hom X n a
  hom-C-mul zero c a = simp (hom-zero, coeff-C-mul, C-mul)
  hom-C-mul (suc n) c a = simp (hom-suc, coeff-C-mul, C-mul, tail-C-mul, hom-C-mul n c (tail X a)) (simp RING)

  pub hom-t-mul : (n : ℕ) (a : S) → hom X (suc n) (t X *ˢ a) ≡ t X *ˢ hom X n a
  hom-t-mul n a = simp (hom-suc, coeff-t-mul-zero, C-zero, tail-t-mul) (simp RING)

  -- a degree more is a factor 1-t more
  pub hom-more : (n j : ℕ) {s : S} → Below X (suc n) s → hom X (n + j) s ≡ ⟨1-t⟩^ X j *ˢ hom X n s
  hom-more zero j {s} h = ap (λ k. hom X k s) (N.zero-add j) ∙ go j
    where
      go : (j : ℕ) → hom X j s ≡ ⟨1-t⟩^ X j *ˢ hom X 0 s
      go zero = simp (⟨1-t⟩^-zero, R.one-mul)
      go (suc j) = simp (hom-suc, zero-of-below X (below-tail X h), hom-0, hom-zero) (simp RING)
  hom-more (suc n) j {s} h =
      ap (λ k. hom X k s) (N.suc-add n j) ∙ simp (hom-suc, hom-more n j (below-tail X h), ⟨1-t⟩^-suc, ⟨1-t⟩^-add) (simp RING)

  -- the product of homogenisations is that of the product
  pub hom-mul : (n m : ℕ) {a b : S} → Below X (suc n) a → Below X (suc m) b → hom X (n + m) (a *ˢ b) ≡ hom X n a *ˢ hom X m b
  hom-mul zero m {a} {b} ha hb =
      ap (λ k. hom X k (a *ˢ b)) (N.zero-add m) ∙ ap (λ x. hom X m (x *ˢ b)) (C-of-below X ha) ∙ hom-C-mul m (X.coeff a zero) b
      ∙ ap (λ x. x *ˢ hom X m b) (sym (hom-zero a))
  hom-mul (suc n) m {a} {b} ha hb =
      ap (hom X (suc n + m)) (split-mul X a b) ∙ hom-add (suc n + m) (C X (X.coeff a zero) *ˢ b) (t X *ˢ (tail X a *ˢ b))
      ∙ ap₂ (λ u v. u +ˢ v) left (right (hom-mul n m (below-tail X ha) hb)) ∙ simp (hom-suc) (simp RING)
    where
      left : hom X (suc n + m) (C X (X.coeff a zero) *ˢ b) ≡ C X (X.coeff a zero) *ˢ (⟨1-t⟩^ X (suc n) *ˢ hom X m b)
      left =
          hom-C-mul (suc n + m) (X.coeff a zero) b
          ∙ ap (λ x. C X (X.coeff a zero) *ˢ x) (ap (λ k. hom X k b) (N.add_comm (suc n) m) ∙ hom-more m (suc n) hb)

      right : hom X (n + m) (tail X a *ˢ b) ≡ hom X n (tail X a) *ˢ hom X m b
          → hom X (suc n + m) (t X *ˢ (tail X a *ˢ b)) ≡ t X *ˢ (hom X n (tail X a) *ˢ hom X m b)
      right ih = ap (λ k. hom X k (t X *ˢ (tail X a *ˢ b))) (N.suc-add n m) ∙ hom-t-mul (n + m) (tail X a *ˢ b) ∙ ap (λ x. t X *ˢ x) ih

  -- by the last coefficient and the rest
  pub hom-snoc : (n : ℕ) (s : S) → hom X (suc n) s ≡ ⟨1-t⟩ X *ˢ hom X n s +ˢ pow X.ring (t X) (suc n) *ˢ C X (X.coeff s (suc n))
  hom-snoc zero s =
      hom-suc 0 s
      ∙ simp (hom-zero, coeff-tail) (rw (⟨1-t⟩^-suc X 0, pow-suc X.ring (t X) 0) (simp (⟨1-t⟩^-zero, pow-zero, RING)))
  hom-snoc (suc n) s = hom-suc (suc n) s ∙ simp (hom-snoc n (tail X s), hom-suc n s, coeff-tail, ⟨1-t⟩^-suc, pow-suc) (simp RING)

  coeff-⟨1-t⟩^ : (n : ℕ) → X.coeff (⟨1-t⟩^ X n) 0 ≡ 𝟙
  coeff-⟨1-t⟩^ zero = simp (⟨1-t⟩^-zero, coeff-1_zero)
  coeff-⟨1-t⟩^ (suc n) = simp (⟨1-t⟩^-suc, coeff-mul-zero, coeff-⟨1-t⟩^ n, coeff-⟨1-t⟩) (simp RING)

  t-cancel : (a : S) → t X *ˢ a ≡ 0ˢ → a ≡ 0ˢ
  t-cancel a h = sym (tail-t-mul X a) ∙ ap (λ x. tail X x) h ∙ tail-0 X

  -- hom n is injective on the polynomials of degree at most n
  pub hom-inj : (n : ℕ) {s : S} → Below X (suc n) s → hom X n s ≡ 0ˢ → s ≡ 0ˢ
  hom-inj zero {s} h e = C-of-below X h ∙ sym (hom-zero s) ∙ e
  hom-inj (suc n) {s} h e = split X s ∙ ap₂ (λ c x. C X c +ˢ t X *ˢ x) s0 (hom-inj n (below-tail X h) rest) ∙ simp (C-zero) (simp RING)
    where
      s0 : X.coeff s 0 ≡ 𝟘
      s0 =
          sym (simp (hom-suc, coeff-add, coeff-mul-zero, coeff-⟨1-t⟩^, coeff-C-zero, coeff-t-zero) (simp RING))
          ∙ ap (λ x. X.coeff x 0) e ∙ coeff-0 X 0

      rest : hom X n (tail X s) ≡ 0ˢ
      rest = t-cancel (hom X n (tail X s)) (sym (hom-suc n s ∙ rw s0 (simp (C-zero) (simp RING))) ∙ e)

  pub hom-eq : (n : ℕ) {a b : S} → Below X (suc n) a → Below X (suc n) b → hom X n a ≡ hom X n b → a ≡ b
  hom-eq n {a} {b} ha hb e =
      R.eq_of_sub X.ring a b
      (hom-inj n (below-add X ha (below-neg X hb))
      (hom-add n a (-ˢ b) ∙ ap₂ (λ x y. x +ˢ y) e (hom-neg n b) ∙ R.add-neg X.ring _))

  -- at a degree above that of s: the factors 1-t
  pub hom-strip : (n m : ℕ) {s : S} → Below X (suc m) s → m ≤ n → hom X n s ≡ ⟨1-t⟩^ X (n - m) *ˢ hom X m s
  hom-strip n m {s} x l = ap (λ k. hom X k s) e ∙ hom-more m (n - m) x
    where
      e : n ≡ m + (n - m)
      e = omega arith

  -- the same for the number d of coefficients, which may be 0
  pub hom-short : (n d : ℕ) {s : S} → Below X d s → d ≤ suc n → hom X n s ≡ ⟨1-t⟩^ X (suc n - d) *ˢ hom X (d - 1) s
  hom-short n zero {s} h l =
      ap (hom X n) (zero-of-below X h) ∙ hom-0 n
      ∙ sym (ap (λ x. ⟨1-t⟩^ X (suc n - 0) *ˢ x) (ap (hom X (0 - 1)) (zero-of-below X h) ∙ hom-0 _) ∙ R.mul-zero X.ring _)
  hom-short n (suc d) {s} h l = hom-strip n d h (N.le_of_suc-le-suc l) ∙ ap₂ (λ i j. ⟨1-t⟩^ X i *ˢ hom X j s) e e'
    where
      e : n - d ≡ suc n - suc d
      e = omega arith

      e' : d ≡ suc d - 1
      e' = omega arith

  -- at t = 1 only coefficient n is left
  pub value_at1-hom : (n : ℕ) (s : S) → ValueAt1 X (hom X n s) (X.coeff s n)
  value_at1-hom zero s = subst (λ x. ValueAt1 X x (X.coeff s 0)) (sym (hom-zero s)) (value_at-C X 𝟙 (X.coeff s 0))
  value_at1-hom (suc n) s =
      subst (λ x. ValueAt1 X x (X.coeff s (suc n))) (sym (hom-suc n s))
      (subst (λ v. ValueAt1 X (⟨1-t⟩^ X (suc n) *ˢ C X (X.coeff s 0) +ˢ t X *ˢ hom X n (tail X s)) v) sum
      (value_at-add X 𝟙 (value_at-mul X 𝟙 power-0 (value_at-C X 𝟙 (X.coeff s 0)))
      (value_at-mul X 𝟙 (value_at-t X 𝟙) (value_at1-hom n (tail X s)))))
    where
      power-0 : ValueAt1 X (⟨1-t⟩^ X (suc n)) 𝟘
      power-0 =
          subst (λ x. ValueAt1 X x 𝟘) (sym (⟨1-t⟩^-suc X n))
          (subst (λ v. ValueAt1 X (⟨1-t⟩ X *ˢ ⟨1-t⟩^ X n) v) (R.zero-mul Rg _)
          (value_at-mul X 𝟙 (value_at1-⟨1-t⟩ X) (value-at-1 X (polynomial-⟨1-t⟩^ X n))))

      sum : 𝟘 ⊗ X.coeff s 0 ⊕ 𝟙 ⊗ X.coeff (tail X s) n ≡ X.coeff s (suc n)
      sum = simp (coeff-tail) (simp RING)

  pub polynomial-hom : (n : ℕ) (s : S) → Polynomial X (hom X n s)
  polynomial-hom n s = value_at-polynomial X 𝟙 (value_at1-hom n s)
