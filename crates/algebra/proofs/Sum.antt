-- Laws of finite sums, and what series are as sums.
--     term n s k     s_k · t^k · (1-t)^(n-k)
-- Theorems:
--     hom-sum           the homogenisation as a sum, as document 01 writes P(t)
--     coeff-product     coefficient n of a product is the sum of a_j · b_(n-j)
--     value_at-sum      the value of a sum is the sum of the values
-- Assumes nothing.
use mathlib.Core.Path.{◌≡◌, ◌∙◌, refl, sym, ap, ap₂}
use Prim.Native.Nat.{ℕ, zero, suc, ◌-◌, ◌<◌, suc-le-suc}
use native.Mathlib.Nat as N
use native.Mathlib.Omega.{arith}
use Rattle.algebra.specs.RingLaws as R
use Rattle.algebra.specs.Ring.{CommRing, pow}
use Rattle.algebra.specs.RingLaws.{RING}
use Rattle.algebra.proofs.Ring.{pow-zero}
use Rattle.algebra.specs.Series.{SeriesRing, C, t, tail}
use Rattle.algebra.proofs.Series.{coeff-mul-zero, coeff-mul-suc, coeff-tail}
use Rattle.algebra.specs.Evaluation.{ValueAt}
use Rattle.algebra.proofs.Evaluation.{value_at-add, value_at-0}
use Rattle.algebra.specs.OneMinusT.{⟨1-t⟩, ⟨1-t⟩^}
use Rattle.algebra.proofs.OneMinusT.{⟨1-t⟩^-zero, ⟨1-t⟩^-suc}
use Rattle.algebra.specs.Homogenise.{hom}
use Rattle.algebra.proofs.Homogenise.{hom-zero, hom-snoc}
use Rattle.algebra.specs.Sum.{sum, total}

module _ {Rg : CommRing} (X : SeriesRing Rg) where
  open X.ring use {Carrier as S, zero as 0ˢ, add as ◌+ˢ◌, mul as ◌*ˢ◌}

  infixl 65 ◌+ˢ◌
  infixl 70 ◌*ˢ◌
  pub sum-zero : (f : ℕ → S) → sum X 0 f ≡ 0ˢ
  unfolding sum
  sum-zero f = refl

  pub sum-suc : (n : ℕ) (f : ℕ → S) → sum X (suc n) f ≡ sum X n f +ˢ f n
  unfolding sum
  sum-suc n f = refl

  pub sum-ext : (n : ℕ) (f g : ℕ → S) → ((k : ℕ) → k < n → f k ≡ g k) → sum X n f ≡ sum X n g
  sum-ext zero f g h = sum-zero f ∙ sym (sum-zero g)
  sum-ext (suc n) f g h =
      sum-suc n f ∙ ap₂ (λ x y. x +ˢ y) (sum-ext n f g (λ k l. h k (omega arith))) (h n (omega arith)) ∙ sym (sum-suc n g)

  pub sum-mul : (a : S) (n : ℕ) (f : ℕ → S) → a *ˢ sum X n f ≡ sum X n (λ k. a *ˢ f k)
  sum-mul a zero f = ap (λ x. a *ˢ x) (sum-zero f) ∙ R.mul-zero X.ring a ∙ sym (sum-zero _)
  sum-mul a (suc n) f =
      ap (λ x. a *ˢ x) (sum-suc n f) ∙ R.mul-add X.ring a (sum X n f) (f n) ∙ ap (λ x. x +ˢ a *ˢ f n) (sum-mul a n f)
      ∙ sym (sum-suc n _)

  unfoldable pub term : ℕ → S → ℕ → S
  term n s k = C X (X.coeff s k) *ˢ pow X.ring (t X) k *ˢ ⟨1-t⟩^ X (n - k)

  next-term : (n : ℕ) (s : S) (k : ℕ) → k < suc n → ⟨1-t⟩ X *ˢ term n s k ≡ term (suc n) s k
  unfolding term
  next-term n s k l =
      shift (⟨1-t⟩ X) (C X (X.coeff s k)) (pow X.ring (t X) k) (⟨1-t⟩^ X (n - k))
      ∙ ap (λ x. C X (X.coeff s k) *ˢ pow X.ring (t X) k *ˢ x) (sym (ap (⟨1-t⟩^ X) e ∙ ⟨1-t⟩^-suc X (n - k)))
    where
      e : suc n - k ≡ suc (n - k)
      e = omega arith

      shift : (a b c d : S) → a *ˢ (b *ˢ c *ˢ d) ≡ b *ˢ c *ˢ (a *ˢ d)
      shift a b c d = simp RING

  last-term : (n : ℕ) (s : S) → term n s n ≡ pow X.ring (t X) n *ˢ C X (X.coeff s n)
  unfolding term
  last-term n s = ap (λ k. C X (X.coeff s n) *ˢ pow X.ring (t X) n *ˢ ⟨1-t⟩^ X k) (N.sub_self n) ∙ rw (⟨1-t⟩^-zero X) (simp RING)

  -- the homogenisation as a sum, as document 01 writes P(t)
  pub hom-sum : (n : ℕ) (s : S) → hom X n s ≡ sum X (suc n) (term n s)
  hom-sum zero s =
      hom-zero X s
      ∙ sym
      (sum-suc 0 (term 0 s) ∙ ap₂ (λ x y. x +ˢ y) (sum-zero (term 0 s)) (last-term 0 s)
      ∙ rw (pow-zero X.ring (t X)) (simp RING))
  hom-sum (suc n) s =
      hom-snoc X n s
      ∙ ap₂ (λ x y. x +ˢ y)
      (ap (λ x. ⟨1-t⟩ X *ˢ x) (hom-sum n s) ∙ sum-mul (⟨1-t⟩ X) (suc n) (term n s) ∙ sum-ext (suc n) _ _ (next-term n s))
      (sym (last-term (suc n) s))
      ∙ sym (sum-suc (suc n) (term (suc n) s))

pub total-zero : (Rg : CommRing) (f : ℕ → Rg.Carrier) → total Rg 0 f ≡ Rg.zero
unfolding total
total-zero Rg f = refl

pub total-suc : (Rg : CommRing) (n : ℕ) (f : ℕ → Rg.Carrier) → total Rg (suc n) f ≡ Rg.add (f 0) (total Rg n (λ k. f (suc k)))
unfolding total
total-suc Rg n f = refl

pub total_ext : (Rg : CommRing) (n : ℕ) (f g : ℕ → Rg.Carrier) → ((k : ℕ) → k < n → f k ≡ g k) → total Rg n f ≡ total Rg n g
total_ext Rg zero f g h = total-zero Rg f ∙ sym (total-zero Rg g)
total_ext Rg (suc n) f g h =
    total-suc Rg n f
    ∙ ap₂ Rg.add (h 0 (omega arith)) (total_ext Rg n (λ k. f (suc k)) (λ k. g (suc k)) (λ k l. h (suc k) (suc-le-suc l)))
    ∙ sym (total-suc Rg n g)

pub total-snoc : (Rg : CommRing) (n : ℕ) (f : ℕ → Rg.Carrier) → total Rg (suc n) f ≡ Rg.add (total Rg n f) (f n)
total-snoc Rg zero f =
    total-suc Rg 0 f ∙ ap (λ y. Rg.add (f 0) y) (total-zero Rg _) ∙ R.add_comm Rg _ _
    ∙ ap (λ y. Rg.add y (f 0)) (sym (total-zero Rg f))
total-snoc Rg (suc n) f =
    total-suc Rg (suc n) f ∙ ap (λ y. Rg.add (f 0) y) (total-snoc Rg n (λ k. f (suc k))) ∙ sym (R.add_assoc Rg _ _ _)
    ∙ ap (λ y. Rg.add y (f (suc n))) (sym (total-suc Rg n f))

pub total-mul : (Rg : CommRing) (n : ℕ) (f : ℕ → Rg.Carrier) (a : Rg.Carrier) → Rg.mul (total Rg n f) a ≡ total Rg n (λ k. Rg.mul (f k) a)
total-mul Rg zero f a = ap (λ x. Rg.mul x a) (total-zero Rg f) ∙ R.zero-mul Rg a ∙ sym (total-zero Rg _)
total-mul Rg (suc n) f a =
    ap (λ x. Rg.mul x a) (total-suc Rg n f) ∙ R.add-mul Rg _ _ a
    ∙ ap (λ x. Rg.add (Rg.mul (f 0) a) x) (total-mul Rg n (λ k. f (suc k)) a) ∙ sym (total-suc Rg n _)

module _ {Rg : CommRing} (X : SeriesRing Rg) where
  open Rg use {add as ◌⊕◌, mul as ◌⊗◌}

  infixl 65 ◌⊕◌
  infixl 70 ◌⊗◌
  open X.ring use {Carrier as S, mul as ◌*ˢ◌}

  infixl 70 ◌*ˢ◌
  -- coefficient n of a product
  pub coeff-product : (a b : S) (n : ℕ) → X.coeff (a *ˢ b) n ≡ total Rg (suc n) (λ j. X.coeff a j ⊗ X.coeff b (n - j))
  coeff-product a b zero =
      coeff-mul-zero X a b
      ∙ sym (total-suc Rg 0 _ ∙ ap (λ x. X.coeff a 0 ⊗ X.coeff b 0 ⊕ x) (total-zero Rg _) ∙ R.add-zero Rg _)
  coeff-product a b (suc n) =
      coeff-mul-suc X a b n
      ∙ ap (λ x. X.coeff a 0 ⊗ X.coeff b (suc n) ⊕ x) (coeff-product (tail X a) b n ∙ total_ext Rg (suc n) _ _ same)
      ∙ ap (λ i. X.coeff a 0 ⊗ X.coeff b i ⊕ total Rg (suc n) (λ k. X.coeff a (suc k) ⊗ X.coeff b (suc n - suc k)))
      (sym (N.sub-zero (suc n)))
      ∙ sym (total-suc Rg (suc n) (λ j. X.coeff a j ⊗ X.coeff b (suc n - j)))
    where
      same : (k : ℕ) → k < suc n → X.coeff (tail X a) k ⊗ X.coeff b (n - k) ≡ X.coeff a (suc k) ⊗ X.coeff b (suc n - suc k)
      same k l = ap₂ (λ x i. x ⊗ X.coeff b i) (coeff-tail X a k) e
        where
          e : n - k ≡ suc n - suc k
          e = omega arith

module _ {Rg : CommRing} (X : SeriesRing Rg) (x : Rg.Carrier) where
  open Rg use {Carrier}
  open X.ring use {Carrier as S}

  -- the value of a sum
  pub value_at-sum : (n : ℕ) (f : ℕ → S) (v : ℕ → Carrier) → ((k : ℕ) → ValueAt X x (f k) (v k)) → ValueAt X x (sum X n f) (total Rg n v)
  value_at-sum zero f v h = rw (sum-zero X f, total-zero Rg v) (value_at-0 X x)
  value_at-sum (suc n) f v h = rw (sum-suc X n f, total-snoc Rg n v) (value_at-add X x (value_at-sum n f v h) (h n))
