-- Division with remainder.
--     coeff-monomial-mul, coeff-monomial-mul-low     the coefficients of c · u^k · y
--     step-below                                     a step clears one coefficient
-- Theorems:
--     division                                   x = quotient · y + remainder, for any x and y
--     remainder-below                            with k steps for x of d + k coefficients, y of degree d, the remainder is below d
--     mul-below                                  a multiple of y that is shorter than y is 0
--     division-unique                            quotient and remainder are the only ones
--     coeff-quotient-top, coeff-quotient-low     the quotient, from its last coefficient down
-- Assumes nothing.
use mathlib.Core.Path.{◌≡◌, ◌∙◌, refl, sym, ap, ap₂, subst}
use Prim.Native.Nat.{ℕ, zero, suc, ◌+◌, ◌<◌}
use native.Mathlib.Nat as N
use native.Mathlib.Omega.{arith}
use Rattle.algebra.specs.RingLaws as R
use Rattle.algebra.specs.Ring.{CommRing, IsField}
use Rattle.algebra.specs.RingLaws.{RING}
use Rattle.algebra.proofs.Ring.{zero-of-mul}
use Rattle.algebra.specs.Series.{SeriesRing, C, t}
use Rattle.algebra.proofs.Series.{coeff-add, coeff-neg, coeff-C-mul, coeff-t-mul-zero, coeff-t-mul-suc}
use Rattle.algebra.specs.Polynomial.{Below, Polynomial, monomial}
use Rattle.algebra.proofs.Polynomial.{below-mono, below-0, below-add, below-neg, zero-of-below, below-mul, polynomial-add, polynomial-neg, drop-top, top-of-product, below-monomial, coeff-monomial}
use Rattle.algebra.specs.Degree.{Degree}
use Rattle.algebra.specs.Division.{digit, step, remainder, quotient}

module _ {Rg : CommRing} (X : SeriesRing Rg) where
  open Rg use {Carrier, zero as 𝟘, mul as ◌⊗◌}

  infixl 70 ◌⊗◌
  open X.ring use {Carrier as S, one as 1ˢ, mul as ◌*ˢ◌}

  infixl 70 ◌*ˢ◌
  -- the coefficients of c · u^k · y
  pub coeff-monomial-mul : (c : Carrier) (k : ℕ) (y : S) (i : ℕ) → X.coeff (monomial X c k *ˢ y) (k + i) ≡ c ⊗ X.coeff y i
  unfolding monomial
  coeff-monomial-mul c zero y i = ap (X.coeff (C X c *ˢ y)) (N.zero-add i) ∙ coeff-C-mul X c y i
  coeff-monomial-mul c (suc k) y i =
      ap₂ X.coeff (R.mul_assoc X.ring (t X) (monomial X c k) y) (N.suc-add k i) ∙ coeff-t-mul-suc X _ (k + i)
      ∙ coeff-monomial-mul c k y i

  pub coeff-monomial-mul-low : (c : Carrier) (k : ℕ) (y : S) (j : ℕ) → j < k → X.coeff (monomial X c k *ˢ y) j ≡ 𝟘
  unfolding monomial
  coeff-monomial-mul-low c zero y j l = absurd (omega arith)
  coeff-monomial-mul-low c (suc k) y zero l = ap (λ s. X.coeff s 0) (R.mul_assoc X.ring (t X) (monomial X c k) y) ∙ coeff-t-mul-zero X _
  coeff-monomial-mul-low c (suc k) y (suc j) l =
      ap (λ s. X.coeff s (suc j)) (R.mul_assoc X.ring (t X) (monomial X c k) y) ∙ coeff-t-mul-suc X _ j
      ∙ coeff-monomial-mul-low c k y j (N.le_of_suc-le-suc l)

  pub coeff-monomial-low : (c : Carrier) (k j : ℕ) → j < k → X.coeff (monomial X c k) j ≡ 𝟘
  coeff-monomial-low c k j l = ap (λ s. X.coeff s j) (sym (R.mul-one X.ring (monomial X c k))) ∙ coeff-monomial-mul-low c k 1ˢ j l

module _ {Rg : CommRing} (X : SeriesRing Rg) (K : IsField Rg) where
  open Rg use {Carrier, zero as 𝟘, neg as ⊖◌, add as ◌⊕◌, mul as ◌⊗◌}

  infixl 65 ◌⊕◌
  infixl 70 ◌⊗◌
  infix 80 ⊖◌
  open X.ring use {Carrier as S, zero as 0ˢ, neg as -ˢ◌, add as ◌+ˢ◌, mul as ◌*ˢ◌}

  infixl 65 ◌+ˢ◌
  infixl 70 ◌*ˢ◌
  infix 80 -ˢ◌
  pub remainder-zero : (d : ℕ) (x y : S) → remainder X K 0 d x y ≡ x
  unfolding remainder
  remainder-zero d x y = refl

  pub remainder-suc : (k d : ℕ) (x y : S) → remainder X K (suc k) d x y ≡ remainder X K k d (step X K k d x y) y
  unfolding remainder
  remainder-suc k d x y = refl

  pub quotient-zero : (d : ℕ) (x y : S) → quotient X K 0 d x y ≡ 0ˢ
  unfolding quotient
  quotient-zero d x y = refl

  pub quotient-suc : (k d : ℕ) (x y : S) → quotient X K (suc k) d x y ≡ quotient X K k d (step X K k d x y) y +ˢ monomial X (digit X K k d x y) k
  unfolding quotient
  quotient-suc k d x y = refl

  pub step-below : (k d : ℕ) {x y : S} → Degree X d y → Below X (suc (d + k)) x → Below X (d + k) (step X K k d x y)
  unfolding step digit
  step-below k d {x} {y} e hx =
      drop-top X (d + k)
      (below-add X hx (below-neg X (subst (λ j. Below X j (m *ˢ y)) q (below-mul X k (suc d) (below-monomial X c k) e.below)))) top
    where
      c : Carrier
      c = X.coeff x (d + k) ⊗ K.inv (X.coeff y d)

      m : S
      m = monomial X c k

      q : k + suc d ≡ suc (d + k)
      q = omega arith

      same : X.coeff (m *ˢ y) (d + k) ≡ X.coeff x (d + k)
      same =
          ap (X.coeff (m *ˢ y)) (N.add_comm d k) ∙ top-of-product X k d (below-monomial X c k) e.below
          ∙ ap (λ z. z ⊗ X.coeff y d) (coeff-monomial X c k) ∙ R.mul_assoc Rg _ _ _
          ∙ ap (λ z. X.coeff x (d + k) ⊗ z) (R.mul_comm Rg _ _ ∙ K.mul-inv (X.coeff y d) e.top) ∙ R.mul-one Rg _

      top : X.coeff (x +ˢ -ˢ (m *ˢ y)) (d + k) ≡ 𝟘
      top = coeff-add X _ _ (d + k) ∙ ap (λ z. X.coeff x (d + k) ⊕ z) (coeff-neg X _ (d + k) ∙ ap (λ z. ⊖ z) same) ∙ R.add-neg Rg _

  regroup : (q m x y r : S) → x +ˢ -ˢ (m *ˢ y) ≡ q *ˢ y +ˢ r → x ≡ (q +ˢ m) *ˢ y +ˢ r
  regroup q m x y r h = (sym (back x (m *ˢ y))) ∙ ap (λ z. z +ˢ m *ˢ y) h ∙ front q m y r
    where
      back : (a b : S) → a +ˢ -ˢ b +ˢ b ≡ a
      back a b = simp RING

      front : (q m y r : S) → q *ˢ y +ˢ r +ˢ m *ˢ y ≡ (q +ˢ m) *ˢ y +ˢ r
      front q m y r = simp RING

  -- x = quotient · y + remainder, for any x and y
  pub division : (k d : ℕ) (x y : S) → x ≡ quotient X K k d x y *ˢ y +ˢ remainder X K k d x y
  unfolding step
  division zero d x y = simp (quotient-zero, remainder-zero) (simp RING)
  division (suc k) d x y =
      rw (quotient-suc k d x y, remainder-suc k d x y)
      (regroup (quotient X K k d (step X K k d x y) y) (monomial X (digit X K k d x y) k) x y (remainder X K k d (step X K k d x y) y)
      (division k d (step X K k d x y) y))

  -- with k steps for x of d + k coefficients the remainder is below d
  pub remainder-below : (k d : ℕ) {x y : S} → Degree X d y → Below X (d + k) x → Below X d (remainder X K k d x y)
  remainder-below zero d {x} {y} e hx = rw (remainder-zero d x y) (rw (N.add-zero d) at hx)
  remainder-below (suc k) d {x} {y} e hx = rw (remainder-suc k d x y) (remainder-below k d e (step-below k d e (rw (N.add-suc d k) at hx)))

  pub quotient-below : (k d : ℕ) (x y : S) → Below X k (quotient X K k d x y)
  quotient-below zero d x y = rw (quotient-zero d x y) (below-0 X 0)
  quotient-below (suc k) d x y =
      rw (quotient-suc k d x y)
      (below-add X (below-mono X (N.le-suc k) (quotient-below k d (step X K k d x y) y)) (below-monomial X (digit X K k d x y) k))

  -- a multiple of y that is shorter than y is 0
  pub mul-below : (n m : ℕ) {u f : S} → Below X n u → Below X (suc m) f → ¬ (X.coeff f m ≡ 𝟘) → Below X m (u *ˢ f) → u ≡ 0ˢ
  mul-below zero m hu hf nonzero h = zero-of-below X hu
  mul-below (suc n) m {u} {f} hu hf nonzero h = mul-below n m (drop-top X n hu top) hf nonzero h
    where
      top : X.coeff u n ≡ 𝟘
      top =
          zero-of-mul Rg K (X.coeff f m) (X.coeff u n) nonzero
          (R.mul_comm Rg _ _ ∙ sym (top-of-product X n m hu hf) ∙ h.at (n + m) (N.le-add_left m n))

  -- quotient and remainder are the only ones
  pub division-unique : (d : ℕ) {y q q' r r' : S} → Degree X d y → Polynomial X q → Polynomial X q' → Below X d r → Below X d r'
      → q *ˢ y +ˢ r ≡ q' *ˢ y +ˢ r' → (q ≡ q') × (r ≡ r')
  division-unique d {y} {q} {q'} {r} {r'} e pq pq' hr hr' h =
      (same, R.add_left_cancel X.ring (q *ˢ y) r r' (h ∙ ap (λ a. a *ˢ y +ˢ r') (sym same)))
    where
      left : (q q' y r : S) → (q +ˢ -ˢ q') *ˢ y ≡ q *ˢ y +ˢ r +ˢ -ˢ (q' *ˢ y) +ˢ -ˢ r
      left q q' y r = simp RING

      right : (q' y r r' : S) → q' *ˢ y +ˢ r' +ˢ -ˢ (q' *ˢ y) +ˢ -ˢ r ≡ r' +ˢ -ˢ r
      right q' y r r' = simp RING

      small : (q +ˢ -ˢ q') *ˢ y ≡ r' +ˢ -ˢ r
      small = left q q' y r ∙ ap (λ a. a +ˢ -ˢ (q' *ˢ y) +ˢ -ˢ r) h ∙ right q' y r r'

      same : q ≡ q'
      same =
          R.eq_of_sub X.ring q q'
          (mul-below _ d (polynomial-add X pq (polynomial-neg X pq')).below e.below e.top
          (subst (λ a. Below X d a) (sym small) (below-add X hr' (below-neg X hr))))

  -- the quotient, from its last coefficient down
  pub coeff-quotient-top : (k d : ℕ) (x y : S) → X.coeff (quotient X K (suc k) d x y) k ≡ digit X K k d x y
  coeff-quotient-top k d x y =
      ap (λ s. X.coeff s k) (quotient-suc k d x y) ∙ coeff-add X _ _ k
      ∙ ap₂ (λ a b. a ⊕ b) ((quotient-below k d (step X K k d x y) y).at k (N.le_refl k)) (coeff-monomial X _ k) ∙ R.zero-add Rg _

  pub coeff-quotient-low : (k d : ℕ) (x y : S) (j : ℕ) → j < k
      → X.coeff (quotient X K (suc k) d x y) j ≡ X.coeff (quotient X K k d (step X K k d x y) y) j
  coeff-quotient-low k d x y j l =
      ap (λ s. X.coeff s j) (quotient-suc k d x y) ∙ coeff-add X _ _ j
      ∙ ap (λ z. X.coeff (quotient X K k d (step X K k d x y) y) j ⊕ z) (coeff-monomial-low X _ k j l) ∙ R.add-zero Rg _
