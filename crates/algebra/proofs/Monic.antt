-- The monic form of a polynomial, and what fixes the cofactors.
--     monic-top, monic-degree     its last coefficient is 1, and its degree that of s
--     monic-divides               what s divides its monic form divides
--     zero-of-product             over a field a product is 0 only where a factor is
--     cofactor-degree             the degree of a cofactor is the difference of the degrees
--     cancel                      a factor that is not 0 cancels
-- Theorem:
--     cofactors-unique     A·y + B·x = h has one solution with B below (degree of y) - (degree of h), h a common divisor of x and y
-- Assumes nothing.
use mathlib.Core.Path.{◌≡◌, ◌∙◌, refl, sym, ap, ap₂, subst}
use mathlib.Core.Logic.{◌⊎◌, inl, inr}
use Prim.Native.Nat.{ℕ, suc, ◌+◌, ◌-◌, ◌≤◌}
use native.Mathlib.Omega.{arith}
use Rattle.algebra.specs.RingLaws as R
use Rattle.algebra.specs.Ring.{CommRing, IsField}
use Rattle.algebra.specs.RingLaws.{RING}
use Rattle.algebra.specs.Series.{SeriesRing, C}
use Rattle.algebra.proofs.Series.{coeff-0, C-one, coeff-C-mul}
use Rattle.algebra.specs.Polynomial.{Below, Polynomial, Divides}
use Rattle.algebra.proofs.Polynomial.{below-0, below-add, below-neg, below-C, below-C-mul, polynomial, polynomial-1, polynomial-add, polynomial-neg, polynomial-mul}
use Rattle.algebra.proofs.Homogenise.{C-mul}
use Rattle.algebra.specs.Degree.{Degree, size}
use Rattle.algebra.proofs.Degree.{degree-unique, degree-of, degree-mul, size-extent}
use Rattle.algebra.proofs.Division.{mul-below}
use Rattle.algebra.specs.Monic.{top_inverse, monic}

module _ {Rg : CommRing} (X : SeriesRing Rg) (K : IsField Rg) where
  open Rg use {Carrier, zero as 𝟘, one as 𝟙, mul as ◌⊗◌}

  infixl 70 ◌⊗◌
  open X.ring use {Carrier as S, zero as 0ˢ, one as 1ˢ, neg as -ˢ◌, add as ◌+ˢ◌, mul as ◌*ˢ◌}

  infixl 65 ◌+ˢ◌
  infixl 70 ◌*ˢ◌
  infix 80 -ˢ◌
  pub monic-is : (n : ℕ) (s : S) → monic X K n s ≡ C X (top_inverse X K n s) *ˢ s
  unfolding monic
  monic-is n s = refl

  C-inv : (c : Carrier) → ¬ (c ≡ 𝟘) → C X c *ˢ C X (K.inv c) ≡ 1ˢ
  C-inv c nz = sym (C-mul X c (K.inv c)) ∙ ap (C X) (K.mul-inv c nz) ∙ C-one X

  module _ (n d : ℕ) {s : S} (hs : Below X n s) (e : size X K n s ≡ suc d) where
    x : Degree X d s
    x = size-extent X K n d hs e

    is : top_inverse X K n s ≡ K.inv (X.coeff s d)
    unfolding top_inverse
    is = ap (λ k. K.inv (X.coeff s k)) (ap (λ k. k - 1) e ∙ q)
      where
        q : suc d - 1 ≡ d
        q = omega arith

    pub monic-top : X.coeff (monic X K n s) d ≡ 𝟙
    unfolding monic
    monic-top = coeff-C-mul X (top_inverse X K n s) s d ∙ ap (λ c. c ⊗ X.coeff s d) is ∙ R.mul_comm Rg _ _ ∙ K.mul-inv (X.coeff s d) x.top

    pub monic-degree : Degree X d (monic X K n s)
    unfolding monic
    monic-degree = record { below = below-C-mul X (top_inverse X K n s) x.below; top = λ z. K.one≢zero (sym monic-top ∙ z) }

    -- s = monic · s_d
    back : s ≡ monic X K n s *ˢ C X (X.coeff s d)
    unfolding monic
    back =
        sym
        (ap (λ c. C X c *ˢ s *ˢ C X (X.coeff s d)) is ∙ shift (C X (K.inv (X.coeff s d))) s (C X (X.coeff s d))
        ∙ ap (λ y. y *ˢ s) (C-inv (X.coeff s d) x.top) ∙ R.one-mul X.ring s)
      where
        shift : (a b c : S) → a *ˢ b *ˢ c ≡ c *ˢ a *ˢ b
        shift a b c = simp RING

    -- what s divides the monic form divides
    pub monic-divides : {y : S} → Divides X s y → Divides X (monic X K n s) y
    monic-divides {y} q =
        record {
          cofactor = C X (X.coeff s d) *ˢ q.cofactor;
          polynomial = polynomial-mul X (polynomial X (below-C X _)) q.polynomial;
          equation = q.equation ∙ ap (λ z. z *ˢ q.cofactor) back ∙ R.mul_assoc X.ring _ _ _;
        }

  -- over a field a product is 0 only where a factor is
  pub zero-of-product : {d : ℕ} {u f : S} → Polynomial X u → Degree X d f → u *ˢ f ≡ 0ˢ → u ≡ 0ˢ
  zero-of-product {d} {u} {f} pu xf e =
      mul-below X K pu.bound d pu.below xf.below xf.top (subst (λ z. Below X d z) (sym e) (below-0 X d))

  -- degrees subtract
  pub cofactor-degree : {d e : ℕ} {y h : S} → Degree X e y → Degree X d h → (q : Divides X h y) → Degree X (e - d) q.cofactor × (d ≤ e)
  cofactor-degree {d} {e} {y} {h} xy xh q = go (degree-of X K q.polynomial.bound q.polynomial.below)
    where
      go : (q.cofactor ≡ 0ˢ) ⊎ ((k : ℕ) × Degree X k q.cofactor) → Degree X (e - d) q.cofactor × (d ≤ e)
      go (inl z) = absurd (xy.top (ap (λ s. X.coeff s e) (q.equation ∙ ap (λ s. h *ˢ s) z ∙ R.mul-zero X.ring h) ∙ coeff-0 X e))
      go (inr r) = (subst (λ k. Degree X k q.cofactor) ke r.1, l)
        where
          me : e ≡ d + r.0
          me = degree-unique X xy (subst (λ s. Degree X (d + r.0) s) (sym q.equation) (degree-mul X K xh r.1))

          ke : r.0 ≡ e - d
          ke = omega (arith, me)

          l : d ≤ e
          l = omega (arith, me)

  factor-out : (A B h a b : S) → A *ˢ (h *ˢ a) +ˢ B *ˢ (h *ˢ b) ≡ (A *ˢ a +ˢ B *ˢ b) *ˢ h
  factor-out A B h a b = simp RING

  eliminate : (A B A' B' a b : S) → A *ˢ a +ˢ B *ˢ b ≡ 1ˢ → A' *ˢ a +ˢ B' *ˢ b ≡ 1ˢ → B' +ˢ -ˢ B ≡ (B' *ˢ A +ˢ -ˢ (B *ˢ A')) *ˢ a
  eliminate A B A' B' a b h h' =
      sym (ap₂ (λ u v. u +ˢ -ˢ v) (R.mul-one X.ring B') (R.mul-one X.ring B))
      ∙ ap₂ (λ u v. B' *ˢ u +ˢ -ˢ (B *ˢ v)) (sym h) (sym h') ∙ expand A B A' B' a b
    where
      expand : (A B A' B' a b : S) → B' *ˢ (A *ˢ a +ˢ B *ˢ b) +ˢ -ˢ (B *ˢ (A' *ˢ a +ˢ B' *ˢ b)) ≡ (B' *ˢ A +ˢ -ˢ (B *ˢ A')) *ˢ a
      expand A B A' B' a b = simp RING

  pub cancel : {d : ℕ} {a b h : S} → Polynomial X a → Polynomial X b → Degree X d h → a *ˢ h ≡ b *ˢ h → a ≡ b
  cancel {d} {a} {b} {h} pa pb xh e =
      R.eq_of_sub X.ring a b
      (zero-of-product (polynomial-add X pa (polynomial-neg X pb)) xh (dist a b h ∙ R.sub_of_eq X.ring (a *ˢ h) (b *ˢ h) e))
    where
      dist : (a b h : S) → (a +ˢ -ˢ b) *ˢ h ≡ a *ˢ h +ˢ -ˢ (b *ˢ h)
      dist a b h = simp RING

  -- A·y + B·x = h, with B below (degree of y) - (degree of h), has one solution
  pub cofactors-unique : {e w : ℕ} {x y h A B A' B' : S} → Degree X e y → Degree X w h → Divides X h x → Divides X h y
      → Polynomial X A → Polynomial X A' → Below X (e - w) B → Below X (e - w) B' → A *ˢ y +ˢ B *ˢ x ≡ h → A' *ˢ y +ˢ B' *ˢ x ≡ h
      → (A ≡ A') × (B ≡ B')
  cofactors-unique {e} {w} {x} {y} {h} {A} {B} {A'} {B'} xy xh dx dy pA pA' hB hB' q q' = (same_a, same_b)
    where
      y' : Degree X (e - w) dy.cofactor
      y' = (cofactor-degree xy xh dy).0

      one : (a b : S) → Polynomial X a → Below X (e - w) b → a *ˢ y +ˢ b *ˢ x ≡ h → a *ˢ dy.cofactor +ˢ b *ˢ dx.cofactor ≡ 1ˢ
      one a b pa pb k =
          cancel (polynomial-add X (polynomial-mul X pa dy.polynomial) (polynomial-mul X (polynomial X pb) dx.polynomial))
          (polynomial-1 X) xh
          (sym (factor-out a b h dy.cofactor dx.cofactor)
          ∙ sym (ap₂ (λ u v. a *ˢ u +ˢ b *ˢ v) dy.equation dx.equation) ∙ k ∙ sym (R.one-mul X.ring h))

      u : S
      u = B' *ˢ A +ˢ -ˢ (B *ˢ A')

      pu : Polynomial X u
      pu = polynomial-add X (polynomial-mul X (polynomial X hB') pA) (polynomial-neg X (polynomial-mul X (polynomial X hB) pA'))

      difference : B' +ˢ -ˢ B ≡ u *ˢ dy.cofactor
      difference = eliminate A B A' B' dy.cofactor dx.cofactor (one A B pA hB q) (one A' B' pA' hB' q')

      u0 : u ≡ 0ˢ
      u0 =
          mul-below X K pu.bound (e - w) pu.below y'.below y'.top
          (subst (λ z. Below X (e - w) z) difference (below-add X hB' (below-neg X hB)))

      same_b : B ≡ B'
      same_b = sym (R.eq_of_sub X.ring B' B (difference ∙ ap (λ z. z *ˢ dy.cofactor) u0 ∙ R.zero-mul X.ring dy.cofactor))

      same_a : A ≡ A'
      same_a =
          cancel pA pA' xy
          (R.add_right_cancel X.ring (A *ˢ y) (A' *ˢ y) (B *ˢ x) (q ∙ sym q' ∙ ap (λ z. A' *ˢ y +ˢ z *ˢ x) (sym same_b)))
