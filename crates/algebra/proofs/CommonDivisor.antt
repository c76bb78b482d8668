-- Common divisors of two polynomials f and g, from an identity a·f + b·g = (1-t)^N·h.
--     Bezout f g h         a·f + b·g = (1-t)^N·h for polynomials a and b
--     LeastPower c f g     c is the least number of factors 1-t of those of f and g that are not 0, and one of the two is not 0
-- Theorems:
--     greatest-common-divisor     every polynomial that divides f and g divides (1-t)^c·h
--     divides-hom                 a divisor in u is one in t, and with c factors 1-t where the homogenisation has as many
--     core-divides-bezout         what divides f and g and is not 0 at 1 divides h
-- Assumes nothing.
use mathlib.Core.Path.{◌≡◌, ◌∙◌, sym, ap, ap₂, subst}
use mathlib.Core.Logic.{◌⊎◌, inl, inr}
use Prim.Native.Nat.{ℕ, ◌+◌, ◌-◌, ◌≤◌}
use Rattle.algebra.specs.RingLaws as R
use Rattle.algebra.specs.Ring.{CommRing, IsField}
use Rattle.algebra.specs.RingLaws.{RING}
use Rattle.algebra.specs.Series.{SeriesRing}
use Rattle.algebra.proofs.Series.{coeff-0}
use Rattle.algebra.specs.Polynomial.{Polynomial, Divides}
use Rattle.algebra.proofs.Polynomial.{polynomial-add, polynomial-mul, divides-trans, divides-mul}
use Rattle.algebra.specs.OneMinusT.{⟨1-t⟩^}
use Rattle.algebra.proofs.OneMinusT.{polynomial-⟨1-t⟩^, divides-⟨1-t⟩^}
use Rattle.algebra.proofs.Factors.{Split, split-le, split-nonzero, split_off, divides-without-⟨1-t⟩}
use Rattle.algebra.specs.Homogenise.{hom}
use Rattle.algebra.proofs.Homogenise.{hom-mul, hom-strip, polynomial-hom}
use Rattle.algebra.specs.Degree.{Degree}
use Rattle.algebra.proofs.Degree.{degree-unique, degree-of, degree-mul}

module _ {Rg : CommRing} (X : SeriesRing Rg) where
  open X.ring use {Carrier as S, zero as 0ˢ, add as ◌+ˢ◌, mul as ◌*ˢ◌}

  infixl 65 ◌+ˢ◌
  infixl 70 ◌*ˢ◌
  pub record Bezout (f g h : S) : Type 0 where
    pub a : S
    pub b : S
    pub N : ℕ
    pub a-polynomial : Polynomial X a
    pub b-polynomial : Polynomial X b
    pub equation : a *ˢ f +ˢ b *ˢ g ≡ ⟨1-t⟩^ X N *ˢ h

  -- a polynomial has a Split where it is not 0, with k its number of factors 1-t
  pub record LeastPower (c : ℕ) (f g : S) : Type 0 where
    pub of-f : (q : Split X f) → c ≤ q.k
    pub of-g : (q : Split X g) → c ≤ q.k
    pub attained : ((q : Split X f) × (q.k ≡ c)) ⊎ ((q : Split X g) × (q.k ≡ c))

  -- the core of a divisor divides
  pub core-divides : {K L : S} (q : Split X K) → Divides X K L → Divides X q.core L
  core-divides q d =
      divides-trans X
      (record {
        cofactor = ⟨1-t⟩^ X q.k;
        polynomial = polynomial-⟨1-t⟩^ X q.k;
        equation = q.equation ∙ R.mul_comm X.ring _ _;
      })
      d

  -- from the core and the number of factors 1-t back to the divisor
  pub assemble : {K h : S} (c : ℕ) (q : Split X K) → q.k ≤ c → Divides X q.core h → Divides X K (⟨1-t⟩^ X c *ˢ h)
  assemble {K} {h} c q l d =
      subst (λ x. Divides X x (⟨1-t⟩^ X c *ˢ h)) (sym q.equation) (divides-mul X (divides-⟨1-t⟩^ X q.k c l) d)

  -- a divisor of a polynomial that is not 0 is not 0
  pub divisor-nonzero : {K L : S} → Split X L → Divides X K L → K ≡ 0ˢ → ⊥
  divisor-nonzero r d e =
      split-nonzero X r (d.equation ∙ ap (λ x. x *ˢ d.cofactor) e ∙ R.zero-mul X.ring d.cofactor)

module _ {Rg : CommRing} (X : SeriesRing Rg) (F : IsField Rg) where
  open X.ring use {Carrier as S, zero as 0ˢ, add as ◌+ˢ◌, mul as ◌*ˢ◌}

  infixl 65 ◌+ˢ◌
  infixl 70 ◌*ˢ◌
  -- a divisor in u is one in t
  divides-hom-degree : {m d : ℕ} {s h : S} → Degree X m s → Degree X d h → Divides X h s → Divides X (hom X d h) (hom X m s)
  divides-hom-degree {m} {d} {s} {h} xs xh q = go (degree-of X F q.polynomial.bound q.polynomial.below)
    where
      go : (q.cofactor ≡ 0ˢ) ⊎ ((e : ℕ) × Degree X e q.cofactor) → Divides X (hom X d h) (hom X m s)
      go (inl z) = absurd (xs.top (ap (λ x. X.coeff x m) (q.equation ∙ ap (λ x. h *ˢ x) z ∙ R.mul-zero X.ring h) ∙ coeff-0 X m))
      go (inr r) =
          record {
            cofactor = hom X r.0 q.cofactor;
            polynomial = polynomial-hom X r.0 q.cofactor;
            equation = ap₂ (λ k x. hom X k x) sum q.equation ∙ hom-mul X d r.0 xh.below r.1.below;
          }
        where
          sum : m ≡ d + r.0
          sum = degree-unique X xs (subst (λ x. Degree X (d + r.0) x) (sym q.equation) (degree-mul X F xh r.1))

  -- and with c factors 1-t, where the homogenisation at degree n has as many
  pub divides-hom : (c n m d : ℕ) {s h : S} → c ≤ n - m → Degree X m s → m ≤ n → Degree X d h → Divides X h s
      → Divides X (⟨1-t⟩^ X c *ˢ hom X d h) (hom X n s)
  divides-hom c n m d {s} {h} lc xs l xh q =
      subst (λ x. Divides X (⟨1-t⟩^ X c *ˢ hom X d h) x) (sym (hom-strip X n m xs.below l))
      (divides-mul X (divides-⟨1-t⟩^ X c (n - m) lc) (divides-hom-degree xs xh q))

  common : (a b k x y : S) → a *ˢ (k *ˢ x) +ˢ b *ˢ (k *ˢ y) ≡ k *ˢ (a *ˢ x +ˢ b *ˢ y)
  common a b k x y = simp RING

  -- the core of a divisor of f and g divides h
  pub core-divides-bezout : {f g h K : S} (q : Split X K) → Polynomial X h → Bezout X f g h → Divides X q.core f
      → Divides X q.core g → Divides X q.core h
  core-divides-bezout {f} {g} {h} q ph l df dg =
      divides-without-⟨1-t⟩ X F l.N q.core h (l.a *ˢ df.cofactor +ˢ l.b *ˢ dg.cofactor) q.at q.nonzero ph
      (polynomial-add X (polynomial-mul X l.a-polynomial df.polynomial) (polynomial-mul X l.b-polynomial dg.polynomial))
      (sym l.equation ∙ ap₂ (λ x y. l.a *ˢ x +ˢ l.b *ˢ y) df.equation dg.equation
      ∙ common l.a l.b q.core df.cofactor dg.cofactor)

  -- every polynomial that divides f and g divides (1-t)^c · h; f or g may be 0
  pub greatest-common-divisor : {f g h : S} {c : ℕ} → LeastPower X c f g → Polynomial X h → Bezout X f g h → (K : S)
      → Polynomial X K → Divides X K f → Divides X K g → Divides X K (⟨1-t⟩^ X c *ˢ h)
  greatest-common-divisor {f} {g} {h} {c} least ph l K pK df dg = go least.attained
    where
      from : {L : S} (r : Split X L) → r.k ≡ c → Divides X K L → (K ≡ 0ˢ) ⊎ Split X K → Divides X K (⟨1-t⟩^ X c *ˢ h)
      from r e d (inl z) = absurd (divisor-nonzero X r d z)
      from r e d (inr q) =
          assemble X c q (subst (λ n. q.k ≤ n) e (split-le X q r d))
          (core-divides-bezout q ph l (core-divides X q df) (core-divides X q dg))

      go : ((q : Split X f) × (q.k ≡ c)) ⊎ ((q : Split X g) × (q.k ≡ c)) → Divides X K (⟨1-t⟩^ X c *ˢ h)
      go (inl r) = from r.0 r.1 df (split_off X F pK)
      go (inr r) = from r.0 r.1 dg (split_off X F pK)
