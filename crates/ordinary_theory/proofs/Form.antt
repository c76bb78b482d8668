-- From a polynomial in t to one in u and back: homogenisation and the form undo each other. And the degree of the powers of 1-t.
-- Theorems:
--     below-⟨1-t⟩^              (1-t)^n has degree at most n
--     below-hom, below-form     a homogenisation at n, and a form at e, have degree at most n and e
--     form-zero, form-snoc      the form at 0, and the form at e + 1 by that at e and the last term
--     hom-form, form-hom        homogenisation undoes the form, and the form undoes homogenisation, on polynomials of degree at most e
--     degree-⟨1-t⟩^             (1-t)^c has degree c
-- Assumes nothing.
use mathlib.Core.Path.{◌≡◌, ◌∙◌, sym, ap, ap₂, subst}
use Prim.Native.Nat.{ℕ, zero, suc, ◌-◌, ◌<◌}
use native.Mathlib.Nat as N
use native.Mathlib.Numerals.{add-one}
use native.Mathlib.Omega.{arith}
use Rattle.algebra.specs.RingLaws as R
use Rattle.algebra.specs.Ring.{CommRing, IsField, pow}
use Rattle.algebra.specs.RingLaws.{RING}
use Rattle.algebra.proofs.Ring.{pow-zero, pow-suc}
use Rattle.algebra.specs.Series.{SeriesRing, C, t, tail}
use Rattle.algebra.proofs.Series.{split, coeff-add, coeff-neg, coeff-1_zero, coeff-1_suc, coeff-t-one, coeff-C-zero, coeff-tail}
use Rattle.algebra.specs.Polynomial.{Below}
use Rattle.algebra.proofs.Polynomial.{below-mono, below-add, below-neg, below-C, below-C-mul, below-1, below-t, below-t-mul, below-tail, below-mul, C-of-below}
use Rattle.algebra.specs.OneMinusT.{⟨1-t⟩, ⟨1-t⟩^}
use Rattle.algebra.proofs.OneMinusT.{⟨1-t⟩^-zero, ⟨1-t⟩^-suc}
use Rattle.algebra.specs.Homogenise.{hom}
use Rattle.algebra.proofs.Homogenise.{hom-zero, hom-suc, hom-add, hom-t-mul, hom-eq}
use Rattle.algebra.specs.Substitute.{⟨1+u⟩}
use Rattle.algebra.proofs.Substitute.{below-⟨1+u⟩, below-pow, elevate}
use Rattle.algebra.proofs.Sum.{sum-zero, sum-suc, sum-ext, sum-mul}
use Rattle.algebra.specs.Degree.{Degree}
use Rattle.algebra.proofs.Degree.{degree-mul}
use Rattle.ordinary_theory.specs.Form.{form_term, form}

module _ {Rg : CommRing} (X : SeriesRing Rg) where
  open Rg use {Carrier}
  open X.ring use {Carrier as S, add as ◌+ˢ◌, mul as ◌*ˢ◌}

  infixl 65 ◌+ˢ◌
  infixl 70 ◌*ˢ◌
  below-⟨1-t⟩ : Below X 2 (⟨1-t⟩ X)
  unfolding ⟨1-t⟩
  below-⟨1-t⟩ = below-add X (below-mono X (omega arith) (below-1 X)) (below-neg X (below-t X))

  pub below-⟨1-t⟩^ : (n : ℕ) → Below X (suc n) (⟨1-t⟩^ X n)
  unfolding ⟨1-t⟩^
  below-⟨1-t⟩^ n = below-pow X n below-⟨1-t⟩

  -- a homogenisation at n has degree at most n
  pub below-hom : (n : ℕ) (s : S) → Below X (suc n) (hom X n s)
  below-hom zero s = rw (hom-zero X s) (below-C X (X.coeff s 0))
  below-hom (suc n) s =
      rw (hom-suc X n s)
      (below-add X
      (subst (λ y. Below X (suc (suc n)) y) (R.mul_comm X.ring (C X (X.coeff s 0)) (⟨1-t⟩^ X (suc n)))
      (below-C-mul X (X.coeff s 0) (below-⟨1-t⟩^ (suc n))))
      (below-t-mul X (below-hom n (tail X s))))

  last-term : (e : ℕ) (s : S) → form_term X e s e ≡ pow X.ring (t X) e *ˢ C X (X.coeff s e)
  unfolding form_term
  last-term e s =
      ap (λ k. C X (X.coeff s e) *ˢ pow X.ring (t X) e *ˢ pow X.ring (⟨1+u⟩ X) k) (N.sub_self e)
      ∙ rw (pow-zero X.ring (⟨1+u⟩ X)) (simp RING)

  next-term : (e : ℕ) (s : S) (j : ℕ) → j < suc e → ⟨1+u⟩ X *ˢ form_term X e s j ≡ form_term X (suc e) s j
  unfolding form_term
  next-term e s j l =
      shift (⟨1+u⟩ X) (C X (X.coeff s j)) (pow X.ring (t X) j) (pow X.ring (⟨1+u⟩ X) (e - j))
      ∙ ap (λ x. C X (X.coeff s j) *ˢ pow X.ring (t X) j *ˢ x)
      (sym (ap (pow X.ring (⟨1+u⟩ X)) q ∙ pow-suc X.ring (⟨1+u⟩ X) (e - j)))
    where
      q : suc e - j ≡ suc (e - j)
      q = omega arith

      shift : (a b c d : S) → a *ˢ (b *ˢ c *ˢ d) ≡ b *ˢ c *ˢ (a *ˢ d)
      shift a b c d = simp RING

  pub form-zero : (s : S) → form X 0 s ≡ C X (X.coeff s 0)
  unfolding form
  form-zero s =
      sum-suc X 0 (form_term X 0 s) ∙ ap₂ (λ x y. x +ˢ y) (sum-zero X (form_term X 0 s)) (last-term 0 s)
      ∙ rw (pow-zero X.ring (t X)) (simp RING)

  -- by the last coefficient and the rest
  pub form-snoc : (e : ℕ) (s : S) → form X (suc e) s ≡ ⟨1+u⟩ X *ˢ form X e s +ˢ pow X.ring (t X) (suc e) *ˢ C X (X.coeff s (suc e))
  unfolding form
  form-snoc e s =
      sum-suc X (suc e) (form_term X (suc e) s)
      ∙ ap₂ (λ x y. x +ˢ y)
      (sym (sum-mul X (⟨1+u⟩ X) (suc e) (form_term X e s) ∙ sum-ext X (suc e) _ _ (next-term e s)))
      (last-term (suc e) s)

  below_top : (n : ℕ) (c : Carrier) → Below X (suc n) (pow X.ring (t X) n *ˢ C X c)
  below_top n c =
      subst (λ y. Below X (suc n) y) (R.mul_comm X.ring (C X c) (pow X.ring (t X) n))
      (below-C-mul X c (below-pow X n (below-t X)))

  pub below-form : (e : ℕ) (s : S) → Below X (suc e) (form X e s)
  below-form zero s = rw (form-zero s) (below-C X (X.coeff s 0))
  below-form (suc e) s =
      rw (form-snoc e s)
      (below-add X
      (subst (λ k. Below X k (⟨1+u⟩ X *ˢ form X e s)) (N.add_comm 1 (suc e) ∙ add-one (suc e))
      (below-mul X 1 (suc e) (below-⟨1+u⟩ X) (below-form e s)))
      (below_top (suc e) (X.coeff s (suc e))))

  -- by the first coefficient and the rest
  form-first : (e : ℕ) (s : S) → form X (suc e) s ≡ pow X.ring (⟨1+u⟩ X) (suc e) *ˢ C X (X.coeff s 0) +ˢ t X *ˢ form X e (tail X s)
  form-first zero s =
      form-snoc 0 s
      ∙ simp (form-zero, coeff-tail)
      (rw (pow-suc X.ring (⟨1+u⟩ X) 0, pow-suc X.ring (t X) 0) (simp (pow-zero, RING)))
  form-first (suc e) s = form-snoc (suc e) s ∙ simp (form-first e s, form-snoc e (tail X s), coeff-tail, pow-suc) (simp RING)

  -- homogenisation undoes it
  pub hom-form : (e : ℕ) {s : S} → Below X (suc e) s → hom X e (form X e s) ≡ s
  hom-form zero {s} h =
      hom-zero X (form X 0 s) ∙ ap (λ x. C X (X.coeff x 0)) (form-zero s) ∙ ap (C X) (coeff-C-zero X _) ∙ sym (C-of-below X h)
  hom-form (suc e) {s} h =
      ap (hom X (suc e)) (form-first e s) ∙ hom-add X (suc e) _ _ ∙ ap₂ (λ x y. x +ˢ y) first (rest (hom-form e (below-tail X h)))
      ∙ sym (split X s)
    where
      first : hom X (suc e) (pow X.ring (⟨1+u⟩ X) (suc e) *ˢ C X (X.coeff s 0)) ≡ C X (X.coeff s 0)
      first =
          ap (λ n. hom X n (pow X.ring (⟨1+u⟩ X) (suc e) *ˢ C X (X.coeff s 0))) (sym (N.add-zero (suc e)))
          ∙ elevate X 0 (suc e) (below-C X (X.coeff s 0)) ∙ hom-zero X _ ∙ ap (C X) (coeff-C-zero X _)

      rest : hom X e (form X e (tail X s)) ≡ tail X s → hom X (suc e) (t X *ˢ form X e (tail X s)) ≡ t X *ˢ tail X s
      rest ih = hom-t-mul X e (form X e (tail X s)) ∙ ap (λ x. t X *ˢ x) ih

  -- and it undoes homogenisation
  pub form-hom : (e : ℕ) {s : S} → Below X (suc e) s → form X e (hom X e s) ≡ s
  form-hom e {s} h = hom-eq X e (below-form e (hom X e s)) h (hom-form e (below-hom e s))

module _ {Rg : CommRing} (X : SeriesRing Rg) (K : IsField Rg) where
  open Rg use {one as 𝟙, neg as ⊖◌}
  open X.ring use {mul as ◌*ˢ◌}

  infixl 70 ◌*ˢ◌
  infix 80 ⊖◌
  top-⟨1-t⟩ : X.coeff (⟨1-t⟩ X) 1 ≡ ⊖ 𝟙
  unfolding ⟨1-t⟩
  top-⟨1-t⟩ = simp (coeff-add, coeff-neg, coeff-1_suc X 0, coeff-t-one) (simp RING)

  degree-⟨1-t⟩ : Degree X 1 (⟨1-t⟩ X)
  degree-⟨1-t⟩ =
      record {
        below = below-⟨1-t⟩ X;
        top = λ z. K.one≢zero (sym (R.neg-neg Rg 𝟙) ∙ ap (λ x. ⊖ x) (sym top-⟨1-t⟩ ∙ z) ∙ R.neg-zero Rg);
      }

  -- (1-t)^c has degree c
  pub degree-⟨1-t⟩^ : (c : ℕ) → Degree X c (⟨1-t⟩^ X c)
  degree-⟨1-t⟩^ zero =
      rw (⟨1-t⟩^-zero X) (record { below = below-1 X; top = λ z. K.one≢zero (sym (coeff-1_zero X) ∙ z) })
  degree-⟨1-t⟩^ (suc c) =
      subst (λ s. Degree X (suc c) s) (sym (⟨1-t⟩^-suc X c))
      (subst (λ k. Degree X k (⟨1-t⟩ X *ˢ ⟨1-t⟩^ X c)) (N.add_comm 1 c ∙ add-one c) (degree-mul X K degree-⟨1-t⟩ (degree-⟨1-t⟩^ c)))
