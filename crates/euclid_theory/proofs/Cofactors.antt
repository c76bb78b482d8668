-- The cofactors a and b of two lists f and g, not both zero, are what document 01 asks, and no other lists are.
-- Theorems:
--     cofactor-identity     a·f + b·g = (1-t)^(m-w)·h as polynomials in t
--     cofactor_a-zero       if f is zero, a is zero
--     cofactor_b-bound      otherwise b has no more significant words than f's extent is above w; cofactor_b-zero, cofactor_b-small
--     cofactors-are         a and b are cofactors
--     cofactors-only        and the only ones
-- Assumes nothing.
use mathlib.Core.Path.{◌≡◌, refl, sym, ◌∙◌, ap, ap₂, subst}
use mathlib.Core.List.{List}
use Prim.Native.Nat.{ℕ, zero, suc, ◌+◌, ◌-◌, ◌≤◌, ◌<◌}
use native.Mathlib.Decide.{dec_lt}
use native.Mathlib.Omega.{arith}
use lib.ListN.{length}
use Rattle.algebra.specs.RingLaws.{RING}
use Rattle.algebra.specs.Polynomial.{Below}
use Rattle.algebra.proofs.Polynomial.{below-mono, below-0, below-add, below-mul, polynomial}
use Rattle.algebra.specs.OneMinusT.{⟨1-t⟩^}
use Rattle.algebra.specs.Homogenise.{hom}
use Rattle.algebra.proofs.Homogenise.{hom-add, hom-mul, hom-eq, hom-strip}
use Rattle.algebra.proofs.Monic.{cancel, cofactors-unique}
use Rattle.algebra.specs.PrimeField.{PrimeField, scalar_field}
use Rattle.lists.specs.Degrees.{naive_degree, significant, extent}
use Rattle.lists.specs.Lists.{Coefficients, meaning, scaled}
use Rattle.lists.proofs.Scaled.{naive-length, below-scaled, below-naive, meaning-hom}
use Rattle.lists.proofs.Unscaled.{scaled-injective}
use Rattle.lists.proofs.Extents.{significant-extent, significant-below, significant-least, significant-zero, significant-degree}
use Rattle.euclid_theory.specs.Gcd.{identity_degree, gcd_of, cofactor_a, cofactor_b}
use Rattle.euclid_theory.proofs.Gcd.{degree-gcd, gcd-left, gcd-right}
use Rattle.euclid_theory.specs.Cofactors.{AreCofactors}
use Rattle.euclid_theory.proofs.CofactorForms.{identity-left, identity-right, identity-within, length-cofactor_a, length-cofactor_b, coefficients-cofactor_a, coefficients-cofactor_b, form_a-zero, form_b-below, identity-in-u}

module _ (F : PrimeField) where
  open F.series.ring use {Carrier as S, zero as 0ˢ, add as ◌+ˢ◌, mul as ◌*ˢ◌}

  infixl 65 ◌+ˢ◌
  infixl 70 ◌*ˢ◌
  -- a product of lists of naive degrees m - d and d, in u
  product-in-u : (m : ℕ) (a c : List ℕ) → length a ≡ suc (m - naive_degree c) → naive_degree c ≤ m
      → meaning F a *ˢ meaning F c ≡ hom F.series m (scaled F a *ˢ scaled F c)
  product-in-u m a c l h =
      ap₂ (λ x y. x *ˢ y) (meaning-hom F a) (meaning-hom F c)
      ∙ sym (hom-mul F.series (naive_degree a) (naive_degree c) (below-naive F a) (below-naive F c))
      ∙ ap (λ k. hom F.series k (scaled F a *ˢ scaled F c)) e
    where
      e : naive_degree a + naive_degree c ≡ m
      e = let degree = naive-length a _ l in omega arith

  -- for any a and b of these lengths the left side of the identity is the one in u
  in-u : (f g a b : List ℕ) → length a ≡ suc (identity_degree f g - naive_degree f) → length b ≡ suc (identity_degree f g - naive_degree g)
      → meaning F a *ˢ meaning F f +ˢ meaning F b *ˢ meaning F g
      ≡ hom F.series (identity_degree f g) (scaled F a *ˢ scaled F f +ˢ scaled F b *ˢ scaled F g)
  in-u f g a b la lb =
      ap₂ (λ x y. x +ˢ y) (product-in-u _ a f la (identity-left f g)) (product-in-u _ b g lb (identity-right f g))
      ∙ sym (hom-add F.series (identity_degree f g) (scaled F a *ˢ scaled F f) (scaled F b *ˢ scaled F g))

  module _ (f g : List ℕ) (cf : Coefficients F f) (cg : Coefficients F g) (some : 0 < significant f + significant g) where
    right_side : hom F.series (identity_degree f g) (scaled F (gcd_of F f g))
        ≡ ⟨1-t⟩^ F.series (identity_degree f g - naive_degree (gcd_of F f g)) *ˢ meaning F (gcd_of F f g)
    right_side =
        hom-strip F.series (identity_degree f g) (naive_degree (gcd_of F f g)) (below-naive F (gcd_of F f g)) (identity-within F f g cf cg some)
        ∙ ap (λ x. ⟨1-t⟩^ F.series (identity_degree f g - naive_degree (gcd_of F f g)) *ˢ x) (sym (meaning-hom F (gcd_of F f g)))

    -- a·f + b·g = (1-t)^(m-w)·h
    pub cofactor-identity : meaning F (cofactor_a F f g) *ˢ meaning F f +ˢ meaning F (cofactor_b F f g) *ˢ meaning F g
        ≡ ⟨1-t⟩^ F.series (identity_degree f g - naive_degree (gcd_of F f g)) *ˢ meaning F (gcd_of F f g)
    cofactor-identity =
        in-u f g (cofactor_a F f g) (cofactor_b F f g) (length-cofactor_a F f g) (length-cofactor_b F f g)
        ∙ ap (hom F.series (identity_degree f g)) (identity-in-u F f g cf cg some) ∙ right_side

    -- if f is zero, a is zero
    pub cofactor_a-zero : significant f ≡ 0 → significant (cofactor_a F f g) ≡ 0
    cofactor_a-zero e =
        let none : Below F.series 0 (scaled F (cofactor_a F f g)) = rw (form_a-zero F f g cf cg some e) (below-0 F.series 0) in
        let most = significant-least F 0 (cofactor_a F f g) (coefficients-cofactor_a F f g cf cg) none in
        omega arith

    -- otherwise b has at most as many significant words as f's extent is above w
    pub cofactor_b-bound : 0 < significant f → significant (cofactor_b F f g) ≤ extent f - naive_degree (gcd_of F f g)
    cofactor_b-bound l =
        significant-least F _ (cofactor_b F f g) (coefficients-cofactor_b F f g cf cg)
        (subst (λ k. Below F.series k (scaled F (cofactor_b F f g))) words (form_b-below F f g cf cg some l))
      where
        words : significant f - suc (naive_degree (gcd_of F f g)) ≡ extent f - naive_degree (gcd_of F f g)
        words = unfold extent in omega arith

    -- so b is zero when f's extent is w
    pub cofactor_b-zero : 0 < significant f → extent f ≡ naive_degree (gcd_of F f g) → significant (cofactor_b F f g) ≡ 0
    cofactor_b-zero l e = let most = cofactor_b-bound l in omega arith

    -- and b's extent is less than f's extent minus w when b is not zero
    pub cofactor_b-small : 0 < significant f → 0 < significant (cofactor_b F f g)
        → extent (cofactor_b F f g) < extent f - naive_degree (gcd_of F f g)
    cofactor_b-small l k = let most = cofactor_b-bound l in let last = significant-extent (cofactor_b F f g) k in omega arith

    pub cofactors-are : AreCofactors F f g (cofactor_a F f g) (cofactor_b F f g)
    cofactors-are =
        record {
          coefficients_a = coefficients-cofactor_a F f g cf cg;
          coefficients_b = coefficients-cofactor_b F f g cf cg;
          length_a = length-cofactor_a F f g;
          length_b = length-cofactor_b F f g;
          identity = cofactor-identity;
          a_zero = cofactor_a-zero;
          b_zero = cofactor_b-zero;
          b_small = cofactor_b-small;
        }

    -- no other lists are
    pub cofactors-only : (a b : List ℕ) → AreCofactors F f g a b → (a ≡ cofactor_a F f g) × (b ≡ cofactor_b F f g)
    cofactors-only a b h = (
      scaled-injective F a (cofactor_a F f g) h.coefficients_a (coefficients-cofactor_a F f g cf cg) (h.length_a ∙ sym (length-cofactor_a F f g)) both.0,
      scaled-injective F b (cofactor_b F f g) h.coefficients_b (coefficients-cofactor_b F f g cf cg) (h.length_b ∙ sym (length-cofactor_b F f g)) both.1,
    )
      where
        below-a : Below F.series (suc (identity_degree f g - naive_degree f)) (scaled F a)
        below-a = subst (λ k. Below F.series k (scaled F a)) h.length_a (below-scaled F a)

        below-b : Below F.series (suc (identity_degree f g - naive_degree g)) (scaled F b)
        below-b = subst (λ k. Below F.series k (scaled F b)) h.length_b (below-scaled F b)

        same : scaled F a *ˢ scaled F f +ˢ scaled F b *ˢ scaled F g ≡ scaled F (gcd_of F f g)
        same =
            hom-eq F.series (identity_degree f g)
            (below-add F.series
            (below-mono F.series (omega (arith, identity-left f g))
            (below-mul F.series (identity_degree f g - naive_degree f) (suc (naive_degree f)) below-a (below-naive F f)))
            (below-mono F.series (omega (arith, identity-right f g))
            (below-mul F.series (identity_degree f g - naive_degree g) (suc (naive_degree g)) below-b (below-naive F g))))
            (below-mono F.series (omega (arith, identity-within F f g cf cg some)) (below-naive F (gcd_of F f g)))
            (sym (in-u f g a b h.length_a h.length_b) ∙ h.identity ∙ sym right_side)

        -- b's bound, in u
        bound : 0 < significant f → Dec (0 < significant b) → significant b ≤ extent f - naive_degree (gcd_of F f g)
        bound l (yes k) = let small = h.b_small l k in let last = significant-extent b k in omega arith
        bound l (no k) = omega arith

        lone : (u v : S) → 0ˢ *ˢ u +ˢ v ≡ v
        lone u v = simp RING

        alone : (x y : S) → x ≡ 0ˢ → y *ˢ scaled F g ≡ x *ˢ scaled F f +ˢ y *ˢ scaled F g
        alone x y e = sym (ap (λ x. x *ˢ scaled F f +ˢ y *ˢ scaled F g) e ∙ lone (scaled F f) (y *ˢ scaled F g))

        cases : (k : ℕ) → significant f ≡ k → (scaled F a ≡ scaled F (cofactor_a F f g)) × (scaled F b ≡ scaled F (cofactor_b F f g))
        cases zero q =
            let none : scaled F a ≡ 0ˢ = significant-zero F a h.coefficients_a (h.a_zero q) in
            let none' : scaled F (cofactor_a F f g) ≡ 0ˢ = significant-zero F (cofactor_a F f g) (coefficients-cofactor_a F f g cf cg) (cofactor_a-zero q) in (
              none ∙ sym none',
              cancel F.series (scalar_field F) (polynomial F.series below-b) (polynomial F.series (below-scaled F (cofactor_b F f g)))
                  (significant-degree F (significant g - 1) g cg (omega arith))
                  (alone (scaled F a) (scaled F b) none ∙ same ∙ sym (identity-in-u F f g cf cg some)
                  ∙ sym (alone (scaled F (cofactor_a F f g)) (scaled F (cofactor_b F f g)) none')),
            )
        cases (suc k) q =
            cofactors-unique F.series (scalar_field F) (significant-degree F (extent f) f cf (significant-extent f (omega arith)))
            (degree-gcd F f g cf cg some) (gcd-right F f g cf cg some) (gcd-left F f g cf cg some) (polynomial F.series below-a)
            (polynomial F.series (below-scaled F (cofactor_a F f g)))
            (below-mono F.series (bound (omega arith) (dec_lt 0 (significant b))) (significant-below F b h.coefficients_b))
            (below-mono F.series (cofactor_b-bound (omega arith)) (significant-below F (cofactor_b F f g) (coefficients-cofactor_b F f g cf cg)))
            same (identity-in-u F f g cf cg some)

        both : (scaled F a ≡ scaled F (cofactor_a F f g)) × (scaled F b ≡ scaled F (cofactor_b F f g))
        both = cases (significant f) refl
