-- (1-t)^c·h, with c the common power of two lists f and g that are not both zero, is the greatest common divisor of their polynomials.
-- Theorems:
--     meaning-zero                    a list without a significant word stands for 0
--     divides-list                    (1-t)^c·h divides f where the scaled form of h divides that of f and c is no larger than f's power
--     divides-left, divides-right     it divides the polynomials of f and g
--     bezout-gcd                      h times a power of 1-t is a sum of multiples of the two
--     least-power                     c is the least power of 1-t that divides both
--     gcd-is-greatest                 it divides both, and every polynomial that divides both divides it
-- Assumes nothing.
use mathlib.Core.Path.{◌≡◌, sym, ◌∙◌, ap, subst}
use mathlib.Core.Logic.{◌⊎◌, inl, inr}
use mathlib.Core.List.{List, [], ◌∷◌}
use Prim.Native.Nat.{ℕ, zero, suc, ◌+◌, ◌-◌, ◌≤◌, ◌<◌}
use native.Mathlib.Decide.{dec_lt}
use native.Mathlib.Omega.{arith}
use lib.ListN.{get_or}
use Rattle.algebra.specs.Polynomial.{Polynomial, Divides}
use Rattle.algebra.proofs.Polynomial.{divides-0}
use Rattle.algebra.specs.OneMinusT.{⟨1-t⟩^}
use Rattle.algebra.proofs.Factors.{Split, split-unique, split-nonzero}
use Rattle.algebra.specs.Homogenise.{hom}
use Rattle.algebra.proofs.Homogenise.{hom-0}
use Rattle.algebra.specs.Degree.{Degree}
use Rattle.algebra.proofs.CommonDivisor.{Bezout, LeastPower, divides-hom, greatest-common-divisor}
use Rattle.algebra.specs.PrimeField.{PrimeField, scalar_field}
use Rattle.lists.specs.Degrees.{naive_degree, significant, extent, power}
use Rattle.lists.specs.Lists.{Coefficients, meaning, scaled}
use Rattle.lists.proofs.Scaled.{meaning-hom, polynomial-meaning}
use Rattle.lists.proofs.Extents.{significant-le, significant-extent, significant-zero, significant-degree, power-exact}
use Rattle.euclid_theory.specs.Gcd.{identity_degree, gcd_of, common_power, cofactor_a, cofactor_b}
use Rattle.euclid_theory.proofs.Gcd.{degree-gcd, gcd-left, gcd-right}
use Rattle.euclid_theory.proofs.Powers.{Attained, significant-nil, common_power-le, common_power-attained}
use Rattle.euclid_theory.proofs.Cofactors.{cofactor-identity}
use Rattle.euclid_theory.specs.Greatest.{IsGreatest}

module _ (F : PrimeField) where
  open F.series.ring use {Carrier as S, zero as 0ˢ, mul as ◌*ˢ◌}

  infixl 70 ◌*ˢ◌
  -- a zero list means 0
  pub meaning-zero : (c : List ℕ) → Coefficients F c → significant c ≡ 0 → meaning F c ≡ 0ˢ
  meaning-zero c h e =
      meaning-hom F c ∙ ap (hom F.series (naive_degree c)) (significant-zero F c h e) ∙ hom-0 F.series (naive_degree c)

  -- a divisor in u, of extent its naive degree, is one in t, with c factors 1-t where the list has as many
  pub divides-list : (c : ℕ) (h f : List ℕ) → Degree F.series (naive_degree h) (scaled F h) → Divides F.series (scaled F h) (scaled F f)
      → Coefficients F f → (0 < significant f → c ≤ power f) → Divides F.series (⟨1-t⟩^ F.series c *ˢ meaning F h) (meaning F f)
  unfolding power
  divides-list c h f dh q cf l = go (dec_lt 0 (significant f))
    where
      go : Dec (0 < significant f) → Divides F.series (⟨1-t⟩^ F.series c *ˢ meaning F h) (meaning F f)
      go (no z) = rw (meaning-zero f cf (omega arith)) (divides-0 F.series _)
      go (yes j) =
          rw (meaning-hom F f, meaning-hom F h)
          (divides-hom F.series (scalar_field F) c (naive_degree f) (extent f) (naive_degree h) (l j)
          (significant-degree F (extent f) f cf (significant-extent f j)) few dh q)
        where
          few : extent f ≤ naive_degree f
          few = let k = significant-le f in unfold extent naive_degree in omega arith

  -- the number of factors 1-t of the meaning of a list is its power
  power-of : (c : List ℕ) → Coefficients F c → (q : Split F.series (meaning F c)) → (0 < significant c) × (q.k ≡ power c)
  power-of c h q = go (dec_lt 0 (significant c))
    where
      go : Dec (0 < significant c) → (0 < significant c) × (q.k ≡ power c)
      go (yes l) = (l, split-unique F.series q (power-exact F c h l).0 ∙ (power-exact F c h l).1)
      go (no l) = absurd (split-nonzero F.series q (meaning-zero c h (omega arith)))

  module _ (f g : List ℕ) (cf : Coefficients F f) (cg : Coefficients F g) (some : 0 < significant f + significant g) where
    -- c
    abbrev c : ℕ
    c = common_power (f ∷ g ∷ [])

    pub divides-left : Divides F.series (⟨1-t⟩^ F.series (common_power (f ∷ g ∷ [])) *ˢ meaning F (gcd_of F f g)) (meaning F f)
    divides-left =
        divides-list c (gcd_of F f g) f (degree-gcd F f g cf cg some) (gcd-left F f g cf cg some) cf (common_power-le (f ∷ g ∷ []) 0)

    pub divides-right : Divides F.series (⟨1-t⟩^ F.series (common_power (f ∷ g ∷ [])) *ˢ meaning F (gcd_of F f g)) (meaning F g)
    divides-right =
        divides-list c (gcd_of F f g) g (degree-gcd F f g cf cg some) (gcd-right F f g cf cg some) cg (common_power-le (f ∷ g ∷ []) 1)

    -- the identity of the cofactors, for polynomials
    pub bezout-gcd : Bezout F.series (meaning F f) (meaning F g) (meaning F (gcd_of F f g))
    bezout-gcd =
        record {
          a = meaning F (cofactor_a F f g);
          b = meaning F (cofactor_b F f g);
          N = identity_degree f g - naive_degree (gcd_of F f g);
          a-polynomial = polynomial-meaning F (cofactor_a F f g);
          b-polynomial = polynomial-meaning F (cofactor_b F f g);
          equation = cofactor-identity F f g cf cg some;
        }

    -- f or g has exactly c factors 1-t
    abbrev Exact : Type 0
    Exact = ((q : Split F.series (meaning F f)) × (q.k ≡ c)) ⊎ ((q : Split F.series (meaning F g)) × (q.k ≡ c))

    -- c is the least number of factors 1-t
    pub least-power : LeastPower F.series (common_power (f ∷ g ∷ [])) (meaning F f) (meaning F g)
    least-power =
        record {
          of-f = λ q. let e = power-of f cf q in subst (λ k. c ≤ k) (sym e.1) (common_power-le (f ∷ g ∷ []) 0 e.0);
          of-g = λ q. let e = power-of g cg q in subst (λ k. c ≤ k) (sym e.1) (common_power-le (f ∷ g ∷ []) 1 e.0);
          attained = first (dec_lt 0 (significant f));
        }
      where
        pick : (i : ℕ) → 0 < significant (get_or (f ∷ g ∷ []) i []) → c ≡ power (get_or (f ∷ g ∷ []) i []) → Exact
        pick zero l e = inl ((power-exact F f cf l).0, (power-exact F f cf l).1 ∙ sym e)
        pick (suc zero) l e = inr ((power-exact F g cg l).0, (power-exact F g cg l).1 ∙ sym e)
        pick (suc (suc i)) l e = absurd (let z = significant-nil in omega arith)

        at : Attained (f ∷ g ∷ []) → Exact
        at a = pick a.index a.some a.is

        first : Dec (0 < significant f) → Exact
        first (yes l) = at (common_power-attained (f ∷ g ∷ []) 0 l)
        first (no l) = at (common_power-attained (f ∷ g ∷ []) 1 (omega arith))

    pub greatest : (K : S) → Polynomial F.series K → Divides F.series K (meaning F f) → Divides F.series K (meaning F g)
        → Divides F.series K (⟨1-t⟩^ F.series (common_power (f ∷ g ∷ [])) *ˢ meaning F (gcd_of F f g))
    greatest =
        greatest-common-divisor F.series (scalar_field F) least-power (polynomial-meaning F (gcd_of F f g)) bezout-gcd

    pub gcd-is-greatest : IsGreatest F f g (⟨1-t⟩^ F.series (common_power (f ∷ g ∷ [])) *ˢ meaning F (gcd_of F f g))
    gcd-is-greatest = record { left = divides-left; right = divides-right; all = greatest }
