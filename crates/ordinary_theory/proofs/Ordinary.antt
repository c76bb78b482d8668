-- Division in the usual sense: the quotient and the remainder are as they should be, and no other two lists are.
-- Theorems, of lists g and f of coefficients, g with words and f not zero:
--     some_size                               f has a coefficient in t that is not 0
--     below_quotient, below-remainder         the quotient and the remainder in t have no more coefficients than g has words
--     meaning-quotient, meaning-remainder     the two lists mean them
--     length-quotient, length-remainder       and are as long as g
--     ordinary-so                             g = q·f + r, r is 0 or of smaller degree in t than f, and no other two lists of these lengths are so
--     ordinary-unique                         no other two polynomials, of any degree, are so
--     constant-divides                        where f has degree 0 in t, r is 0
--     quotient-none, remainder-none           where g has a smaller degree in t than f, a zero g too, q is zero and r is g word for word
-- Assumes nothing.
use mathlib.Core.Path.{◌≡◌, refl, sym, ◌∙◌, ap, ap₂, subst}
use mathlib.Core.Logic.{◌⊎◌, inl, inr}
use mathlib.Core.List.{List}
use Prim.Native.Nat.{ℕ, zero, suc, ◌+◌, ◌-◌, ◌≤◌, ◌<◌}
use native.Mathlib.Nat as N
use native.Mathlib.Decide.{dec_le}
use native.Mathlib.Omega.{arith}
use lib.ListN.{length}
use Rattle.algebra.specs.RingLaws as R
use Rattle.algebra.proofs.Series.{coeff-0}
use Rattle.algebra.specs.Polynomial.{Below, Polynomial}
use Rattle.algebra.proofs.Polynomial.{below-mono, below-0, polynomial}
use Rattle.algebra.proofs.Homogenise.{hom-inj}
use Rattle.algebra.specs.Degree.{Degree, size}
use Rattle.algebra.proofs.Degree.{size-le}
use Rattle.algebra.specs.Division.{quotient, remainder}
use Rattle.algebra.proofs.Division.{quotient-zero, remainder-zero, division, remainder-below, quotient-below, division-unique}
use Rattle.algebra.specs.Euclid.{quotient_by, remainder_by}
use Rattle.algebra.specs.PrimeField.{PrimeField, scalars, scalar_field, positive, residue, value, inverse}
use Rattle.algebra.proofs.PrimeField.{value-residue, residue-0}
use Rattle.lists.specs.Tabulate.{tabulate}
use Rattle.lists.proofs.Tabulate.{tabulate-ext}
use Rattle.lists.specs.Degrees.{naive_degree}
use Rattle.lists.specs.Lists.{Coefficients, meaning, unscaled, binomial}
use Rattle.lists.proofs.Scaled.{length-naive, polynomial-meaning}
use Rattle.lists.proofs.Unscaled.{meaning-injective}
use Rattle.ordinary_theory.specs.Form.{form}
use Rattle.ordinary_theory.proofs.Form.{below-form, hom-form}
use Rattle.ordinary_theory.specs.InT.{size_in_t, degree_in_t, list_of}
use Rattle.ordinary_theory.proofs.InT.{below-meaning, size_in_t-le, size_in_t-below, size_in_t-least, size_in_t-suc, degree_in_t-is, zero-of-size_in_t, significant-none, length-list_of, coefficients-list_of, meaning-list_of, list_of-meaning}
use Rattle.ordinary_theory.specs.Ordinary.{ordinary_quotient, ordinary_remainder, Identity, ZeroOrSmaller, OrdinarySo, Dividable}

module _ (F : PrimeField) where
  open F.series.ring use {Carrier as S, zero as 0ˢ, add as ◌+ˢ◌, mul as ◌*ˢ◌}

  infixl 65 ◌+ˢ◌
  infixl 70 ◌*ˢ◌
  -- a remainder as a bound on its coefficients
  smaller-below : (r f : List ℕ) → ZeroOrSmaller F r f → Below F.series (degree_in_t F f) (meaning F r)
  unfolding ZeroOrSmaller
  smaller-below r f (inl e) = rw e (below-0 F.series (degree_in_t F f))
  smaller-below r f (inr l) = below-mono F.series few (size_in_t-below F r)
    where
      few : size_in_t F r ≤ degree_in_t F f
      few = let h : size_in_t F r - 1 < degree_in_t F f = unfold degree_in_t in l in omega arith

  below-smaller : (r f : List ℕ) → Below F.series (degree_in_t F f) (meaning F r) → ZeroOrSmaller F r f
  unfolding ZeroOrSmaller
  below-smaller r f h = go (size_in_t F r) refl
    where
      go : (n : ℕ) → size_in_t F r ≡ n → (meaning F r ≡ 0ˢ) ⊎ (degree_in_t F r < degree_in_t F f)
      go zero e = inl (zero-of-size_in_t F r e)
      go (suc n) e = inr (let l = size_in_t-least F (degree_in_t F f) r h in let s = size_in_t-suc F r (omega (arith, e)) in omega (arith, s, l))

  -- the list of the polynomial 0
  zeros : (e : ℕ) → list_of F e 0ˢ ≡ tabulate (suc e) (λ k. 0)
  unfolding list_of unscaled
  zeros e = tabulate-ext (suc e) _ _ (λ k l. ap (value F) (product k) ∙ value-residue F 0 (positive F))
    where
      none : (k : ℕ) → F.series.coeff (form F.series e 0ˢ) k ≡ (scalars F).zero
      none k =
          ap (λ s. F.series.coeff s k)
          (hom-inj F.series e (below-form F.series e 0ˢ) (hom-form F.series e (below-0 F.series (suc e))))
          ∙ coeff-0 F.series k

      product : (k : ℕ)
          → (scalars F).mul (F.series.coeff (form F.series e 0ˢ) k) (inverse F (binomial F (suc e - 1) k)) ≡ residue F 0
      product k =
          ap (λ x. (scalars F).mul x (inverse F (binomial F (suc e - 1) k))) (none k) ∙ R.zero-mul (scalars F) _ ∙ sym (residue-0 F)

  module _ (g f : List ℕ) (h : Dividable F g f) where
    pub some_size : 0 < size_in_t F f
    some_size = N.pos_of_ne-zero (λ e. h.nonzero (significant-none F f h.divisor e))

    degree-f : Degree F.series (degree_in_t F f) (meaning F f)
    degree-f = degree_in_t-is F f some_size

    length-g : length g ≡ suc (naive_degree g)
    length-g = length-naive g h.some

    short : naive_degree g < F.p
    short = let s = h.dividend.short in omega (arith, length-g)

    -- the number of the quotient's coefficients
    abbrev steps : ℕ
    steps = size F.series (scalar_field F) (length g) (meaning F g) - degree_in_t F f

    abbrev Q : S
    Q = quotient_by F.series (scalar_field F) (length g) (degree_in_t F f) (meaning F g) (meaning F f)

    abbrev R' : S
    R' = remainder_by F.series (scalar_field F) (length g) (degree_in_t F f) (meaning F g) (meaning F f)

    enough : size_in_t F g ≤ degree_in_t F f + steps
    unfolding size_in_t
    enough = omega arith

    below-R : Below F.series (degree_in_t F f) R'
    below-R =
        remainder-below F.series (scalar_field F) steps (degree_in_t F f) degree-f
        (below-mono F.series enough (size_in_t-below F g))

    below-Q : Below F.series steps Q
    below-Q = quotient-below F.series (scalar_field F) steps (degree_in_t F f) (meaning F g) (meaning F f)

    -- the quotient and the remainder have no more coefficients than g has words
    pub below_quotient : Below F.series (length g)
        (quotient_by F.series (scalar_field F) (length g) (degree_in_t F f) (meaning F g) (meaning F f))
    below_quotient = below-mono F.series few below-Q
      where
        few : steps ≤ length g
        few = let s = size-le F.series (scalar_field F) (length g) (meaning F g) in omega arith

    pub below-remainder : Below F.series (length g)
        (remainder_by F.series (scalar_field F) (length g) (degree_in_t F f) (meaning F g) (meaning F f))
    below-remainder = go (dec_le (size_in_t F g) (degree_in_t F f))
      where
        go : Dec (size_in_t F g ≤ degree_in_t F f) → Below F.series (length g) R'
        go (yes l) = rw same (below-meaning F g)
          where
            none : steps ≡ 0
            none = let l : size F.series (scalar_field F) (length g) (meaning F g) ≤ degree_in_t F f = unfold size_in_t in l in omega arith

            same : R' ≡ meaning F g
            same =
                ap (λ k. remainder F.series (scalar_field F) k (degree_in_t F f) (meaning F g) (meaning F f)) none
                ∙ remainder-zero F.series (scalar_field F) (degree_in_t F f) (meaning F g) (meaning F f)
        go (no l) = below-mono F.series (let s = size_in_t-le F g in omega arith) below-R

    pub meaning-quotient : meaning F (ordinary_quotient F g f)
        ≡ quotient_by F.series (scalar_field F) (length g) (degree_in_t F f) (meaning F g) (meaning F f)
    unfolding ordinary_quotient
    meaning-quotient = meaning-list_of F (naive_degree g) short (subst (λ n. Below F.series n Q) length-g below_quotient)

    pub meaning-remainder : meaning F (ordinary_remainder F g f)
        ≡ remainder_by F.series (scalar_field F) (length g) (degree_in_t F f) (meaning F g) (meaning F f)
    unfolding ordinary_remainder
    meaning-remainder = meaning-list_of F (naive_degree g) short (subst (λ n. Below F.series n R') length-g below-remainder)

    pub length-quotient : length (ordinary_quotient F g f) ≡ length g
    unfolding ordinary_quotient
    length-quotient = length-list_of F (naive_degree g) _ ∙ sym length-g

    pub length-remainder : length (ordinary_remainder F g f) ≡ length g
    unfolding ordinary_remainder
    length-remainder = length-list_of F (naive_degree g) _ ∙ sym length-g

    coefficients-quotient : Coefficients F (ordinary_quotient F g f)
    unfolding ordinary_quotient
    coefficients-quotient = coefficients-list_of F (naive_degree g) _ short

    coefficients-remainder : Coefficients F (ordinary_remainder F g f)
    unfolding ordinary_remainder
    coefficients-remainder = coefficients-list_of F (naive_degree g) _ short

    -- no other two polynomials with that identity have a remainder below f
    pub ordinary-unique : (Q₁ R₁ : S) → Polynomial F.series Q₁ → Below F.series (degree_in_t F f) R₁
        → meaning F g ≡ Q₁ *ˢ meaning F f +ˢ R₁
        → (Q₁ ≡ meaning F (ordinary_quotient F g f)) × (R₁ ≡ meaning F (ordinary_remainder F g f))
    ordinary-unique Q₁ R₁ pq hr e = (both.0 ∙ sym meaning-quotient, both.1 ∙ sym meaning-remainder)
      where
        both : (Q₁ ≡ Q) × (R₁ ≡ R')
        both =
            division-unique F.series (scalar_field F) (degree_in_t F f) degree-f pq (polynomial F.series below-Q) hr
            below-R (sym e ∙ division F.series (scalar_field F) steps (degree_in_t F f) (meaning F g) (meaning F f))

    pub ordinary-so : OrdinarySo F g f (ordinary_quotient F g f) (ordinary_remainder F g f)
    unfolding Identity
    ordinary-so =
        record {
          quotient-words = length-quotient;
          remainder-words = length-remainder;
          holds =
              division F.series (scalar_field F) steps (degree_in_t F f) (meaning F g) (meaning F f)
              ∙ sym (ap₂ (λ x y. x *ˢ meaning F f +ˢ y) meaning-quotient meaning-remainder);
          smaller = below-smaller (ordinary_remainder F g f) f (rw meaning-remainder below-R);
          only =
              λ q r cq cr lq lr e z.
              let both = ordinary-unique (meaning F q) (meaning F r) (polynomial-meaning F q) (smaller-below r f z) e in (
                meaning-injective F q (ordinary_quotient F g f) cq coefficients-quotient lq both.0,
                meaning-injective F r (ordinary_remainder F g f) cr coefficients-remainder lr both.1,
              );
        }

    -- a constant, raised or not, leaves no remainder
    pub constant-divides : degree_in_t F f ≡ 0 → meaning F (ordinary_remainder F g f) ≡ 0ˢ
    unfolding ZeroOrSmaller
    constant-divides e = elim ordinary-so.smaller [ inl z ↦ z | inr l ↦ absurd (omega (arith, e, l)) ]

    -- g of a smaller degree in t than f
    module _ (l : size_in_t F g < size_in_t F f) where
      none : steps ≡ 0
      none =
          let l : size F.series (scalar_field F) (length g) (meaning F g) < size_in_t F f = unfold size_in_t in l in
          omega (arith, size_in_t-suc F f some_size)

      pub remainder-none : ordinary_remainder F g f ≡ g
      unfolding ordinary_remainder
      remainder-none =
          ap (λ k. list_of F (naive_degree g) (remainder F.series (scalar_field F) k (degree_in_t F f) (meaning F g) (meaning F f))) none
          ∙ ap (list_of F (naive_degree g)) (remainder-zero F.series (scalar_field F) (degree_in_t F f) (meaning F g) (meaning F f))
          ∙ list_of-meaning F (naive_degree g) g h.dividend length-g

      pub quotient-none : ordinary_quotient F g f ≡ tabulate (length g) (λ k. 0)
      unfolding ordinary_quotient
      quotient-none =
          ap (λ k. list_of F (naive_degree g) (quotient F.series (scalar_field F) k (degree_in_t F f) (meaning F g) (meaning F f))) none
          ∙ ap (list_of F (naive_degree g)) (quotient-zero F.series (scalar_field F) (degree_in_t F f) (meaning F g) (meaning F f))
          ∙ zeros (naive_degree g) ∙ ap (λ n. tabulate n (λ k. 0)) (sym length-g)
