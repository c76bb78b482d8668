-- Division of lists: the quotient q and the remainder r meet g = q·f + (1-t)^(e-d+1)·r, and no other lists of their lengths do.
-- Theorems:
--     meaning-at-1                                   f(1) is the last word of f
--     length-quotient, length-remainder              the numbers of words of q and r
--     coefficients-quotient, coefficients-remainder  their words are coefficients
--     scaled-quotient, scaled-remainder              their scaled forms are the quotient and the remainder of the scaled forms
--     division-identity                              the equation holds
--     division-only                                  with any other coefficients, in the same two lengths, it fails
-- Assumes nothing.
use mathlib.Core.Path.{◌≡◌, sym, ◌∙◌, ap, ap₂, subst}
use mathlib.Core.List.{List}
use Prim.Native.Nat.{ℕ, suc, ◌+◌, ◌-◌, ◌≤◌}
use native.Mathlib.Nat as N
use native.Mathlib.Omega.{arith}
use lib.ListN.{get_or, length}
use Rattle.algebra.specs.Polynomial.{Below}
use Rattle.algebra.proofs.Polynomial.{below-mono, below-add, below-mul, polynomial}
use Rattle.algebra.specs.Evaluation.{ValueAt1}
use Rattle.algebra.specs.OneMinusT.{⟨1-t⟩^}
use Rattle.algebra.specs.Homogenise.{hom}
use Rattle.algebra.proofs.Homogenise.{hom-add, hom-mul, hom-eq, hom-short, value_at1-hom}
use Rattle.algebra.specs.Degree.{Degree}
use Rattle.algebra.specs.Division.{quotient, remainder}
use Rattle.algebra.proofs.Division.{division, remainder-below, quotient-below, division-unique}
use Rattle.algebra.specs.PrimeField.{PrimeField, scalar_field, residue}
use Rattle.lists.specs.Degrees.{naive_degree}
use Rattle.lists.specs.Lists.{Coefficients, word, meaning, scaled}
use Rattle.lists.proofs.Scaled.{length-naive, naive-length, coefficient-nonzero, coefficient-last, coeff-scaled, below-scaled, below-naive, meaning-hom}
use Rattle.lists.proofs.Unscaled.{length-unscaled, coefficients-unscaled, scaled-unscaled, scaled-injective}
use Rattle.euclid_theory.specs.Division.{steps, quotient_of, remainder_of, Equation, Divisible}

module _ (F : PrimeField) where
  open F.series.ring use {add as ◌+ˢ◌, mul as ◌*ˢ◌}

  infixl 65 ◌+ˢ◌
  infixl 70 ◌*ˢ◌
  pub meaning-at-1 : (f : List ℕ) → ValueAt1 F.series (meaning F f) (residue F (get_or f (naive_degree f) 0))
  unfolding word
  meaning-at-1 f =
      rw (meaning-hom F f, sym (coeff-scaled F f (naive_degree f) ∙ coefficient-last F f)) (value_at1-hom F.series (naive_degree f) (scaled F f))

  pub length-quotient : (g f : List ℕ) → length (quotient_of F g f) ≡ steps g f
  unfolding quotient_of
  length-quotient g f = length-unscaled F (steps g f) _

  pub length-remainder : (g f : List ℕ) → length (remainder_of F g f) ≡ naive_degree f
  unfolding remainder_of
  length-remainder g f = length-unscaled F (naive_degree f) _

  -- in u: the right side of the identity, for any q and r of these lengths
  joined : (g f q r : List ℕ) → naive_degree f ≤ naive_degree g → length q ≡ steps g f → length r ≡ naive_degree f
      → meaning F q *ˢ meaning F f +ˢ ⟨1-t⟩^ F.series (steps g f) *ˢ meaning F r
      ≡ hom F.series (naive_degree g) (scaled F q *ˢ scaled F f +ˢ scaled F r)
  unfolding steps
  joined g f q r l lq lr =
      sym (hom-add F.series (naive_degree g) (scaled F q *ˢ scaled F f) (scaled F r) ∙ ap₂ (λ x y. x +ˢ y) first second)
    where
      dq : naive_degree q ≡ naive_degree g - naive_degree f
      dq = naive-length q _ lq

      e : naive_degree g ≡ naive_degree q + naive_degree f
      e = omega (arith, dq)

      first : hom F.series (naive_degree g) (scaled F q *ˢ scaled F f) ≡ meaning F q *ˢ meaning F f
      first =
          ap (λ k. hom F.series k (scaled F q *ˢ scaled F f)) e
          ∙ hom-mul F.series (naive_degree q) (naive_degree f) (below-naive F q) (below-naive F f)
          ∙ sym (ap₂ (λ x y. x *ˢ y) (meaning-hom F q) (meaning-hom F f))

      k : suc (naive_degree g) - naive_degree f ≡ suc (naive_degree g - naive_degree f)
      k = omega arith

      dr : naive_degree f - 1 ≡ naive_degree r
      dr = unfold naive_degree in omega arith

      below-r : Below F.series (naive_degree f) (scaled F r)
      below-r = subst (λ n. Below F.series n (scaled F r)) lr (below-scaled F r)

      second : hom F.series (naive_degree g) (scaled F r) ≡ ⟨1-t⟩^ F.series (suc (naive_degree g - naive_degree f)) *ˢ meaning F r
      second =
          hom-short F.series (naive_degree g) (naive_degree f) below-r (omega arith)
          ∙ ap₂ (λ i j. ⟨1-t⟩^ F.series i *ˢ hom F.series j (scaled F r)) k dr
          ∙ ap (λ x. ⟨1-t⟩^ F.series (suc (naive_degree g - naive_degree f)) *ˢ x) (sym (meaning-hom F r))

  module _ (g f : List ℕ) (h : Divisible F g f) where
    length-f : length f ≡ suc (naive_degree f)
    length-f = length-naive f h.some

    length-g : length g ≡ suc (naive_degree g)
    length-g = length-naive g (let l = h.some in let j = h.order in omega arith)

    pub order : naive_degree f ≤ naive_degree g
    order = let j = h.order in omega (arith, length-f, length-g)

    -- f's scaled form has degree d
    pub degree-divisor : Degree F.series (naive_degree f) (scaled F f)
    degree-divisor =
        record {
          below = below-naive F f;
          top =
              λ z. coefficient-nonzero F f (naive_degree f) h.divisor (N.le_of_eq (sym length-f)) h.end
              (sym (coeff-scaled F f (naive_degree f)) ∙ z);
        }

    wide : Below F.series (naive_degree f + steps g f) (scaled F g)
    unfolding steps
    wide = below-mono F.series (omega (arith, order)) (below-naive F g)

    few-quotient : steps g f ≤ F.p
    unfolding steps
    few-quotient = let l = h.dividend.short in omega (arith, length-g)

    few-remainder : naive_degree f ≤ F.p
    few-remainder = let l = h.divisor.short in omega (arith, length-f)

    pub coefficients-quotient : Coefficients F (quotient_of F g f)
    unfolding quotient_of
    coefficients-quotient = coefficients-unscaled F (steps g f) _ few-quotient

    pub coefficients-remainder : Coefficients F (remainder_of F g f)
    unfolding remainder_of
    coefficients-remainder = coefficients-unscaled F (naive_degree f) _ few-remainder

    pub scaled-quotient : scaled F (quotient_of F g f)
        ≡ quotient F.series (scalar_field F) (steps g f) (naive_degree f) (scaled F g) (scaled F f)
    unfolding quotient_of
    scaled-quotient =
        scaled-unscaled F (steps g f) few-quotient
        (quotient-below F.series (scalar_field F) (steps g f) (naive_degree f) (scaled F g) (scaled F f))

    pub scaled-remainder : scaled F (remainder_of F g f)
        ≡ remainder F.series (scalar_field F) (steps g f) (naive_degree f) (scaled F g) (scaled F f)
    unfolding remainder_of
    scaled-remainder =
        scaled-unscaled F (naive_degree f) few-remainder
        (remainder-below F.series (scalar_field F) (steps g f) (naive_degree f) degree-divisor wide)

    -- g = q·f + (1-t)^(e-d+1)·r
    pub division-identity : Equation F g f (quotient_of F g f) (remainder_of F g f)
    unfolding Equation
    division-identity =
        sym
        (joined g f (quotient_of F g f) (remainder_of F g f) order (length-quotient g f) (length-remainder g f)
        ∙ ap (hom F.series (naive_degree g))
        (ap₂ (λ x y. x *ˢ scaled F f +ˢ y) scaled-quotient scaled-remainder
        ∙ sym (division F.series (scalar_field F) (steps g f) (naive_degree f) (scaled F g) (scaled F f)))
        ∙ sym (meaning-hom F g))

    -- with any other coefficients, in the same two lengths, the identity fails
    pub division-only : (q r : List ℕ) → Coefficients F q → Coefficients F r → length q ≡ steps g f → length r ≡ naive_degree f
        → Equation F g f q r → (q ≡ quotient_of F g f) × (r ≡ remainder_of F g f)
    unfolding Equation
    division-only q r cq cr lq lr e = (
      scaled-injective F q (quotient_of F g f) cq coefficients-quotient (lq ∙ sym (length-quotient g f)) (both.0 ∙ sym scaled-quotient),
      scaled-injective F r (remainder_of F g f) cr coefficients-remainder (lr ∙ sym (length-remainder g f)) (both.1 ∙ sym scaled-remainder),
    )
      where
        below-r : Below F.series (naive_degree f) (scaled F r)
        below-r = subst (λ n. Below F.series n (scaled F r)) lr (below-scaled F r)

        below-q : Below F.series (suc (naive_degree g - naive_degree f)) (scaled F q)
        below-q = unfold steps in subst (λ n. Below F.series n (scaled F q)) lq (below-scaled F q)

        in-u : scaled F q *ˢ scaled F f +ˢ scaled F r ≡ scaled F g
        in-u =
            hom-eq F.series (naive_degree g)
            (below-add F.series
            (below-mono F.series (omega (arith, order))
            (below-mul F.series (naive_degree g - naive_degree f) (suc (naive_degree f)) below-q (below-naive F f)))
            (below-mono F.series (omega (arith, order)) below-r))
            (below-naive F g) (sym (joined g f q r order lq lr) ∙ sym e ∙ meaning-hom F g)

        both : (scaled F q ≡ quotient F.series (scalar_field F) (steps g f) (naive_degree f) (scaled F g) (scaled F f))
            × (scaled F r ≡ remainder F.series (scalar_field F) (steps g f) (naive_degree f) (scaled F g) (scaled F f))
        both =
            division-unique F.series (scalar_field F) (naive_degree f) degree-divisor (polynomial F.series below-q)
            (polynomial F.series (quotient-below F.series (scalar_field F) (steps g f) (naive_degree f) (scaled F g) (scaled F f))) below-r
            (remainder-below F.series (scalar_field F) (steps g f) (naive_degree f) degree-divisor wide)
            (in-u ∙ division F.series (scalar_field F) (steps g f) (naive_degree f) (scaled F g) (scaled F f))
