-- A list that is not zero, its top zeros removed and scaled to end in 1.
--     scaled-ended, monic-ended                 its scaled form is that of the list, made monic
--     length-ended, naive-ended, head-ended     it ends at its extent, in 1
--     ended-divides                             in u it divides the list
--     ended-meaning                             its meaning is a constant times that of the list without its top zeros
--     bezout-ended                              so what divides the list and is not 0 at 1 divides it
-- Assumes nothing.
use mathlib.Core.Path.{◌≡◌, sym, ◌∙◌, ap, ap₂, subst}
use mathlib.Core.List.{List}
use Prim.Native.Nat.{ℕ, suc, ◌≤◌, ◌<◌}
use native.Mathlib.Omega.{arith}
use lib.ListN.{length}
use Rattle.algebra.specs.RingLaws as R
use Rattle.algebra.specs.RingLaws.{RING}
use Rattle.algebra.specs.Series.{C}
use Rattle.algebra.specs.Polynomial.{Below, Divides}
use Rattle.algebra.proofs.Polynomial.{below-C, polynomial, polynomial-0, divides-refl}
use Rattle.algebra.specs.OneMinusT.{⟨1-t⟩^}
use Rattle.algebra.specs.Homogenise.{hom}
use Rattle.algebra.proofs.Homogenise.{hom-C-mul}
use Rattle.algebra.specs.Degree.{Degree, size}
use Rattle.algebra.specs.Monic.{top_inverse, monic}
use Rattle.algebra.proofs.Monic.{monic-is, monic-top, monic-degree, monic-divides}
use Rattle.algebra.proofs.CommonDivisor.{Bezout}
use Rattle.algebra.specs.PrimeField.{PrimeField, scalar_field}
use Rattle.lists.specs.Degrees.{naive_degree, significant, extent, power}
use Rattle.lists.specs.Lists.{Coefficients, meaning, scaled}
use Rattle.lists.specs.Operations.{trim}
use Rattle.lists.proofs.Scaled.{naive-length, below-scaled, meaning-hom, last_one}
use Rattle.lists.proofs.Unscaled.{length-unscaled, coefficients-unscaled, scaled-unscaled}
use Rattle.lists.proofs.Extents.{significant-le, significant-extent, significant-is-size}
use Rattle.lists.proofs.Trims.{naive-trim, trim-scaled, trim-meaning}
use Rattle.euclid_theory.specs.Defined.{Head, MonicOf}
use Rattle.album_theory.specs.Albums.{ended}

module _ (F : PrimeField) where
  open F.series.ring use {Carrier as S, zero as 0ˢ, add as ◌+ˢ◌, mul as ◌*ˢ◌}

  infixl 65 ◌+ˢ◌
  infixl 70 ◌*ˢ◌
  module _ (c : List ℕ) (hc : Coefficients F c) (some : 0 < significant c) where
    -- 1 over the last word that is not 0, as a constant
    abbrev unit : S
    unit = C F.series (top_inverse F.series (scalar_field F) (length c) (scaled F c))

    size-c : size F.series (scalar_field F) (length c) (scaled F c) ≡ suc (extent c)
    size-c = sym (significant-is-size F c hc) ∙ significant-extent c some

    few : significant c ≤ F.p
    few = let a = significant-le c in let b = hc.short in omega arith

    degree-monic : Degree F.series (extent c) (monic F.series (scalar_field F) (length c) (scaled F c))
    degree-monic = monic-degree F.series (scalar_field F) (length c) (extent c) (below-scaled F c) size-c

    pub coefficients-ended : Coefficients F (ended F c)
    unfolding ended
    coefficients-ended = coefficients-unscaled F _ _ few

    pub scaled-ended : scaled F (ended F c) ≡ monic F.series (scalar_field F) (length c) (scaled F c)
    unfolding ended
    scaled-ended =
        scaled-unscaled F _ few
        (subst (λ k. Below F.series k (monic F.series (scalar_field F) (length c) (scaled F c)))
        (sym (significant-extent c some)) degree-monic.below)

    pub length-ended : length (ended F c) ≡ suc (extent c)
    unfolding ended
    length-ended = length-unscaled F _ _ ∙ significant-extent c some

    pub naive-ended : naive_degree (ended F c) ≡ extent c
    naive-ended = naive-length (ended F c) (extent c) length-ended

    pub head-ended : Head F (ended F c)
    head-ended =
        record {
          coefficients = coefficients-ended;
          words = rw naive-ended length-ended;
          degree = rw (naive-ended, scaled-ended) degree-monic;
          ends =
              last_one F (ended F c) coefficients-ended
              (ap₂ F.series.coeff scaled-ended naive-ended
              ∙ monic-top F.series (scalar_field F) (length c) (extent c) (below-scaled F c) size-c);
        }

    -- it is the list's scaled form, made to have last word 1
    pub monic-ended : MonicOf F (scaled F c) (ended F c)
    monic-ended =
        record {
          unit = top_inverse F.series (scalar_field F) (length c) (scaled F c);
          form = scaled-ended ∙ monic-is F.series (scalar_field F) (length c) (scaled F c);
          head = head-ended;
        }

    -- in u it divides the list
    pub ended-divides : Divides F.series (scaled F (ended F c)) (scaled F c)
    ended-divides =
        rw scaled-ended
        (monic-divides F.series (scalar_field F) (length c) (extent c) (below-scaled F c) size-c (divides-refl F.series (scaled F c)))

    -- a constant times the list without its top zeros
    pub ended-meaning : meaning F (ended F c) ≡ unit *ˢ meaning F (trim F c)
    ended-meaning =
        meaning-hom F (ended F c)
        ∙ ap₂ (hom F.series) naive-ended (scaled-ended ∙ monic-is F.series (scalar_field F) (length c) (scaled F c))
        ∙ hom-C-mul F.series (extent c) _ (scaled F c)
        ∙ ap (λ s. unit *ˢ s) (sym (meaning-hom F (trim F c) ∙ ap₂ (hom F.series) (naive-trim F c) (trim-scaled F c hc)))

    -- so what divides the list and is not 0 at 1 divides it
    pub bezout-ended : Bezout F.series (meaning F c) 0ˢ (meaning F (ended F c))
    bezout-ended =
        record {
          a = unit;
          b = 0ˢ;
          N = power c;
          a-polynomial = polynomial F.series (below-C F.series _);
          b-polynomial = polynomial-0 F.series;
          equation =
              alone unit (meaning F c) ∙ ap (λ s. unit *ˢ s) (trim-meaning F c hc some)
              ∙ R.mul_left_comm F.series.ring _ _ _ ∙ ap (λ s. ⟨1-t⟩^ F.series (power c) *ˢ s) (sym ended-meaning);
        }
      where
        alone : (a b : S) → a *ˢ b +ˢ 0ˢ *ˢ 0ˢ ≡ a *ˢ b
        alone a b = simp RING
