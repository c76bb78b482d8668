-- The h and the number of rounds of two lists, as they are computed, are those that document 01's rounds define as a relation.
-- Theorems:
--     head-extent     the naive degree of such an h is its extent
--     head-gcd        the GCD's h is what document 01 says of h
--     gcd-is-the      the GCD's h and rounds are those of the relation
--     monic-only      one list has a given scaled form, made to have last word 1
--     gcd-only        no other h and rounds are those of the relation
-- Assumes nothing.
use mathlib.Core.Path.{◌≡◌, sym, ◌∙◌, ap, subst}
use mathlib.Core.List.{List}
use Prim.Native.Nat.{ℕ, suc, ◌+◌, ◌≤◌, ◌<◌}
use native.Mathlib.Omega.{arith}
use lib.ListN.{length}
use Rattle.algebra.specs.RingLaws as R
use Rattle.algebra.specs.Series.{C}
use Rattle.algebra.proofs.Series.{C-one, coeff-C-mul}
use Rattle.algebra.proofs.Polynomial.{below-C-mul}
use Rattle.algebra.proofs.Homogenise.{C-mul}
use Rattle.algebra.proofs.Degree.{degree-le, size_of}
use Rattle.algebra.proofs.Rounds.{rounds-unique}
use Rattle.algebra.specs.Monic.{top_inverse}
use Rattle.algebra.proofs.Monic.{monic-is}
use Rattle.algebra.specs.PrimeField.{PrimeField, scalars, scalar_field, residue, inverse}
use Rattle.algebra.proofs.PrimeField.{residue-1, inverse-cancel}
use Rattle.lists.specs.Degrees.{naive_degree, significant, extent}
use Rattle.lists.specs.Lists.{Coefficients, word, scaled}
use Rattle.lists.proofs.Scaled.{coefficient-last, coeff-scaled}
use Rattle.lists.proofs.Unscaled.{scaled-injective}
use Rattle.lists.proofs.Extents.{significant-is-size}
use Rattle.euclid_theory.specs.Gcd.{room, euclid_of, gcd_of, rounds_of}
use Rattle.euclid_theory.proofs.Gcd.{rounds_are, scaled-gcd, length-gcd, coefficients-gcd, degree-gcd, gcd-ends}
use Rattle.euclid_theory.specs.Defined.{Head, MonicOf, TheGcd}

module _ (F : PrimeField) where
  open scalars F use {Carrier as K, zero as 𝟘, one as 𝟙, mul as ◌⊗◌}
  open F.series.ring use {Carrier as S, mul as ◌*ˢ◌}

  infixl 70 ◌⊗◌
  infixl 70 ◌*ˢ◌
  -- the extent is the naive degree
  pub head-extent : (h : List ℕ) → Head F h → extent h ≡ naive_degree h
  unfolding extent
  head-extent h hd =
      let e = significant-is-size F h hd.coefficients in
      let w = hd.words in
      let s = size_of F.series (scalar_field F) (length h) (naive_degree h) hd.degree (omega arith) in
      omega arith

  -- the last coefficient of the scaled form is 1
  head-top : (h : List ℕ) → Head F h → F.series.coeff (scaled F h) (naive_degree h) ≡ 𝟙
  unfolding word
  head-top h hd = coeff-scaled F h _ ∙ coefficient-last F h ∙ ap (residue F) hd.ends ∙ residue-1 F

  pub head-gcd : (f g : List ℕ) → Coefficients F f → Coefficients F g → 0 < significant f + significant g → Head F (gcd_of F f g)
  head-gcd f g cf cg some =
      record {
        coefficients = coefficients-gcd F f g cf cg some;
        words = length-gcd F f g cf cg some;
        degree = degree-gcd F f g cf cg some;
        ends = gcd-ends F f g cf cg some;
      }

  pub gcd-is-the : (f g : List ℕ) → Coefficients F f → Coefficients F g → 0 < significant f + significant g
      → TheGcd F f g (gcd_of F f g) (rounds_of F f g)
  gcd-is-the f g cf cg some =
      record {
        last = (euclid_of F f g).last;
        made = rounds_are F f g;
        is =
            record {
              unit = top_inverse F.series (scalar_field F) (room f g) (euclid_of F f g).last;
              form = scaled-gcd F f g cf cg some ∙ monic-is F.series (scalar_field F) _ _;
              head = head-gcd f g cf cg some;
            };
      }

  module _ {s : S} where
    unit-nonzero : {h : List ℕ} (m : MonicOf F s h) → ¬ (m.unit ≡ 𝟘)
    unit-nonzero {h} m z =
        m.head.degree.top
        (ap (λ x. F.series.coeff x (naive_degree h)) m.form ∙ coeff-C-mul F.series m.unit s (naive_degree h)
        ∙ ap (λ u. u ⊗ F.series.coeff s (naive_degree h)) z ∙ R.zero-mul (scalars F) _)

    -- two such lists differ by a constant
    ratio : {h h' : List ℕ} → MonicOf F s h → MonicOf F s h' → K
    ratio m m' = m.unit ⊗ inverse F m'.unit

    over : {h h' : List ℕ} (m : MonicOf F s h) (m' : MonicOf F s h') → scaled F h ≡ C F.series (ratio m m') *ˢ scaled F h'
    unfolding ratio
    over m m' =
        m.form ∙ ap (λ u. C F.series u *ˢ s) (sym (inverse-cancel F m.unit m'.unit (unit-nonzero m')))
        ∙ ap (λ x. x *ˢ s) (C-mul F.series _ _) ∙ R.mul_assoc F.series.ring _ _ _
        ∙ ap (λ x. C F.series (m.unit ⊗ inverse F m'.unit) *ˢ x) (sym m'.form)

    degree-at-most : {h h' : List ℕ} → MonicOf F s h → MonicOf F s h' → naive_degree h ≤ naive_degree h'
    degree-at-most m m' =
        degree-le F.series m.head.degree
        (rw (over m m') (below-C-mul F.series (ratio m m') m'.head.degree.below))

    pub monic-only : {h h' : List ℕ} → MonicOf F s h → MonicOf F s h' → h ≡ h'
    monic-only {h} {h'} m m' =
        scaled-injective F h h' m.head.coefficients m'.head.coefficients
        (m.head.words ∙ ap suc same ∙ sym m'.head.words)
        (over m m' ∙ ap (λ u. C F.series u *ˢ scaled F h') one ∙ ap (λ x. x *ˢ scaled F h') (C-one F.series)
        ∙ R.one-mul F.series.ring _)
      where
        same : naive_degree h ≡ naive_degree h'
        same = let a = degree-at-most m m' in let b = degree-at-most m' m in omega arith

        one : ratio m m' ≡ 𝟙
        one =
            sym (R.mul-one (scalars F) _) ∙ ap (λ x. ratio m m' ⊗ x) (sym (head-top h' m'.head))
            ∙ sym (coeff-C-mul F.series (ratio m m') (scaled F h') (naive_degree h'))
            ∙ ap (λ x. F.series.coeff x (naive_degree h')) (sym (over m m')) ∙ ap (F.series.coeff (scaled F h)) (sym same)
            ∙ head-top h m.head

  pub gcd-only : {f g h h' : List ℕ} {k k' : ℕ} → TheGcd F f g h k → TheGcd F f g h' k' → (h ≡ h') × (k ≡ k')
  gcd-only {h' = h'} z z' =
      let e = rounds-unique F.series (scalar_field F) z.made z'.made in
      (monic-only z.is (subst (λ s. MonicOf F s h') (sym e.1) z'.is), e.0)
