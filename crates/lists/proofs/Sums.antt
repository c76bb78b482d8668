-- The sum and the difference of two lists, by one argument: the list of f plus s times g, s being 1 or -1.
-- Theorems:
--     sum-meaning            the sum means the sum
--     difference-meaning     the difference means the difference
-- Assumes nothing.
use mathlib.Core.Path.{◌≡◌, sym, ◌∙◌, ap, ap₂}
use mathlib.Core.List.{List}
use Prim.Native.Nat.{ℕ, suc, ◌≤◌, ◌<◌}
use native.Mathlib.Decide.{dec_lt}
use native.Mathlib.Omega.{arith}
use lib.ListN.{length, get_or-eq_default}
use Rattle.algebra.specs.RingLaws as R
use Rattle.algebra.specs.RingLaws.{RING}
use Rattle.algebra.specs.Series.{C}
use Rattle.algebra.proofs.Series.{ext, coeff-add, coeff-C-mul, C-one}
use Rattle.algebra.specs.Homogenise.{hom}
use Rattle.algebra.proofs.Homogenise.{hom-add, hom-C-mul, C-neg}
use Rattle.algebra.specs.PrimeField.{PrimeField, scalars, residue, value}
use Rattle.algebra.proofs.PrimeField.{residue-value, value-lt, residue-0}
use Rattle.lists.specs.Tabulate.{tabulate}
use Rattle.lists.proofs.Tabulate.{length-tabulate, get_or-tabulate, tabulate-ext}
use Rattle.lists.specs.Degrees.{naive_degree}
use Rattle.lists.specs.Lists.{Coefficients, word, binomial, meaning, scaled}
use Rattle.lists.specs.Operations.{raise, larger_degree, sum_of, difference_of}
use Rattle.lists.proofs.Scaled.{naive-length, coefficients, coeff-scaled-at, meaning-hom-at}
use Rattle.lists.proofs.Raises.{length-raise, naive-raise, raise-meaning}

module _ (F : PrimeField) where
  open scalars F use {Carrier as K, zero as 𝟘, one as 𝟙, neg as ⊖◌, add as ◌⊕◌, mul as ◌⊗◌}
  open F.series.ring use {neg as -ˢ◌, add as ◌+ˢ◌, mul as ◌*ˢ◌}

  infixl 65 ◌⊕◌
  infixl 70 ◌⊗◌
  infix 80 ⊖◌
  infixl 65 ◌+ˢ◌
  infixl 70 ◌*ˢ◌
  infix 80 -ˢ◌
  -- f plus s times g: the sum for s = 1, the difference for s = -1
  combination : K → (f g : List ℕ) → List ℕ
  combination s f g =
      tabulate (suc (larger_degree F f g)) (λ k. value F (word F (raise F (larger_degree F f g) f) k ⊕ s ⊗ word F (raise F (larger_degree F f g) g) k))

  sum_is : (f g : List ℕ) → sum_of F f g ≡ combination 𝟙 f g
  unfolding sum_of combination
  sum_is f g =
      tabulate-ext (suc (larger_degree F f g)) _ _
      (λ k l. ap (λ x. value F (word F (raise F (larger_degree F f g) f) k ⊕ x)) (sym (R.one-mul (scalars F) _)))

  difference-is : (f g : List ℕ) → difference_of F f g ≡ combination (⊖ 𝟙) f g
  unfolding difference_of combination
  difference-is f g =
      tabulate-ext (suc (larger_degree F f g)) _ _
      (λ k l. ap (λ x. value F (word F (raise F (larger_degree F f g) f) k ⊕ x)) (sym (minus (word F (raise F (larger_degree F f g) g) k))))
    where
      minus : (x : K) → ⊖ 𝟙 ⊗ x ≡ ⊖ x
      minus x = simp RING

  module _ (s : K) (f g : List ℕ) where
    length-combination : length (combination s f g) ≡ suc (larger_degree F f g)
    unfolding combination
    length-combination = length-tabulate _ _

    naive-combination : naive_degree (combination s f g) ≡ larger_degree F f g
    naive-combination = naive-length (combination s f g) _ length-combination

    coefficients-combination : larger_degree F f g < F.p → Coefficients F (combination s f g)
    unfolding combination
    coefficients-combination l =
        coefficients F (rw (length-tabulate _ _) l) (λ k j. rw (get_or-tabulate _ _ k (rw (length-tabulate _ _) at j)) (value-lt F _))

    word_out : (c : List ℕ) (k : ℕ) → length c ≡ suc (larger_degree F f g) → ¬ (k < suc (larger_degree F f g)) → word F c k ≡ 𝟘
    unfolding word
    word_out c k e h = ap (residue F) (get_or-eq_default c 0 (omega arith)) ∙ residue-0 F

    -- its words, past the end too
    word-combination : (k : ℕ)
        → word F (combination s f g) k ≡ word F (raise F (larger_degree F f g) f) k ⊕ s ⊗ word F (raise F (larger_degree F f g) g) k
    word-combination k = go (dec_lt k (suc (larger_degree F f g)))
      where
        none : (x : K) → 𝟘 ≡ 𝟘 ⊕ x ⊗ 𝟘
        none x = simp RING

        go : Dec (k < suc (larger_degree F f g))
            → word F (combination s f g) k ≡ word F (raise F (larger_degree F f g) f) k ⊕ s ⊗ word F (raise F (larger_degree F f g) g) k
        go (yes l) = unfold word combination in (ap (residue F) (get_or-tabulate _ _ k l) ∙ residue-value F _)
        go (no h) =
            word_out (combination s f g) k length-combination h ∙ none s
            ∙ sym (ap₂ (λ x y. x ⊕ s ⊗ y) (word_out _ k (length-raise F _ f) h) (word_out _ k (length-raise F _ g) h))

    scaled-combination : scaled F (combination s f g)
        ≡ scaled F (raise F (larger_degree F f g) f) +ˢ C F.series s *ˢ scaled F (raise F (larger_degree F f g) g)
    scaled-combination =
        ext F.series _ _ λ k.
        coeff-scaled-at F (larger_degree F f g) (combination s f g) k naive-combination
        ∙ ap (λ x. x ⊗ binomial F (larger_degree F f g) k) (word-combination k)
        ∙ spread (word F (raise F (larger_degree F f g) f) k) (word F (raise F (larger_degree F f g) g) k) (binomial F (larger_degree F f g) k)
        ∙ sym
        (coeff-add F.series _ _ k
        ∙ ap₂ (λ x y. x ⊕ y) (coeff-scaled-at F (larger_degree F f g) _ k (naive-raise F _ f))
        (coeff-C-mul F.series s _ k ∙ ap (λ x. s ⊗ x) (coeff-scaled-at F (larger_degree F f g) _ k (naive-raise F _ g))))
      where
        spread : (x y z : K) → (x ⊕ s ⊗ y) ⊗ z ≡ x ⊗ z ⊕ s ⊗ (y ⊗ z)
        spread x y z = simp RING

    raised : (c : List ℕ) → naive_degree c ≤ larger_degree F f g → larger_degree F f g < F.p
        → hom F.series (larger_degree F f g) (scaled F (raise F (larger_degree F f g) c)) ≡ meaning F c
    raised c l h = sym (meaning-hom-at F (larger_degree F f g) _ (naive-raise F _ c)) ∙ raise-meaning F (larger_degree F f g) c l h

    meaning-combination : larger_degree F f g < F.p → meaning F (combination s f g) ≡ meaning F f +ˢ C F.series s *ˢ meaning F g
    meaning-combination h =
        meaning-hom-at F (larger_degree F f g) _ naive-combination ∙ ap (hom F.series (larger_degree F f g)) scaled-combination
        ∙ hom-add F.series (larger_degree F f g) _ _
        ∙ ap₂ (λ x y. x +ˢ y) (raised f left h) (hom-C-mul F.series (larger_degree F f g) s _ ∙ ap (λ x. C F.series s *ˢ x) (raised g right h))
      where
        left : naive_degree f ≤ larger_degree F f g
        left = unfold larger_degree in omega arith

        right : naive_degree g ≤ larger_degree F f g
        right = unfold larger_degree in omega arith

  pub length-sum : (f g : List ℕ) → length (sum_of F f g) ≡ suc (larger_degree F f g)
  length-sum f g = ap length (sum_is f g) ∙ length-combination 𝟙 f g

  pub length-difference : (f g : List ℕ) → length (difference_of F f g) ≡ suc (larger_degree F f g)
  length-difference f g = ap length (difference-is f g) ∙ length-combination (⊖ 𝟙) f g

  pub coefficients-sum : (f g : List ℕ) → larger_degree F f g < F.p → Coefficients F (sum_of F f g)
  coefficients-sum f g l = rw (sum_is f g) (coefficients-combination 𝟙 f g l)

  pub coefficients-difference : (f g : List ℕ) → larger_degree F f g < F.p → Coefficients F (difference_of F f g)
  coefficients-difference f g l = rw (difference-is f g) (coefficients-combination (⊖ 𝟙) f g l)

  pub sum-meaning : (f g : List ℕ) → larger_degree F f g < F.p → meaning F (sum_of F f g) ≡ meaning F f +ˢ meaning F g
  sum-meaning f g l =
      ap (meaning F) (sum_is f g) ∙ meaning-combination 𝟙 f g l
      ∙ ap (λ x. meaning F f +ˢ x) (ap (λ x. x *ˢ meaning F g) (C-one F.series) ∙ R.one-mul F.series.ring _)

  pub difference-meaning : (f g : List ℕ) → larger_degree F f g < F.p → meaning F (difference_of F f g) ≡ meaning F f +ˢ -ˢ meaning F g
  difference-meaning f g l =
      ap (meaning F) (difference-is f g) ∙ meaning-combination (⊖ 𝟙) f g l
      ∙ ap (λ x. meaning F f +ˢ x)
      (ap (λ x. x *ˢ meaning F g) (C-neg F.series 𝟙 ∙ ap (λ x. -ˢ x) (C-one F.series))
      ∙ R.neg-mul F.series.ring _ _ ∙ ap (λ x. -ˢ x) (R.one-mul F.series.ring _))
