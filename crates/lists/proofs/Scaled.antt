-- The scaled form of a list: at naive degree n the meaning is the scaled form homogenised.
--     length-naive, naive-length                a list of n + 1 words has naive degree n
--     coefficients, coefficients-listed         when words are coefficients; those of a list that no call refuses are
--     binomial-nonzero, binomial-above          no binomial coefficient of a list of at most p words is 0 in the field; past the list they are
--     coefficient-zero, coefficient-nonzero     a coefficient of the scaled form is 0 where its word is, and only there
--     coefficient-last, last_one                the last coefficient is the last word, so a list whose scaled form ends in 1 ends in 1
--     coeff-scaled, below-scaled                the coefficients of the scaled form, and its bound
-- Theorems:
--     meaning-hom            the meaning is the scaled form, homogenised at the naive degree
--     polynomial-meaning     the meaning is a polynomial
-- Assumes nothing.
use mathlib.Core.Path.{◌≡◌, sym, ◌∙◌, ap, ap₂, subst}
use mathlib.Core.List.{List, [], ◌∷◌}
use Prim.Native.Nat.{ℕ, suc, ◌-◌, ◌≤◌, ◌<◌, zero-le}
use native.Mathlib.Decide.{dec_lt}
use native.Mathlib.Omega.{arith}
use lib.ListN.{get_or, length, get_or-eq_default}
use Rattle.algebra.specs.RingLaws as R
use Rattle.algebra.specs.Ring.{pow}
use Rattle.algebra.proofs.Ring.{zero-of-mul}
use Rattle.algebra.specs.Series.{C, t}
use Rattle.algebra.proofs.Series.{coeff-mk, C-zero}
use Rattle.algebra.specs.Polynomial.{Below, Polynomial}
use Rattle.algebra.proofs.Polynomial.{below-mono}
use Rattle.algebra.specs.OneMinusT.{⟨1-t⟩^}
use Rattle.algebra.specs.Homogenise.{hom}
use Rattle.algebra.proofs.Homogenise.{hom-zero, polynomial-hom}
use Rattle.algebra.proofs.Sum.{sum-zero, sum-ext, term, hom-sum}
use Rattle.algebra.proofs.Choose.{choose-above, choose-self}
use Rattle.algebra.specs.PrimeField.{PrimeField, scalars, scalar_field, positive, residue, value}
use Rattle.algebra.proofs.PrimeField.{value-residue, residue-0, residue-1, residue-nonzero, choose-residue-nonzero}
use Rattle.lists.specs.Degrees.{naive_degree}
use Rattle.lists.specs.Refused.{IsList}
use Rattle.lists.specs.Lists.{Coefficients, word, binomial, scaled_coefficient, meaning, scaled}

pub length-naive : (c : List ℕ) → 0 < length c → length c ≡ suc (naive_degree c)
unfolding naive_degree
length-naive c l = omega arith

pub naive-length : (c : List ℕ) (n : ℕ) → length c ≡ suc n → naive_degree c ≡ n
unfolding naive_degree
naive-length c n e = omega arith

module _ (F : PrimeField) where
  open scalars F use {Carrier as K, zero as 𝟘, one as 𝟙, mul as ◌⊗◌}
  open F.series.ring use {Carrier as S, mul as ◌*ˢ◌}

  infixl 70 ◌⊗◌
  infixl 70 ◌*ˢ◌
  -- a list of coefficients: each word that it has is below p
  pub coefficients : {c : List ℕ} → length c ≤ F.p → ((k : ℕ) → k < length c → get_or c k 0 < F.p) → Coefficients F c
  coefficients {c} l h = record { short = l; below = λ k. go k (dec_lt k (length c)) }
    where
      go : (k : ℕ) → Dec (k < length c) → get_or c k 0 < F.p
      go k (yes j) = h k j
      go k (no j) = rw (get_or-eq_default c 0 {n = k} (omega arith)) (positive F)

  -- a list that no call refuses
  pub coefficients-listed : {most : ℕ} → most ≤ F.p → {c : List ℕ} → IsList F.p most c → Coefficients F c
  coefficients-listed wide l = record { short = let s = l.short in omega arith; below = l.words }

  -- no binomial coefficient of a list of at most p words is 0 in the field
  pub binomial-nonzero : (n k : ℕ) → n < F.p → k ≤ n → ¬ (binomial F n k ≡ 𝟘)
  unfolding binomial
  binomial-nonzero n k l h = choose-residue-nonzero F n k l h

  pub binomial-above : (n k : ℕ) → n < k → binomial F n k ≡ 𝟘
  unfolding binomial
  binomial-above n k l = ap (residue F) (choose-above n k l) ∙ residue-0 F

  -- a coefficient is 0 where the word is
  pub coefficient-zero : (c : List ℕ) (k : ℕ) → get_or c k 0 ≡ 0 → scaled_coefficient F c k ≡ 𝟘
  unfolding scaled_coefficient word
  coefficient-zero c k e =
      ap (λ x. residue F x ⊗ binomial F (naive_degree c) k) e ∙ ap (λ x. x ⊗ binomial F (naive_degree c) k) (residue-0 F)
      ∙ R.zero-mul (scalars F) _

  pub coefficient-out : (c : List ℕ) (k : ℕ) → length c ≤ k → scaled_coefficient F c k ≡ 𝟘
  coefficient-out c k l = coefficient-zero c k (get_or-eq_default c 0 l)

  -- and only there
  pub coefficient-nonzero : (c : List ℕ) (k : ℕ) → Coefficients F c → k < length c → ¬ (get_or c k 0 ≡ 0) → ¬ (scaled_coefficient F c k ≡ 𝟘)
  unfolding scaled_coefficient word naive_degree
  coefficient-nonzero c k g l h e =
      let s = g.short in
      binomial-nonzero (length c - 1) k (omega arith) (omega arith)
      (zero-of-mul (scalars F) (scalar_field F) (residue F (get_or c k 0)) (binomial F (length c - 1) k) (residue-nonzero F (get_or c k 0) (g.below k) h) e)

  -- the last coefficient is the last word
  pub coefficient-last : (c : List ℕ) → scaled_coefficient F c (naive_degree c) ≡ word F c (naive_degree c)
  unfolding scaled_coefficient binomial
  coefficient-last c =
      ap (λ x. word F c (naive_degree c) ⊗ residue F x) (choose-self (naive_degree c))
      ∙ ap (λ x. word F c (naive_degree c) ⊗ x) (residue-1 F) ∙ R.mul-one (scalars F) _

  pub coeff-scaled : (c : List ℕ) (k : ℕ) → F.series.coeff (scaled F c) k ≡ scaled_coefficient F c k
  unfolding scaled
  coeff-scaled c k = coeff-mk F.series (scaled_coefficient F c) k

  pub coeff-scaled-at : (n : ℕ) (c : List ℕ) (k : ℕ) → naive_degree c ≡ n → F.series.coeff (scaled F c) k ≡ word F c k ⊗ binomial F n k
  unfolding scaled_coefficient
  coeff-scaled-at n c k e = coeff-scaled c k ∙ ap (λ m. word F c k ⊗ binomial F m k) e

  pub below-scaled : (c : List ℕ) → Below F.series (length c) (scaled F c)
  below-scaled c = record { at = λ k l. coeff-scaled c k ∙ coefficient-out c k l }

  pub below-naive : (c : List ℕ) → Below F.series (suc (naive_degree c)) (scaled F c)
  unfolding naive_degree
  below-naive c = below-mono F.series (omega arith) (below-scaled c)

  -- a list whose scaled form ends in 1 ends in 1
  pub last_one : (c : List ℕ) → Coefficients F c → F.series.coeff (scaled F c) (naive_degree c) ≡ 𝟙 → get_or c (naive_degree c) 0 ≡ 1
  unfolding word
  last_one c g e =
      sym (value-residue F _ (g.below (naive_degree c)))
      ∙ ap (value F) (sym (coefficient-last c) ∙ sym (coeff-scaled c (naive_degree c)) ∙ e ∙ sym (residue-1 F))
      ∙ value-residue F 1 F.prime.big

  -- the meaning is the scaled form, homogenised
  pub meaning-hom : (c : List ℕ) → meaning F c ≡ hom F.series (naive_degree c) (scaled F c)
  unfolding meaning naive_degree
  meaning-hom [] =
      sum-zero F.series _
      ∙ sym (hom-zero F.series (scaled F []) ∙ ap (C F.series) (coeff-scaled [] 0 ∙ coefficient-out [] 0 zero-le) ∙ C-zero F.series)
  meaning-hom (a ∷ c) =
      sum-ext F.series (suc (length c)) _ _ same
      ∙ sym (ap (λ n. hom F.series n (scaled F (a ∷ c))) e ∙ hom-sum F.series (length c) (scaled F (a ∷ c)))
    where
      e : suc (length c) - 1 ≡ length c
      e = omega arith

      part : K → ℕ → ℕ → S
      part x k n = C F.series x *ˢ pow F.series.ring (t F.series) k *ˢ ⟨1-t⟩^ F.series (n - k)

      same : (k : ℕ) → k < suc (length c) → part (scaled_coefficient F (a ∷ c) k) k (suc (length c) - 1) ≡ term F.series (length c) (scaled F (a ∷ c)) k
      same k l = unfold term in ap₂ (λ x n. part x k n) (sym (coeff-scaled (a ∷ c) k)) e

  pub meaning-hom-at : (n : ℕ) (c : List ℕ) → naive_degree c ≡ n → meaning F c ≡ hom F.series n (scaled F c)
  meaning-hom-at n c e = meaning-hom c ∙ ap (λ n. hom F.series n (scaled F c)) e

  pub polynomial-meaning : (c : List ℕ) → Polynomial F.series (meaning F c)
  polynomial-meaning c =
      subst (λ s. Polynomial F.series s) (sym (meaning-hom c)) (polynomial-hom F.series (naive_degree c) (scaled F c))
