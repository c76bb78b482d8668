-- The list that has a given scaled form. So a list is known by its length with its scaled form, or with its meaning.
--     length-unscaled, get_or-unscaled, coefficients-unscaled     its length and its words, which are coefficients
-- Theorems:
--     scaled-unscaled, unscaled-scaled     the list of a scaled form, and the scaled form of a list, undo each other
--     scaled-injective                     two lists of one length with one scaled form are equal
--     meaning-injective                    two lists of one naive degree with one meaning are equal word for word
--     meaning-unscaled                     a list of n + 1 words means its scaled form, homogenised at n
-- Assumes nothing.
use mathlib.Core.Path.{◌≡◌, sym, ◌∙◌, ap, ap₂}
use mathlib.Core.List.{List}
use Prim.Native.Nat.{ℕ, suc, ◌-◌, ◌≤◌, ◌<◌}
use native.Mathlib.Decide.{dec_lt}
use native.Mathlib.Omega.{arith}
use lib.ListN.{get_or, length}
use lib.Seq.{ext_get_or}
use Rattle.algebra.proofs.Series.{ext}
use Rattle.algebra.specs.Polynomial.{Below}
use Rattle.algebra.specs.Homogenise.{hom}
use Rattle.algebra.proofs.Homogenise.{hom-eq}
use Rattle.algebra.specs.PrimeField.{PrimeField, scalars, residue, value, inverse}
use Rattle.algebra.proofs.PrimeField.{residue-value, value-residue, value-lt, inverse-cancel, inverse-cancel'}
use Rattle.lists.proofs.Tabulate.{length-tabulate, get_or-tabulate}
use Rattle.lists.specs.Degrees.{naive_degree}
use Rattle.lists.specs.Lists.{Coefficients, word, binomial, scaled_coefficient, meaning, scaled, unscaled}
use Rattle.lists.proofs.Scaled.{naive-length, coefficients, coeff-scaled, coefficient-out, binomial-nonzero, meaning-hom, below-naive}

module _ (F : PrimeField) where
  open scalars F use {Carrier as K, zero as 𝟘, one as 𝟙, mul as ◌⊗◌}
  open F.series.ring use {Carrier as S, mul as ◌*ˢ◌}

  infixl 70 ◌⊗◌
  infixl 70 ◌*ˢ◌
  pub length-unscaled : (n : ℕ) (s : S) → length (unscaled F n s) ≡ n
  unfolding unscaled
  length-unscaled n s = length-tabulate n _

  pub get_or-unscaled : (n : ℕ) (s : S) (k : ℕ) → k < n
      → get_or (unscaled F n s) k 0 ≡ value F (F.series.coeff s k ⊗ inverse F (binomial F (n - 1) k))
  unfolding unscaled
  get_or-unscaled n s k l = get_or-tabulate n _ k l

  pub coefficients-unscaled : (n : ℕ) (s : S) → n ≤ F.p → Coefficients F (unscaled F n s)
  coefficients-unscaled n s l =
      coefficients F (rw (length-unscaled n s) l)
      (λ k j. rw (get_or-unscaled n s k (rw (length-unscaled n s) at j)) (value-lt F _))

  pub scaled-unscaled : (n : ℕ) {s : S} → n ≤ F.p → Below F.series n s → scaled F (unscaled F n s) ≡ s
  unfolding scaled_coefficient word naive_degree
  scaled-unscaled n {s} l h = ext F.series _ _ λ k. coeff-scaled F (unscaled F n s) k ∙ go k (dec_lt k n)
    where
      go : (k : ℕ) → Dec (k < n) → scaled_coefficient F (unscaled F n s) k ≡ F.series.coeff s k
      go k (yes j) =
          ap₂ (λ x m. residue F x ⊗ binomial F (m - 1) k) (get_or-unscaled n s k j) (length-unscaled n s)
          ∙ ap (λ x. x ⊗ binomial F (n - 1) k) (residue-value F _)
          ∙ inverse-cancel F (F.series.coeff s k) (binomial F (n - 1) k) (binomial-nonzero F (n - 1) k (omega arith) (omega arith))
      go k (no j) =
          coefficient-out F (unscaled F n s) k (let e = length-unscaled n s in omega arith) ∙ sym (h.at k (omega arith))

  word_back : (c : List ℕ) (k : ℕ) → Coefficients F c → k < length c
      → scaled_coefficient F c k ⊗ inverse F (binomial F (length c - 1) k) ≡ residue F (get_or c k 0)
  unfolding scaled_coefficient word naive_degree
  word_back c k g l =
      let s = g.short in
      inverse-cancel' F (residue F (get_or c k 0)) (binomial F (length c - 1) k) (binomial-nonzero F (length c - 1) k (omega arith) (omega arith))

  pub unscaled-scaled : (c : List ℕ) → Coefficients F c → unscaled F (length c) (scaled F c) ≡ c
  unscaled-scaled c g =
      ext_get_or 0 _ _ (length-unscaled (length c) (scaled F c)) λ k l. same k (rw (length-unscaled (length c) (scaled F c)) at l)
    where
      same : (k : ℕ) → k < length c → get_or (unscaled F (length c) (scaled F c)) k 0 ≡ get_or c k 0
      same k l =
          get_or-unscaled (length c) (scaled F c) k l
          ∙ ap (λ x. value F (x ⊗ inverse F (binomial F (length c - 1) k))) (coeff-scaled F c k)
          ∙ ap (value F) (word_back c k g l) ∙ value-residue F (get_or c k 0) (g.below k)

  -- two lists of one length with one scaled form are equal
  pub scaled-injective : (c c' : List ℕ) → Coefficients F c → Coefficients F c' → length c ≡ length c'
      → scaled F c ≡ scaled F c' → c ≡ c'
  scaled-injective c c' g g' l e = sym (unscaled-scaled c g) ∙ ap₂ (unscaled F) l e ∙ unscaled-scaled c' g'

  -- two lists of one naive degree with one meaning are equal word for word
  pub meaning-injective : (c c' : List ℕ) → Coefficients F c → Coefficients F c' → length c ≡ length c'
      → meaning F c ≡ meaning F c' → c ≡ c'
  meaning-injective c c' g g' l e = scaled-injective c c' g g' l (hom-eq F.series (naive_degree c) (below-naive F c) bound same)
    where
      d : naive_degree c ≡ naive_degree c'
      d = unfold naive_degree in ap (λ n. n - 1) l

      bound : Below F.series (suc (naive_degree c)) (scaled F c')
      bound = rw d (below-naive F c')

      same : hom F.series (naive_degree c) (scaled F c) ≡ hom F.series (naive_degree c) (scaled F c')
      same = sym (meaning-hom F c) ∙ e ∙ meaning-hom F c' ∙ ap (λ n. hom F.series n (scaled F c')) (sym d)

  -- a list of n + 1 words means its scaled form, homogenised at n
  pub meaning-unscaled : (n : ℕ) {s : S} → n < F.p → Below F.series (suc n) s → meaning F (unscaled F (suc n) s) ≡ hom F.series n s
  meaning-unscaled n {s} l h =
      meaning-hom F _
      ∙ ap₂ (hom F.series) (naive-length (unscaled F (suc n) s) n (length-unscaled (suc n) s)) (scaled-unscaled (suc n) l h)
