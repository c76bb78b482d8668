-- Words that stand for series: what the loops of the engine need.
--     scaled_words c     the coefficients of a list's scaled form, as words
--     Carries buf s      the words are below p, and word k stands for coefficient k of the series
-- Theorems:
--     zeros-are, zero-part                       an array of zeros is 0 throughout, and so is its front
--     value-is                                   a word below p is the one that stands for its element
--     series_of-carries, carries-series_of       words carry the series that they stand for, and no other
--     series_of-scaled_words, carries-scaled     the words of a scaled form stand for it
--     carries-zero, carries-nonzero              a coefficient is 0 where its word is, and only there
-- Assumes nothing.
use mathlib.Core.Path.{◌≡◌, sym, ◌∙◌, ap}
use mathlib.Core.List.{List}
use Prim.Native.Nat.{ℕ, ◌≤◌, ◌<◌}
use native.Mathlib.Decide.{dec_lt}
use native.Mathlib.Omega.{arith}
use lib.ListN.{get_or, length, take, replicate, get_or-eq_default}
use Rattle.algebra.proofs.Series.{coeff-mk, ext}
use Rattle.algebra.specs.Polynomial.{Below}
use Rattle.algebra.specs.PrimeField.{PrimeField, scalars, positive, residue, value}
use Rattle.algebra.proofs.PrimeField.{residue-value, value-residue, value-lt, residue-0, residue-nonzero}
use Rattle.lists.specs.Tabulate.{tabulate}
use Rattle.lists.proofs.Tabulate.{length-tabulate, get_or-tabulate}
use Rattle.lists.specs.Lists.{scaled_coefficient, scaled}
use Rattle.lists.proofs.Parts.{get_or-zeros, get_or-part}
use Rattle.lists.proofs.Scaled.{coeff-scaled, below-scaled}
use Rattle.lists.specs.Words.{ZeroFrom, series_of}

pub zero-later : {n m : ℕ} {buf : List ℕ} → n ≤ m → ZeroFrom n buf → ZeroFrom m buf
zero-later l z = record { at = λ k h. z.at k (omega arith) }

pub zeros-are : (n : ℕ) → ZeroFrom 0 (replicate n 0)
zeros-are n = record { at = λ k l. get_or-zeros n k }

pub zero-part : (n : ℕ) {buf : List ℕ} → ZeroFrom 0 buf → ZeroFrom 0 (take n buf)
zero-part n {buf} z = record { at = λ k l. get_or-part buf n (λ j. z.at j (omega arith)) k }

module _ (F : PrimeField) where
  open scalars F use {Carrier as K, zero as 𝟘}
  open F.series.ring use {Carrier as S}

  -- the word that stands for an element
  pub value-is : (w : ℕ) (a : K) → w < F.p → residue F w ≡ a → w ≡ value F a
  value-is w a l e = sym (value-residue F w l) ∙ ap (value F) e

  pub coeff-series_of : (l : List ℕ) (k : ℕ) → F.series.coeff (series_of F l) k ≡ residue F (get_or l k 0)
  unfolding series_of
  coeff-series_of l k = coeff-mk F.series _ k

  unfoldable pub scaled_words : List ℕ → List ℕ
  scaled_words c = tabulate (length c) (λ k. value F (scaled_coefficient F c k))

  pub length-scaled_words : (c : List ℕ) → length (scaled_words c) ≡ length c
  unfolding scaled_words
  length-scaled_words c = length-tabulate (length c) _

  pub get_or-scaled_words : (c : List ℕ) (k : ℕ) → k < length c → get_or (scaled_words c) k 0 ≡ value F (scaled_coefficient F c k)
  unfolding scaled_words
  get_or-scaled_words c k l = get_or-tabulate (length c) _ k l

  pub below-scaled_words : (c : List ℕ) (k : ℕ) → get_or (scaled_words c) k 0 < F.p
  below-scaled_words c k = go (dec_lt k (length c))
    where
      go : Dec (k < length c) → get_or (scaled_words c) k 0 < F.p
      go (yes l) = rw (get_or-scaled_words c k l) (value-lt F _)
      go (no l) =
          let e = length-scaled_words c in
          rw (get_or-eq_default (scaled_words c) 0 {n = k} (omega arith)) (positive F)

  pub series_of-scaled_words : (c : List ℕ) → series_of F (scaled_words c) ≡ scaled F c
  series_of-scaled_words c = ext F.series _ _ λ k. coeff-series_of (scaled_words c) k ∙ go k (dec_lt k (length c))
    where
      go : (k : ℕ) → Dec (k < length c) → residue F (get_or (scaled_words c) k 0) ≡ F.series.coeff (scaled F c) k
      go k (yes l) = ap (residue F) (get_or-scaled_words c k l) ∙ residue-value F _ ∙ sym (coeff-scaled F c k)
      go k (no l) =
          let e = length-scaled_words c in
          ap (residue F) (get_or-eq_default (scaled_words c) 0 (omega arith)) ∙ residue-0 F
          ∙ sym ((below-scaled F c).at k (omega arith))

  pub record Carries (buf : List ℕ) (s : S) : Type 0 where
    pub below : (k : ℕ) → get_or buf k 0 < F.p
    pub at : (k : ℕ) → residue F (get_or buf k 0) ≡ F.series.coeff s k

  pub carries-series_of : {buf : List ℕ} → ((k : ℕ) → get_or buf k 0 < F.p) → Carries buf (series_of F buf)
  carries-series_of {buf} h = record { below = h; at = λ k. sym (coeff-series_of buf k) }

  -- words that stand for a series are that series
  pub series_of-carries : {buf : List ℕ} {s : S} → Carries buf s → series_of F buf ≡ s
  series_of-carries {buf} c = ext F.series _ _ λ k. coeff-series_of buf k ∙ c.at k

  pub carries-below : {buf : List ℕ} {s : S} → Carries buf s → Below F.series (length buf) s
  carries-below {buf} {s} c =
      record { at = λ k l. sym (c.at k) ∙ ap (residue F) (get_or-eq_default buf 0 l) ∙ residue-0 F }

  -- the words of a scaled form stand for it
  pub carries-scaled : (c : List ℕ) → Carries (scaled_words c) (scaled F c)
  carries-scaled c = rw (← series_of-scaled_words c) (carries-series_of (λ k. low k (dec_lt k (length c))))
    where
      low : (k : ℕ) → Dec (k < length c) → get_or (scaled_words c) k 0 < F.p
      low k (yes l) = rw (get_or-scaled_words c k l) (value-lt F _)
      low k (no l) =
          let e = length-scaled_words c in
          rw (get_or-eq_default (scaled_words c) 0 {n = k} (omega arith)) (positive F)

  -- the tests of a search for the last word that is not 0
  pub carries-zero : {buf : List ℕ} {s : S} → Carries buf s → (k : ℕ) → get_or buf k 0 ≡ 0 → F.series.coeff s k ≡ 𝟘
  carries-zero c k e = sym (c.at k) ∙ ap (residue F) e ∙ residue-0 F

  pub carries-nonzero : {buf : List ℕ} {s : S} → Carries buf s → (k : ℕ) → ¬ (get_or buf k 0 ≡ 0) → ¬ (F.series.coeff s k ≡ 𝟘)
  carries-nonzero c k h e = residue-nonzero F _ (c.below k) h (c.at k ∙ e)
