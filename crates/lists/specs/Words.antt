-- Words that stand for series.
--     ZeroFrom n buf     from word n on every word is 0
--     Tight p x          no word of x is loose: each is below p
--     series_of l        the series whose coefficient k is word k
--     Low n buf s        the words are below p, and the first n stand for the coefficients of s
-- Theorems (proofs/Words):
--     series_of-scaled_words     the words of a list's scaled form stand for it
-- Assumes nothing.
use Rattle.std.specs.Prelude.{◌≡◌, List, ℕ, ◌≤◌, ◌<◌, get_or}
use Rattle.algebra.specs.PrimeField.{PrimeField, residue}

pub record ZeroFrom (n : ℕ) (buf : List ℕ) : Type 0 where
  pub at : (k : ℕ) → n ≤ k → get_or buf k 0 ≡ 0

pub record Tight (p : ℕ) (x : List ℕ) : Type 0 where
  pub at : (k : ℕ) → get_or x k 0 < p

module _ (F : PrimeField) where
  open F.series.ring use {Carrier as S}

  unfoldable pub series_of : List ℕ → S
  series_of l = F.series.mk (λ k. residue F (get_or l k 0))

  pub record Low (n : ℕ) (buf : List ℕ) (s : S) : Type 0 where
    pub below : (k : ℕ) → get_or buf k 0 < F.p
    pub at : (k : ℕ) → k < n → residue F (get_or buf k 0) ≡ F.series.coeff s k
