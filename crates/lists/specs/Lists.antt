-- Lists of words and what they mean. A list has n + 1 words c_0 to c_n, c_0 first.
--     Coefficients c             at most p words (so that no binomial coefficient of the list is 0 in the field), each below p
--     word c k                   c_k as an element of the field
--     binomial n k               the binomial coefficient C(n,k) as an element of the field
--     scaled_coefficient c k     c_k · C(n,k)
--     meaning c                  document 01's P(t), the sum of c_k · C(n,k) · t^k · (1-t)^(n-k)
--     scaled c                   document 01's scaled form S, the sum of c_k · C(n,k) · u^k
--     unscaled n s               the list of n words whose scaled form is s
-- Theorems, each in the module of proofs/ that is named:
--     meaning-hom                          the meaning is the scaled form, homogenised at the naive degree (Scaled)
--     scaled-unscaled, unscaled-scaled     the list of a scaled form, and the scaled form of a list, undo each other (Unscaled)
--     scaled-injective                     two lists of one length with one scaled form are equal (Unscaled)
--     meaning-injective                    two lists of one naive degree with one meaning are equal word for word (Unscaled)
-- Assumes nothing.
use Rattle.std.specs.Prelude.{List, ℕ, ◌-◌, ◌≤◌, ◌<◌, get_or, length}
use Rattle.algebra.specs.Ring.{pow}
use Rattle.algebra.specs.Series.{C, t}
use Rattle.algebra.specs.OneMinusT.{⟨1-t⟩^}
use Rattle.algebra.specs.Sum.{sum}
use Rattle.algebra.specs.Choose.{choose}
use Rattle.algebra.specs.PrimeField.{PrimeField, scalars, residue, value, inverse}
use Rattle.lists.specs.Tabulate.{tabulate}
use Rattle.lists.specs.Degrees.{naive_degree}

module _ (F : PrimeField) where
  open scalars F use {Carrier as K, mul as ◌⊗◌}
  open F.series.ring use {Carrier as S, mul as ◌*ˢ◌}

  infixl 70 ◌⊗◌
  infixl 70 ◌*ˢ◌
  pub record Coefficients (c : List ℕ) : Type 0 where
    pub short : length c ≤ F.p
    pub below : (k : ℕ) → get_or c k 0 < F.p

  unfoldable pub word : List ℕ → ℕ → K
  word c k = residue F (get_or c k 0)

  unfoldable pub binomial : ℕ → ℕ → K
  binomial n k = residue F (choose n k)

  unfoldable pub scaled_coefficient : List ℕ → ℕ → K
  scaled_coefficient c k = word c k ⊗ binomial (naive_degree c) k

  unfoldable pub meaning : List ℕ → S
  meaning c =
      sum F.series (length c)
      (λ k. C F.series (scaled_coefficient c k) *ˢ pow F.series.ring (t F.series) k *ˢ ⟨1-t⟩^ F.series (naive_degree c - k))

  unfoldable pub scaled : List ℕ → S
  scaled c = F.series.mk (scaled_coefficient c)

  unfoldable pub unscaled : ℕ → S → List ℕ
  unscaled n s = tabulate n (λ k. value F (F.series.coeff s k ⊗ inverse F (binomial (n - 1) k)))
