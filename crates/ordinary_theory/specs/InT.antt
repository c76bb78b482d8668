-- Lists as polynomials in t.
--     size_in_t c        the number of coefficients of the meaning P(t) up to the last one that is not 0: the degree in t and 1, and 0 for a
--                      zero list
--     degree_in_t c      the degree in t of a list that is not zero: document 02's, after all raising is undone
--     list_of e P       the list of naive degree e that means the polynomial P(t), of degree at most e: its scaled form is the sum of
--                      P_j · u^j · (1+u)^(e-j)
--     power_words c     the coefficients of 1, t, t², … in the meaning, as words
--     lowered c         a list with all raising undone: the list of the least naive degree that means the same
-- Theorems, each in the module of proofs/ that is named:
--     degree_in_t-is                       the degree in t is the degree of the meaning (InT)
--     size_in_t-same, size_in_t-raise      lists with one meaning have one degree in t, so raising does not change it (InT)
--     meaning-list_of, list_of-meaning     the list of P means P, and no other list of that length does (InT)
--     degree-raised                        the degree in t of (1-t)^n · c is n more than that of c (InT)
--     raise-lowered, lowered-least         a list is its lowered one, raised, and nothing shorter raises to it (Lowered)
-- Assumes nothing.
use Rattle.std.specs.Prelude.{List, ℕ, suc, ◌-◌, length}
use Rattle.algebra.specs.Degree.{size}
use Rattle.algebra.specs.PrimeField.{PrimeField, scalar_field, value}
use Rattle.lists.specs.Tabulate.{tabulate}
use Rattle.lists.specs.Lists.{meaning, unscaled}
use Rattle.ordinary_theory.specs.Form.{form}

module _ (F : PrimeField) where
  open F.series.ring use {Carrier as S}

  unfoldable pub size_in_t : List ℕ → ℕ
  size_in_t c = size F.series (scalar_field F) (length c) (meaning F c)

  unfoldable pub degree_in_t : List ℕ → ℕ
  degree_in_t c = size_in_t c - 1

  unfoldable pub list_of : ℕ → S → List ℕ
  list_of e P = unscaled F (suc e) (form F.series e P)

  unfoldable pub power_words : List ℕ → List ℕ
  power_words c = tabulate (length c) (λ k. value F (F.series.coeff (meaning F c) k))

  unfoldable pub lowered : List ℕ → List ℕ
  lowered c = list_of (degree_in_t c) (meaning F c)
