-- Division in the usual sense, by computation. The table: document 01's P3, whose divisor is the constant 1; a divisor [3,3], the constant 3;
-- a divisor longer than the dividend, of degree 0 in t; a dividend of a smaller degree in t than the divisor; a zero dividend; a divisor
-- none of whose words is 0 and whose degree in t is below its naive degree; a divisor that vanishes at 1.
--     Row, row, table           a dividend and a divisor with their quotient and remainder
-- Theorems:
--     quotients, remainders     of every row of the table
--     degrees                   some degrees in t
-- Assumes nothing.
use mathlib.Core.Path.{◌≡◌, refl}
use mathlib.Core.Bool.{Bool, true}
use mathlib.Core.List.{List, [], ◌∷◌, map}
use Prim.Native.Nat.{ℕ}
use Rattle.field.specs.Fields as A
use Rattle.field.specs.Fields.{F65521}
use Rattle.lists.specs.Tabulate.{tabulate}
use Rattle.lists.specs.Degrees.{naive_degree}
use Rattle.lists.specs.Lists.{word, binomial, scaled_coefficient, meaning, unscaled}
use Rattle.ordinary_theory.specs.Form.{form_term, form}
use Rattle.ordinary_theory.specs.InT.{size_in_t, degree_in_t, list_of}
use Rattle.ordinary_theory.specs.Ordinary.{ordinary_quotient, ordinary_remainder}

pub record Row : Type 0 where
  pub dividend : List ℕ
  pub divisor : List ℕ
  pub quotient : List ℕ
  pub remainder : List ℕ

abbrev pub row : (g f q r : List ℕ) → Row
row g f q r = record { dividend = g; divisor = f; quotient = q; remainder = r }

abbrev pub table : List Row
table =
    row (1 ∷ 0 ∷ 1 ∷ []) (1 ∷ 1 ∷ []) (1 ∷ 0 ∷ 1 ∷ []) (0 ∷ 0 ∷ 0 ∷ []) ∷
    row (6 ∷ 9 ∷ []) (3 ∷ 3 ∷ []) (2 ∷ 3 ∷ []) (0 ∷ 0 ∷ []) ∷
    row (4 ∷ []) (2 ∷ 2 ∷ 2 ∷ []) (2 ∷ []) (0 ∷ []) ∷
    row (1 ∷ 2 ∷ []) (0 ∷ 0 ∷ 1 ∷ []) (0 ∷ 0 ∷ []) (1 ∷ 2 ∷ []) ∷
    row (0 ∷ 0 ∷ []) (0 ∷ 1 ∷ []) (0 ∷ 0 ∷ []) (0 ∷ 0 ∷ []) ∷
    row (0 ∷ 0 ∷ 1 ∷ []) (1 ∷ 2 ∷ 3 ∷ []) (16380 ∷ 0 ∷ 49141 ∷ []) (49141 ∷ 49141 ∷ 49141 ∷ []) ∷
    row (0 ∷ 0 ∷ 1 ∷ []) (1 ∷ 0 ∷ []) (65520 ∷ 32759 ∷ 65519 ∷ []) (1 ∷ 1 ∷ 1 ∷ []) ∷
    []

-- the definitions that the computation opens
unfoldable computes : Bool
unfolding A.computes tabulate naive_degree word binomial scaled_coefficient meaning unscaled form_term form size_in_t degree_in_t list_of
    ordinary_quotient ordinary_remainder
computes = true

pub quotients : map (λ r. ordinary_quotient F65521 r.dividend r.divisor) table ≡ map (λ r. r.quotient) table
unfolding computes
quotients = refl

pub remainders : map (λ r. ordinary_remainder F65521 r.dividend r.divisor) table ≡ map (λ r. r.remainder) table
unfolding computes
remainders = refl

-- [3,3] and [1,2,3] have degree 0 and 1 in t, [1,1,1] after all raising is undone is the constant 1
pub degrees : map (degree_in_t F65521) ((3 ∷ 3 ∷ []) ∷ (1 ∷ 2 ∷ 3 ∷ []) ∷ (1 ∷ 1 ∷ 1 ∷ []) ∷ (0 ∷ 0 ∷ 1 ∷ []) ∷ []) ≡ 0 ∷ 1 ∷ 0 ∷ 2 ∷ []
unfolding computes
degrees = refl
