-- Document 01's sums P1 to P10: one table, and one theorem that each row is what the definitions give that the calls' contracts cite.
--     Operation     an operation with its inputs
--     results       the words and numbers that the definitions give; of a GCD h, then w, c and rounds, then a and b
--     Row, _is_     an operation and what document 01 expects of it
--     table         P1 to P10, in order
--     worked        of every row of the table, what is given is what is expected: by computation
-- Assumes nothing.
use Rattle.std.specs.Prelude.{◌≡◌, refl, Bool, true, List, [], ◌∷◌, map, ℕ}
use Rattle.algebra.specs.Sum.{total}
use Rattle.algebra.specs.Choose.{choose}
use Rattle.field.specs.Fields as A
use Rattle.field.specs.Fields.{F65521}
use Rattle.lists.specs.Tabulate.{tabulate}
use Rattle.lists.specs.Degrees.{naive_degree, significant_in, significant, extent, power}
use Rattle.lists.specs.Lists.{word, binomial, scaled_coefficient, scaled, unscaled}
use Rattle.lists.specs.Operations.{product_at, raise_at, derivative_at}
use Rattle.lists.specs.Operations as of
use Rattle.euclid_theory.specs.Division.{steps, quotient_of, remainder_of}
use Rattle.euclid_theory.specs.Gcd.{room, identity_degree, powers, least, common_power, euclid_of, gcd_of, rounds_of, cofactor_a, cofactor_b}
use Rattle.list_gcd.specs.Calls.{gcd_values}

pub data Operation : Type 0 where
  product : (f g : List ℕ) → Operation
  raise : (f : List ℕ) (n : ℕ) → Operation
  division : (g f : List ℕ) → Operation
  gcd : (f g : List ℕ) → Operation
  derivative : (f : List ℕ) → Operation

abbrev pub results : Operation → List (List ℕ)
results (product f g) = of.product F65521 f g ∷ []
results (raise f n) = of.raise F65521 n f ∷ []
results (division g f) = quotient_of F65521 g f ∷ remainder_of F65521 g f ∷ []
results (gcd f g) = gcd_of F65521 f g ∷ gcd_values F65521 f g ∷ cofactor_a F65521 f g ∷ cofactor_b F65521 f g ∷ []
results (derivative f) = of.derivative F65521 f ∷ []

pub record Row : Type 0 where
  pub operation : Operation
  pub expected : List (List ℕ)

infix 68 ◌is◌
abbrev pub ◌is◌ : Operation → List (List ℕ) → Row
operation is expected = record { operation = operation; expected = expected }

abbrev pub table : List Row
table =
    (product (0 ∷ 1 ∷ []) (1 ∷ 0 ∷ []) is ((0 ∷ 32761 ∷ 0 ∷ []) ∷ [])) ∷
    (raise (0 ∷ 1 ∷ []) 3 is ((0 ∷ 43681 ∷ 21841 ∷ 1 ∷ []) ∷ [])) ∷
    (division (1 ∷ 0 ∷ 1 ∷ []) (1 ∷ 1 ∷ []) is ((65520 ∷ 1 ∷ []) ∷ (2 ∷ []) ∷ [])) ∷
    (division (3 ∷ 4 ∷ []) (2 ∷ []) is ((32762 ∷ 2 ∷ []) ∷ [] ∷ [])) ∷
    (gcd (0 ∷ 1 ∷ []) (0 ∷ 0 ∷ 1 ∷ []) is ((0 ∷ 1 ∷ []) ∷ (1 ∷ 0 ∷ 1 ∷ []) ∷ (1 ∷ 0 ∷ []) ∷ (0 ∷ []) ∷ [])) ∷
    (gcd (1 ∷ 0 ∷ []) (1 ∷ 0 ∷ 0 ∷ []) is ((1 ∷ []) ∷ (0 ∷ 1 ∷ 1 ∷ []) ∷ (1 ∷ 0 ∷ []) ∷ (0 ∷ []) ∷ [])) ∷
    (gcd (0 ∷ 1 ∷ []) (1 ∷ 0 ∷ []) is ((1 ∷ []) ∷ (0 ∷ 0 ∷ 2 ∷ []) ∷ (0 ∷ []) ∷ (1 ∷ []) ∷ [])) ∷
    (gcd (0 ∷ 0 ∷ []) (0 ∷ 2 ∷ []) is ((0 ∷ 1 ∷ []) ∷ (1 ∷ 0 ∷ 0 ∷ []) ∷ (0 ∷ []) ∷ (32761 ∷ []) ∷ [])) ∷
    (gcd (0 ∷ 32761 ∷ 1 ∷ []) (0 ∷ 32761 ∷ 0 ∷ []) is ((0 ∷ 1 ∷ []) ∷ (1 ∷ 0 ∷ 2 ∷ []) ∷ (0 ∷ 0 ∷ []) ∷ (1 ∷ 0 ∷ []) ∷ [])) ∷
    (derivative (0 ∷ 0 ∷ 1 ∷ []) is ((0 ∷ 2 ∷ []) ∷ [])) ∷
    []

-- the definitions that the computation opens
unfoldable pub computes : Bool
unfolding A.computes total choose tabulate naive_degree significant_in significant extent power word binomial scaled_coefficient scaled unscaled product_at of.product raise_at of.raise derivative_at of.derivative steps quotient_of remainder_of room identity_degree powers least common_power euclid_of gcd_of rounds_of cofactor_a cofactor_b gcd_values
computes = true

pub worked : map (λ row. results row.operation) table ≡ map (λ row. row.expected) table
unfolding computes
worked = refl
