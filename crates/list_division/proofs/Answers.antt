-- What a division promises.
-- Assumes nothing.
use mathlib.Core.Path.{◌∙◌}
use mathlib.Core.List.{List}
use Prim.Native.Nat.{ℕ}
use Rattle.algebra.specs.PrimeField.{PrimeField}
use Rattle.euclid_theory.specs.Division.{quotient_of, remainder_of, Divisible}
use Rattle.euclid_theory.proofs.Division.{length-quotient, length-remainder, division-identity, division-only}
use Rattle.list_division.specs.Calls.{DividesSo}

-- the quotient and the remainder keep the promise
pub divides-so : (F : PrimeField) (g f : List ℕ) → Divisible F g f → DividesSo F g f (quotient_of F g f) (remainder_of F g f)
divides-so F g f h =
    record {
      quotient-words = length-quotient F g f;
      remainder-words = length-remainder F g f;
      holds = division-identity F g f h;
      only =
          λ q r cq cr lq lr e. division-only F g f h q r cq cr (lq ∙ length-quotient F g f) (lr ∙ length-remainder F g f) e;
    }
