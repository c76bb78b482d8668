-- What the cofactors of a GCD refuse, answer, write and promise; the values of the answer are those of the GCD.
--     cofactor_rows           the rows of the GCD, and misfit (10) unless a has m - d + 1 words and b has m - e + 1
--     cofactor_answer         what the call answers over field k: w, c and rounds
--     cofactor_gcd            what the slice h holds at the end: h, zeros after it
--     cofactors_written_a     what the slice a holds at the end: a
--     cofactors_written_b     what the slice b holds at the end: b
--     CofactorsSo             a·f + b·g = (1-t)^(m-w)·h with document 01's conditions on a and b (AreCofactors), and any other pair of lists
--                           that meets them is this pair
--     Cofactors             the same of an answer that is no refusal
-- Assumes nothing.
use Rattle.refusal.specs.declared.Refusal.{Refusal}
use Rattle.std.specs.Prelude.{◌≡◌, not, List, [], ◌∷◌, ◌++◌, ℕ, suc, ◌-◌, eqb, length, Ok, Err, Result}
use Rattle.algebra.specs.PrimeField.{PrimeField}
use Rattle.refusal.specs.Refusal.{Reply, reply, written}
use Rattle.refusal.specs.Lowest.{Condition, ◌given-when◌, lowest}
use Rattle.refusal.specs.declared.Refusal.TheVariants.{Misfit}
use Rattle.field.specs.Fields.{modulus, field_at, longest}
use Rattle.lists.specs.Degrees.{naive_degree}
use Rattle.lists.specs.Padded.{padded}
use Rattle.euclid_theory.specs.Gcd.{identity_degree, gcd_of, cofactor_a, cofactor_b}
use Rattle.euclid_theory.specs.Cofactors.{AreCofactors}
use Rattle.list_gcd.specs.Calls.{gcd_values, gcd_rows}
use Rattle.list_gcd.specs.declared.Gcd.{Gcd}

unfoldable pub cofactor_rows : (p most : ℕ) → (f g h a b : List ℕ) → List Condition
cofactor_rows p most f g h a b =
    gcd_rows p most f g h ++
    (Misfit given-when not (eqb (length a) (suc (identity_degree f g - naive_degree f))) ∷
    Misfit given-when not (eqb (length b) (suc (identity_degree f g - naive_degree g))) ∷
    [])

abbrev pub cofactor_answer : (k : ℕ) → (f g h a b : List ℕ) → Reply
cofactor_answer k f g h a b =
    reply (lowest (cofactor_rows (modulus k) (longest k) f g h a b)) (gcd_values (field_at k) f g)

abbrev pub cofactor_gcd : (k : ℕ) → (f g h a b : List ℕ) → List ℕ
cofactor_gcd k f g h a b =
    written (lowest (cofactor_rows (modulus k) (longest k) f g h a b)) (padded (longest k) (gcd_of (field_at k) f g)) h

abbrev pub cofactors_written_a : (k : ℕ) → (f g h a b : List ℕ) → List ℕ
cofactors_written_a k f g h a b =
    written (lowest (cofactor_rows (modulus k) (longest k) f g h a b)) (cofactor_a (field_at k) f g) a

abbrev pub cofactors_written_b : (k : ℕ) → (f g h a b : List ℕ) → List ℕ
cofactors_written_b k f g h a b =
    written (lowest (cofactor_rows (modulus k) (longest k) f g h a b)) (cofactor_b (field_at k) f g) b

pub record CofactorsSo (F : PrimeField) (f g a b : List ℕ) : Type 0 where
  pub meet : AreCofactors F f g a b
  pub only : (a' b' : List ℕ) → AreCofactors F f g a' b' → (a' ≡ a) × (b' ≡ b)

abbrev pub Cofactors : PrimeField → (f g a b : List ℕ) → Result Gcd Refusal → Type 0
Cofactors F f g a b (Ok gcd) = CofactorsSo F f g a b
Cofactors F f g a b (Err why) = Unit {0}
