-- What division refuses, and what it promises. g is the dividend, of naive degree e, f the divisor, of naive degree d.
--     divide_rows           backwards (7) where the dividend is shorter, vanishes (8) where the divisor's last word is 0; q of e - d + 1
--                          words, r of d words
--     divide_answer         what a division answers over field k
--     quotient_written      what the slice q holds at the end: the quotient
--     remainder_written     what the slice r holds at the end: the remainder
--     DividesSo             g = q·f + (1-t)^(e-d+1)·r as polynomials in t, and with any other words below p, in the same two lengths,
--                          that equation fails
-- Assumes nothing.
use Rattle.std.specs.Prelude.{◌≡◌, not, ◌||◌, List, [], ◌∷◌, ◌++◌, ℕ, ltb, eqb, get_or, length}
use Rattle.algebra.specs.PrimeField.{PrimeField}
use Rattle.refusal.specs.Refusal.{Reply, reply, written}
use Rattle.refusal.specs.Lowest.{Condition, ◌given-when◌, lowest}
use Rattle.refusal.specs.declared.Refusal.TheVariants.{Backwards, Vanishes, Misfit}
use Rattle.field.specs.Fields.{modulus, field_at, longest}
use Rattle.lists.specs.Degrees.{naive_degree}
use Rattle.lists.specs.Lists.{Coefficients}
use Rattle.lists.specs.Refused.{list_refusals}
use Rattle.euclid_theory.specs.Division.{steps, quotient_of, remainder_of, Equation}

unfoldable pub divide_rows : (p most : ℕ) → (g f q r : List ℕ) → List Condition
divide_rows p most g f q r =
    list_refusals p most (g ∷ f ∷ []) ++
    (Backwards given-when ltb (length g) (length f) ∷
    Vanishes given-when eqb (get_or f (naive_degree f) 0) 0 ∷
    Misfit given-when (not (eqb (length q) (steps g f)) || not (eqb (length r) (naive_degree f))) ∷
    [])

abbrev pub divide_answer : (k : ℕ) → (g f q r : List ℕ) → Reply
divide_answer k g f q r = reply (lowest (divide_rows (modulus k) (longest k) g f q r)) []

abbrev pub quotient_written : (k : ℕ) → (g f q r : List ℕ) → List ℕ
quotient_written k g f q r =
    written (lowest (divide_rows (modulus k) (longest k) g f q r)) (quotient_of (field_at k) g f) q

abbrev pub remainder_written : (k : ℕ) → (g f q r : List ℕ) → List ℕ
remainder_written k g f q r =
    written (lowest (divide_rows (modulus k) (longest k) g f q r)) (remainder_of (field_at k) g f) r

pub record DividesSo (F : PrimeField) (g f q r : List ℕ) : Type 0 where
  pub quotient-words : length q ≡ steps g f
  pub remainder-words : length r ≡ naive_degree f
  pub holds : Equation F g f q r
  pub only : (q' r' : List ℕ) → Coefficients F q' → Coefficients F r' → length q' ≡ length q → length r' ≡ length r →
      Equation F g f q' r' → (q' ≡ q) × (r' ≡ r)
