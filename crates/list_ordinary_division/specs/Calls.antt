-- What division in the usual sense refuses. g is the dividend, f the divisor.
--     ordinary_rows                 all zero (9) where the divisor is zero; q and r each of as many words as g. Backwards (7) and vanishes
--                                  (8) are not among the rows: the divisor may be longer than g and may vanish at 1
--     ordinary_answer                what the division answers over field k
--     ordinary_quotient_written      what the slice q holds at the end: the quotient
--     ordinary_remainder_written     what the slice r holds at the end: the remainder
-- Assumes nothing.
use Rattle.std.specs.Prelude.{not, ◌||◌, List, [], ◌∷◌, ◌++◌, ℕ, eqb, length}
use Rattle.refusal.specs.Refusal.{Reply, reply, written}
use Rattle.refusal.specs.Lowest.{Condition, ◌given-when◌, lowest}
use Rattle.refusal.specs.declared.Refusal.TheVariants.{AllZero, Misfit}
use Rattle.field.specs.Fields.{modulus, field_at, longest}
use Rattle.lists.specs.Degrees.{significant}
use Rattle.lists.specs.Refused.{list_refusals}
use Rattle.ordinary_theory.specs.Ordinary.{ordinary_quotient, ordinary_remainder}

unfoldable pub ordinary_rows : (p most : ℕ) → (g f q r : List ℕ) → List Condition
ordinary_rows p most g f q r =
    list_refusals p most (g ∷ f ∷ []) ++
    (AllZero given-when eqb (significant f) 0 ∷
    Misfit given-when (not (eqb (length q) (length g)) || not (eqb (length r) (length g))) ∷
    [])

abbrev pub ordinary_answer : (k : ℕ) → (g f q r : List ℕ) → Reply
ordinary_answer k g f q r = reply (lowest (ordinary_rows (modulus k) (longest k) g f q r)) []

abbrev pub ordinary_quotient_written : (k : ℕ) → (g f q r : List ℕ) → List ℕ
ordinary_quotient_written k g f q r =
    written (lowest (ordinary_rows (modulus k) (longest k) g f q r)) (ordinary_quotient (field_at k) g f) q

abbrev pub ordinary_remainder_written : (k : ℕ) → (g f q r : List ℕ) → List ℕ
ordinary_remainder_written k g f q r =
    written (lowest (ordinary_rows (modulus k) (longest k) g f q r)) (ordinary_remainder (field_at k) g f) r
