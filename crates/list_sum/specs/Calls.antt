-- What sum and difference refuse: the rows of document 01's table for each call. f and g are the lists that the call is handed, out what the
-- result slice holds on entry.
--     sum_rows      of sum and difference alike
--     sum_answer                          what both answer
--     sum_written, difference_written     what the slice holds at the end
-- Assumes nothing.
use Rattle.std.specs.Prelude.{not, List, [], ◌∷◌, ◌++◌, ℕ, suc, max, eqb, length}
use Rattle.refusal.specs.Refusal.{Reply, reply, written}
use Rattle.field.specs.Fields.{modulus, field_at, longest}
use Rattle.lists.specs.Operations.{sum_of, difference_of}
use Rattle.refusal.specs.Lowest.{Condition, ◌given-when◌, lowest}
use Rattle.refusal.specs.declared.Refusal.TheVariants.{Misfit}
use Rattle.lists.specs.Degrees.{naive_degree}
use Rattle.lists.specs.Refused.{list_refusals}

unfoldable pub sum_rows : (p most : ℕ) → (f g out : List ℕ) → List Condition
sum_rows p most f g out =
    list_refusals p most (f ∷ g ∷ []) ++
    (Misfit given-when not (eqb (length out) (suc (max (naive_degree f) (naive_degree g)))) ∷
    [])

-- what a sum answers and writes, over field k; a difference answers the same
abbrev pub sum_answer : (k : ℕ) → (f g out : List ℕ) → Reply
sum_answer k f g out = reply (lowest (sum_rows (modulus k) (longest k) f g out)) []

abbrev pub sum_written : (k : ℕ) → (f g out : List ℕ) → List ℕ
sum_written k f g out = written (lowest (sum_rows (modulus k) (longest k) f g out)) (sum_of (field_at k) f g) out

abbrev pub difference_written : (k : ℕ) → (f g out : List ℕ) → List ℕ
difference_written k f g out = written (lowest (sum_rows (modulus k) (longest k) f g out)) (difference_of (field_at k) f g) out
