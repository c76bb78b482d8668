-- What derivative refuses: the rows of document 01's table for the call. f is the list that the call is handed, out what the result slice
-- holds on entry.
--     derivative_words                        the number of words of a derivative: n, and 1 for n = 0
--     derivative_rows     of derivative
--     derivative_answer, derivative_written     what a derivative answers, and what its slice holds at the end
-- Assumes nothing.
use Rattle.std.specs.Prelude.{not, List, [], ◌∷◌, ◌++◌, ℕ, max, eqb, length}
use Rattle.refusal.specs.Refusal.{Reply, reply, written}
use Rattle.field.specs.Fields.{modulus, field_at, longest}
use Rattle.lists.specs.Operations.{derivative}
use Rattle.refusal.specs.Lowest.{Condition, ◌given-when◌, lowest}
use Rattle.refusal.specs.declared.Refusal.TheVariants.{Misfit}
use Rattle.lists.specs.Degrees.{naive_degree}
use Rattle.lists.specs.Refused.{list_refusals}

unfoldable pub derivative_words : List ℕ → ℕ
derivative_words f = max (naive_degree f) 1

unfoldable pub derivative_rows : (p most : ℕ) → (f out : List ℕ) → List Condition
derivative_rows p most f out =
    list_refusals p most (f ∷ []) ++
    (Misfit given-when not (eqb (length out) (derivative_words f)) ∷
    [])

-- what a derivative answers and writes, over field k
abbrev pub derivative_answer : (k : ℕ) → (f out : List ℕ) → Reply
derivative_answer k f out = reply (lowest (derivative_rows (modulus k) (longest k) f out)) []

abbrev pub derivative_written : (k : ℕ) → (f out : List ℕ) → List ℕ
derivative_written k f out = written (lowest (derivative_rows (modulus k) (longest k) f out)) (derivative (field_at k) f) out
