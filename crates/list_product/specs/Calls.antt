-- What product and raise refuse: the rows of document 01's table for each call. f and g are the lists that the call is handed, out what the
-- result slice holds on entry.
--     product_rows      over (6) where the product would have more words than the longest list
--     raise_rows          over (6) where the target asks for more words than the longest list has, backwards (7) where it is
--                                       lower than the list's naive degree
--     product_answer, product_written     what a product answers, and what its slice holds at the end
--     raise_answer, raise_written         the same of a raise
-- Assumes nothing.
use Rattle.std.specs.Prelude.{not, List, [], ◌∷◌, ◌++◌, ℕ, suc, ◌+◌, ltb, eqb, length}
use Rattle.refusal.specs.Refusal.{Reply, reply, written}
use Rattle.field.specs.Fields.{modulus, field_at, longest}
use Rattle.lists.specs.Operations.{product, raise}
use Rattle.refusal.specs.Lowest.{Condition, ◌given-when◌, lowest}
use Rattle.refusal.specs.declared.Refusal.TheVariants.{Over, Backwards, Misfit}
use Rattle.lists.specs.Degrees.{naive_degree}
use Rattle.lists.specs.Refused.{list_refusals}

unfoldable pub product_rows : (p most : ℕ) → (f g out : List ℕ) → List Condition
product_rows p most f g out =
    list_refusals p most (f ∷ g ∷ []) ++
    (Over given-when ltb most (suc (naive_degree f + naive_degree g)) ∷
    Misfit given-when not (eqb (length out) (suc (naive_degree f + naive_degree g))) ∷
    [])

unfoldable pub raise_rows : (p most : ℕ) → (f : List ℕ) → (target : ℕ) → (out : List ℕ) → List Condition
raise_rows p most f target out =
    list_refusals p most (f ∷ []) ++
    (Over given-when ltb most (suc target) ∷
    Backwards given-when ltb target (naive_degree f) ∷
    Misfit given-when not (eqb (length out) (suc target)) ∷
    [])

-- what a product answers and writes, over field k
abbrev pub product_answer : (k : ℕ) → (f g out : List ℕ) → Reply
product_answer k f g out = reply (lowest (product_rows (modulus k) (longest k) f g out)) []

abbrev pub product_written : (k : ℕ) → (f g out : List ℕ) → List ℕ
product_written k f g out = written (lowest (product_rows (modulus k) (longest k) f g out)) (product (field_at k) f g) out

-- what a raise answers and writes
abbrev pub raise_answer : (k : ℕ) → (f : List ℕ) → (target : ℕ) → (out : List ℕ) → Reply
raise_answer k f target out = reply (lowest (raise_rows (modulus k) (longest k) f target out)) []

abbrev pub raise_written : (k : ℕ) → (f : List ℕ) → (target : ℕ) → (out : List ℕ) → List ℕ
raise_written k f target out = written (lowest (raise_rows (modulus k) (longest k) f target out)) (raise (field_at k) target f) out
