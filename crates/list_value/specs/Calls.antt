-- What evaluate refuses: the rows of document 01's table for the call. f is the list that the call is handed, x the point.
--     evaluate_rows     loose word (5) also for the point
--     evaluate_answer     what an evaluation answers: the value
-- Assumes nothing.
use Rattle.std.specs.Prelude.{◌||◌, List, [], ◌∷◌, ℕ}
use Rattle.refusal.specs.Refusal.{Reply, reply}
use Rattle.field.specs.Fields.{modulus, field_at, longest}
use Rattle.lists.specs.Operations.{evaluate}
use Rattle.refusal.specs.Lowest.{Condition, ◌given-when◌, lowest}
use Rattle.refusal.specs.declared.Refusal.TheVariants.{Length, LooseWord}
use Rattle.field.specs.Field.{loose}
use Rattle.lists.specs.Refused.{wrong_length, has_loose}

unfoldable pub evaluate_rows : (p most : ℕ) → List ℕ → ℕ → List Condition
evaluate_rows p most f x =
    Length given-when wrong_length most f ∷
    LooseWord given-when (has_loose p f || loose p x) ∷
    []

-- what an evaluation answers, over field k
abbrev pub evaluate_answer : (k : ℕ) → List ℕ → ℕ → Reply
evaluate_answer k f x = reply (lowest (evaluate_rows (modulus k) (longest k) f x)) (evaluate (field_at k) f x ∷ [])
