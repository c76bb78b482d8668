-- What a lent slice holds afterwards that is offered some values, and what an answer says.
--     fitted              the values where the slice has exactly their number, else what it held before
--     told_reply v r      the reply of a call, as the numbers that v makes of what it hands back
-- Assumes nothing.
use Rattle.std.specs.Prelude.{cond, Result, Ok, Err, List, [], ℕ, eqb, length}
use Rattle.refusal.specs.Refusal.{Reply, number}
use Rattle.refusal.specs.declared.Refusal.{Refusal}

abbrev pub fitted : (values old : List ℕ) → List ℕ
fitted values old = cond (eqb (length old) (length values)) values old

abbrev pub told_reply : {A : Type 0} → (A → List ℕ) → Result A Refusal → Reply
told_reply values (Ok x) = record { number = 0; values = values x }
told_reply values (Err why) = record { number = number why; values = [] }
