-- The refusals of document 01's table and of the orders, and what a caller learns from an answer.
--     Outcome               the answer of a call that hands back no value: Ok, or a refusal
--     number why            the number of a refusal
--     outcome_number o      the same of an outcome: 0 when the call completes
--     Reply                 what an answer says: its number, 0 when the call completes, and the values that it carries
--     reply o values        the reply of an outcome with the values of a completed call: a refused call carries none
--     outcome_reply o       the reply of such a call
--     value_reply v r       the reply of a call that hands back one value, as the number that v makes of it
--     written o new old     what a lent slice holds afterwards: the result, or, refused, what it held before
-- Theorems (proofs/Answers):
--     number-range     the numbers are 1 to 13
--     number_is        the number of a reply is that of its outcome
-- Assumes nothing.
use Rattle.std.specs.Prelude.{Result, Ok, Err, List, [], ◌∷◌, ℕ}
use Rattle.refusal.specs.declared.Refusal.{Refusal}
use Rattle.refusal.specs.declared.Refusal.TheVariants.{Count, Contents, Index, Length, LooseWord, Over, Backwards, Vanishes, AllZero, Misfit, NoInverse, Line, Nesting}

abbrev pub Outcome : Type 0
Outcome = Result (Unit {0}) Refusal

abbrev pub number : Refusal → ℕ
number Count = 1
number Contents = 2
number Index = 3
number Length = 4
number LooseWord = 5
number Over = 6
number Backwards = 7
number Vanishes = 8
number AllZero = 9
number Misfit = 10
number NoInverse = 11
number Line = 12
number Nesting = 13

abbrev pub outcome_number : Outcome → ℕ
outcome_number (Ok _) = 0
outcome_number (Err why) = number why

pub record Reply : Type 0 where
  pub number : ℕ
  pub values : List ℕ

abbrev pub reply : Outcome → List ℕ → Reply
reply (Ok _) values = record { number = 0; values = values }
reply (Err why) values = record { number = number why; values = [] }

abbrev pub value_reply : {A : Type 0} → (A → ℕ) → Result A Refusal → Reply
value_reply value (Ok x) = record { number = 0; values = value x ∷ [] }
value_reply value (Err why) = record { number = number why; values = [] }

abbrev pub outcome_reply : Outcome → Reply
outcome_reply outcome = reply outcome []

abbrev pub written : Outcome → List ℕ → List ℕ → List ℕ
written (Ok _) new old = new
written (Err why) new old = old
