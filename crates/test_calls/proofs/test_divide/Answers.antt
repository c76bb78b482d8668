-- `test_calls::test_divide` meets its contract: what the call ensures, with the number in place of the answer.
-- Assumes nothing.
use Rattle.test_calls.proofs.Answers.{counted}
use Rattle.test_calls.proofs.test_divide.Goals as goal

pub returns : goal.returns
returns c = let call = c.divide in record { number = counted call.result call.ensures.answer c.outcome_number.ensures; quotient = call.ensures.quotient; remainder = call.ensures.remainder }
