-- `test_calls::test_check` meets its contract: what the call ensures, with the number in place of the answer.
-- Assumes nothing.
use Rattle.test_calls.proofs.Answers.{counted}
use Rattle.test_calls.proofs.test_check.Goals as goal

pub returns : goal.returns
returns c = let call = c.check in record { number = counted call.result call.ensures.answer c.outcome_number.ensures }
