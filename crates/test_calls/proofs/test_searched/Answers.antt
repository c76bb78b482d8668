-- `test_calls::test_searched` meets its contract: what the call ensures of the words that it read, with the number in place of the answer.
-- Assumes nothing.
use Rattle.test_calls.proofs.Answers.{told}
use Rattle.refusal.proofs.Clauses.{number_and_values}
use Rattle.test_calls.proofs.test_searched.Goals as goal

pub returns : goal.returns
returns c = let note = c.note_read.ensures in number_and_values (told c.args.answer.now c.find_extent.ensures.read note.number note.values)
